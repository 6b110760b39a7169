-- What is known of a prefix before its choices are tried.
use Rattle.std.specs.Prelude.{ℕ, List, Contains, Ok}
use Rattle.std.specs.declared.alloc.AllocError.{AllocError}
use Rattle.fapp_model.specs.declared.instance.Instance.{Instance}
use Rattle.fapp_model.specs.declared.literal.Literal.{Literal}
use Rattle.subtree_search.specs.declared.enter.Arrival.{Arrival}
use Rattle.subtree_search.specs.declared.enter.Arrival.TheVariants.{Cited, Decided, Ticked}
use Rattle.search_log.specs.declared.line.Ref.TheVariants.{Row}
use Rattle.search_log.specs.Contents.{known_row}
use Rattle.search_log.specs.Shares.{row_content}
use Rattle.settle_laws.specs.declared.found.Found.TheVariants.{Settled}
use Rattle.settle_laws.specs.Founds.{Searched}
use Rattle.settle_laws.specs.Ticked.{IsTicked}
use Rattle.settle_laws.specs.Worlds.{World}

-- it is settled, by a row that was copied or otherwise, or a tick was taken
abbrev pub IsArrival : Instance → ℕ → List Literal → World → World → Arrival → Type 0
IsArrival instance level literals old new (Decided found) =
    Searched {E = AllocError} instance level literals old new (Ok found)
IsArrival instance level literals old new (Cited cite tag) =
    Searched {E = AllocError} instance level literals old new (Ok (Settled (Row cite.row) tag))
    × Contains new.shared.copied (known_row cite.row (row_content cite.content))
IsArrival instance level literals old new (Ticked tag) =
    IsTicked instance level literals old new tag
