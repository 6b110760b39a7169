-- What is so once a tick was taken at some literals.
use Rattle.std.specs.Prelude.{◌≡◌, ℕ, ◌+◌, List}
use Rattle.fapp_model.specs.declared.instance.Instance.{Instance}
use Rattle.fapp_model.specs.declared.literal.Literal.{Literal}
use Rattle.fapp_model.specs.declared.tag.Tag.{Tag}
use Rattle.fapp_model.specs.InstanceTags.{IsTagFor}
use Rattle.settle_laws.specs.Founds.{IsTarget}
use Rattle.settle_laws.specs.Levels.{target_code}
use Rattle.settle_laws.specs.Stops.{ComesAfter, IsUndecided, stop_at}
use Rattle.settle_laws.specs.Worlds.{Keeps, World}

-- at the target, where neither the bound, nor a row, nor the test whether they are dead decided
pub record IsTicked (instance : Instance) (level : ℕ) (literals : List Literal) (old new : World)
    (tag : Tag) : Type 0 where
  pub keeps : Keeps instance old new
  pub least : new.bound.least ≡ old.bound.least
  pub took : old.fuel ≡ new.fuel + 1
  pub log : new.log ≡ old.log
  pub after : ComesAfter old (stop_at new literals)
  pub undecided : IsUndecided instance level (stop_at new literals)
  pub exact : tag.code ≡ target_code level new.bound.told
  pub target : IsTarget level new.bound tag.code
  pub own : IsTagFor instance tag
