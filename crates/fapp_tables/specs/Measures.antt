-- What a record adds between two choices, as one number each.
use Rattle.std.specs.Prelude.{ℕ, ◌+◌, ◌*◌, if◌then◌else◌}
use Rattle.fapp_model.specs.declared.choice.Choice.{Choice}
use Rattle.fapp_model.specs.declared.instance.Instance.{Instance}
use Rattle.fapp_model.specs.declared.limits.TheConstants.{S_SPAN}
use Rattle.fapp_model.specs.declared.literal.Literal.{Literal}
use Rattle.fapp_model.specs.declared.record.Record.{Record}
use Rattle.fapp_model.specs.search.Clashes.{is_hard_bad}
use Rattle.fapp_model.specs.search.Pairs.{Pair}
use Rattle.fapp_model.specs.search.Weights.{bad_before, bad_further, between}

-- 1 where a record is hard-bad at a level
abbrev pub hard_part : ℕ → Record → Choice → Choice → ℕ
hard_part level r a b = if is_hard_bad level r a b then 1 else 0

-- the pair of a record for a level, as one number
abbrev pub coded_part : ℕ → Record → Choice → Choice → ℕ
coded_part level r a b = bad_before level r a b * S_SPAN + bad_further level r a b

-- the sum of a measure over the records between two literals, whichever of the two a record names
-- first
abbrev pub both_between : Instance → (Record → Choice → Choice → ℕ) → Literal → Literal → ℕ
both_between instance measure a b = between instance measure a b + between instance measure b a

-- the pairs of the records between two literals, added part by part
abbrev pub pair_between : Instance → ℕ → Literal → Literal → Pair
pair_between instance level a b =
    record {
      v = both_between instance (bad_before level) a b;
      s = both_between instance (bad_further level) a b;
    }

-- a pair as one number
abbrev pub pair_code : Pair → ℕ
pair_code p = p.v * S_SPAN + p.s
