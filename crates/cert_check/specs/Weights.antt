-- Weights of the code, as pairs, and how large they can be.
use Rattle.std.specs.Prelude.{ℕ, ◌*◌, ◌^◌}
use Rattle.fapp_model.specs.declared.level.TheConstants.{MAX_LEVELS}
use Rattle.fapp_model.specs.declared.limits.TheConstants.{MAX_RECORDS}
use Rattle.fapp_model.specs.search.Pairs.{Pair}
use Rattle.cert_check.specs.declared.weight.Weight.{Weight}

abbrev pub pair_of : Weight → Pair
pair_of w = record { v = w.v; s = w.s }

-- no less than what the records add that name one literal's path first and another's second
abbrev pub pair_most : ℕ
pair_most = MAX_RECORDS * MAX_LEVELS

-- no less than what the records add between a literal and at most 2^14 others that name its path
-- first
abbrev pub row_most : ℕ
row_most = 2 ^ 14 * pair_most

-- no less than what a choice adds, by records that name its path first or second
abbrev pub added_most : ℕ
added_most = 2 * row_most

-- no less than what at most 2^14 literals weigh, or what at most 2^13 further paths add
abbrev pub whole_most : ℕ
whole_most = 2 ^ 14 * row_most
