-- A path has no choice left exactly where no choice remains.
use Rattle.std.proofs.Common.{◌≡◌, ℕ, ◌<◌, Bool, true, false, List, refl, Option, Some, None, is_none}
use Rattle.std.specs.List.{list_any, range_with_len}
use Rattle.std.proofs.lemmas.Bool.{both_ways}
use Rattle.fapp_model.specs.declared.instance.Instance.{Instance}
use Rattle.fapp_model.specs.declared.literal.Literal.{Literal}
use Rattle.fapp_model.specs.Assignments.{count_at}
use Rattle.fapp_model.specs.search.Pairs.{Pair}
use Rattle.fapp_model.specs.search.Partials.{literal}
use Rattle.fapp_model.specs.search.Weights.{added_pair}
use Rattle.fapp_model.proofs.Anys.{none-member}
use Rattle.fapp_model.proofs.Members.{in-range}
use Rattle.cert_lines.specs.acceptance.Judged.{remains, least_pair}
use Rattle.accept_laws.proofs.Judging.{least}
use Rattle.accept_laws.proofs.LeastFolds.{IsLeastOf}

module _ (excluded : Literal → Bool) (instance : Instance) (level : ℕ) (literals : List Literal) (path : ℕ) where
  abbrev pub kept : ℕ → Bool
  kept index = remains excluded instance level literals (literal path index)

  abbrev IsFound : Option Pair → Type 0
  IsFound o = IsLeastOf kept (λ index. added_pair instance level literals (literal path index)) (range_with_len 0 (count_at instance path)) o

  by-some : (index : ℕ) → index < count_at instance path → kept index ≡ true → (o : Option Pair) → IsFound o → false ≡ is_none o
  by-some index small on None h = absurd (both_ways (kept index) (h.fails index (in-range (count_at instance path) index small)) on)
  by-some index small on (Some p) h = refl

  by-none : list_any kept (range_with_len 0 (count_at instance path)) ≡ false → (o : Option Pair) → IsFound o → true ≡ is_none o
  by-none off None h = refl
  by-none off (Some p) h = absurd (both_ways (kept h.item) (none-member kept (range_with_len 0 (count_at instance path)) off h.item h.member) h.passes)

  pub some-left : (index : ℕ) → index < count_at instance path → kept index ≡ true → false ≡ is_none (least_pair excluded instance level literals path)
  some-left index small on = by-some index small on (least_pair excluded instance level literals path) (least excluded instance level literals path)

  pub none-left : list_any kept (range_with_len 0 (count_at instance path)) ≡ false → true ≡ is_none (least_pair excluded instance level literals path)
  none-left off = by-none off (least_pair excluded instance level literals path) (least excluded instance level literals path)
