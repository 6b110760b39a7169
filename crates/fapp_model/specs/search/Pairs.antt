-- Pairs of counts: violations one level below a level, and their sum over the levels further below.
use Rattle.std.specs.Prelude.{◌≡◌, ◌⊎◌, ℕ, ◌<◌, ◌≤◌}
use Rattle.fapp_model.specs.declared.triple.Triple.{Triple}

pub record Pair : Type 0 where
  pub v : ℕ
  pub s : ℕ

abbrev pub IsPairBelow : Pair → Pair → Type 0
IsPairBelow p q = (p.v < q.v) ⊎ ((p.v ≡ q.v) × (p.s < q.s))

abbrev pub IsPairAtMost : Pair → Pair → Type 0
IsPairAtMost p q = (p.v < q.v) ⊎ ((p.v ≡ q.v) × (p.s ≤ q.s))

-- the pair that a tag with a limit asks to stay below
abbrev pub limit_of : Triple → Pair
limit_of t = record { v = t.v; s = t.s }
