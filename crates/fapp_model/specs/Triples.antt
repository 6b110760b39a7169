-- The order of costs.
use Rattle.std.specs.Prelude.{◌≡◌, ◌⊎◌, ◌<◌}
use Rattle.fapp_model.specs.declared.triple.Triple.{Triple}

-- first the level, then the violations one level below, then their sum further below
abbrev pub IsBelow : Triple → Triple → Type 0
IsBelow t u = (t.k < u.k) ⊎ ((t.k ≡ u.k) × ((t.v < u.v) ⊎ ((t.v ≡ u.v) × (t.s < u.s))))

-- the same triple or one below
abbrev pub IsAtMost : Triple → Triple → Type 0
IsAtMost t u = IsBelow t u ⊎ (t ≡ u)
