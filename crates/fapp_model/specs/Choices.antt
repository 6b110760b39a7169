-- What a path may choose from.
use Rattle.std.specs.Prelude.{ℕ, zero, List, [], ◌∷◌, ℤ, pos, negsuc, map, flat_map, slice_index_or}
use Rattle.fapp_model.specs.declared.instance.Path.{Path}
use Rattle.fapp_model.specs.declared.choice.Choice.{Choice}

-- -1 and 1
abbrev pub both_polarizations : List ℤ
both_polarizations = negsuc 0 ∷ pos 1 ∷ []

-- the polarizations that a path may use: both where 0 says that it is free
abbrev pub polarizations : ℤ → List ℤ
polarizations (pos zero) = both_polarizations
polarizations polarization = polarization ∷ []

-- the choices at one frequency
abbrev pub choices_with : ℤ → ℕ → List Choice
choices_with polarization frequency =
    map (λ p. record { freq = frequency; pol = p }) (polarizations polarization)

-- the choices of a path: its frequencies as they ascend, and at each one -1 before 1
abbrev pub choices : Path → List Choice
choices path = flat_map (choices_with path.pol) path.freqs

-- what stands past the end of a list of choices
abbrev pub no_choice : Choice
no_choice = record { freq = 0; pol = pos 0 }

-- a path's choice by its index
abbrev pub choice : Path → ℕ → Choice
choice path index = slice_index_or (choices path) index no_choice
