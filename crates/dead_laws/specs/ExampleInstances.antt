-- Small instances whose arcs and dead partial assignments are known.
use Rattle.std.specs.Prelude.{ℕ, true, List, [], ◌∷◌, ℤ, pos, replicate}
use Rattle.fapp_model.specs.declared.instance.Instance.{Instance}
use Rattle.fapp_model.specs.declared.instance.Path.{Path}
use Rattle.fapp_model.specs.declared.level.TheConstants.{MAX_LEVELS}
use Rattle.fapp_model.specs.declared.record.Record.{Record}
use Rattle.fapp_model.specs.declared.record.Record.TheVariants.{Pol, Same, Other}

abbrev pub path_with : ℕ → List ℕ → ℤ → Path
path_with number freqs polarization = record { number = number; freqs = freqs; pol = polarization }

-- an instance of some paths and records, with the usual number of levels
abbrev pub instance_with : List Path → List Record → Instance
instance_with paths records = record { paths = paths; records = records }

-- one distance for each level
abbrev pub at_each_level : ℕ → List ℕ
at_each_level distance = replicate MAX_LEVELS distance

-- Two paths of one frequency, the second with its polarization free. Equal polarizations are
-- demanded, although they are too close at each level.
unfoldable pub tied_pair : Instance
tied_pair = instance_with
    (path_with 1 (10 ∷ []) (pos 1) ∷ path_with 2 (10 ∷ []) (pos 0) ∷ [])
    (Same 0 1 (at_each_level 50) ∷ Other 0 1 (at_each_level 0) ∷ Pol 0 1 true ∷ [])

-- three paths of two frequencies each, no two of which may have one at any level
unfoldable pub three_alike : Instance
three_alike = instance_with
    (path_with 1 (10 ∷ 20 ∷ []) (pos 1) ∷ path_with 2 (10 ∷ 20 ∷ []) (pos 1)
    ∷ path_with 3 (10 ∷ 20 ∷ []) (pos 1) ∷ [])
    (Same 0 1 (at_each_level 10) ∷ Same 0 2 (at_each_level 10) ∷ Same 1 2 (at_each_level 10) ∷ [])
