-- Small instances whose work orders, jobs and tries are known.
use Rattle.std.specs.Prelude.{true, false, [], ◌∷◌, pos, negsuc}
use Rattle.fapp_model.specs.declared.instance.Instance.{Instance}
use Rattle.dead_laws.specs.ExampleInstances.{at_each_level, instance_with, path_with}
use Rattle.fapp_model.specs.declared.record.Record.TheVariants.{Freq, Same, Other}

-- four paths, of which 0 and 2 share more records than 1 and 3
unfoldable pub small_example : Instance
small_example = instance_with
    (path_with 1 (1000 ∷ 1040 ∷ []) (pos 1)
    ∷ path_with 2 (1100 ∷ 1140 ∷ 1180 ∷ []) (pos 1)
    ∷ path_with 3 (1000 ∷ 1040 ∷ 1080 ∷ []) (pos 1)
    ∷ path_with 4 (1100 ∷ 1140 ∷ 1180 ∷ []) (pos 0)
    ∷ [])
    (Freq 0 1 true 100
    ∷ Freq 2 3 true 100
    ∷ Freq 0 2 false 0
    ∷ Same 0 2 (100 ∷ 95 ∷ 90 ∷ 85 ∷ 80 ∷ 75 ∷ 70 ∷ 65 ∷ 60 ∷ 55 ∷ 50 ∷ [])
    ∷ Other 0 2 (60 ∷ 56 ∷ 52 ∷ 48 ∷ 44 ∷ 40 ∷ 36 ∷ 32 ∷ 28 ∷ 24 ∷ 20 ∷ [])
    ∷ Same 1 3 (100 ∷ 95 ∷ 90 ∷ 85 ∷ 80 ∷ 75 ∷ 70 ∷ 65 ∷ 60 ∷ 55 ∷ 50 ∷ [])
    ∷ Other 1 3 (60 ∷ 56 ∷ 52 ∷ 48 ∷ 44 ∷ 40 ∷ 36 ∷ 32 ∷ 28 ∷ 24 ∷ 20 ∷ [])
    ∷ [])

-- one path with one choice
unfoldable pub one_path : Instance
one_path = instance_with (path_with 9 (5 ∷ []) (negsuc 0) ∷ []) []

-- two paths, of which the second has one frequency only
unfoldable pub two_paths : Instance
two_paths = instance_with
    (path_with 1 (10 ∷ 20 ∷ []) (pos 1) ∷ path_with 2 (10 ∷ []) (pos 1) ∷ [])
    (Same 0 1 (at_each_level 10) ∷ [])
