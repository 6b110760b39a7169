-- What the texts of made networks are.
use Rattle.std.specs.Prelude.{◌≡◌, ℕ, ◌+◌, ◌-◌, ◌*◌, ◌≤◌, List, length, Ok}
use Rattle.fapp_model.specs.declared.instance.Instance.{Instance}
use Rattle.fapp_model.specs.Instances.{IsInstance}
use Rattle.record_reader.specs.Texts.{instance_of_text}
use Rattle.fapp_gen.specs.declared.network.TheConstants.{MAX_GENERATED}
use Rattle.fapp_gen.specs.Generated.{network_text}

-- a text is that of an instance, which is valid and has so many paths and records
pub record IsTextOf (text : List ℕ) (path_count record_count : ℕ) : Type 0 where
  pub instance : Instance
  pub read : instance_of_text text ≡ Ok instance
  pub valid : IsInstance instance
  pub paths : length instance.paths ≡ path_count
  pub records : length instance.records ≡ record_count

-- whatever the number, a made network is an instance: four records for each path after the second,
-- and two
abbrev pub MadeNetworksAreInstances : Type 0
MadeNetworksAreInstances = (number paths : ℕ) → 2 ≤ paths → paths ≤ MAX_GENERATED
    → IsTextOf (network_text number paths) paths (2 + 4 * (paths - 2))

-- and its text is short
abbrev pub MadeNetworksAreShort : Type 0
MadeNetworksAreShort = (number paths : ℕ) → 2 ≤ paths → paths ≤ MAX_GENERATED
    → length (network_text number paths) ≤ 10000000
