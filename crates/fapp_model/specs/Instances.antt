-- Which paths, records and instances are valid.
use Rattle.std.specs.Prelude.{◌≡◌, ◌≢◌, ◌⊎◌, ℕ, ◌<◌, ◌≤◌, List, ℤ, pos, negsuc, length, slice_index, All, AllPairs, sum_by}
use Rattle.std.specs.List.Sorted.{IsStrictlyIncreasing}
use Rattle.fapp_model.specs.declared.instance.Path.{Path}
use Rattle.fapp_model.specs.declared.instance.Instance.{Instance}
use Rattle.fapp_model.specs.declared.record.Record.{Record}
use Rattle.fapp_model.specs.declared.record.Record.TheVariants.{Freq, Pol, Same, Other}
use Rattle.fapp_model.specs.declared.limits.TheConstants.{MAX_NUMBER, MAX_PATHS, MAX_RECORDS, MAX_DOMAIN_FREQUENCIES, MAX_CHOICES}
use Rattle.fapp_model.specs.declared.level.TheConstants.{MAX_LEVELS}
use Rattle.fapp_model.specs.Choices.{choices}
use Rattle.fapp_model.specs.Levels.{levels_of}
use Rattle.fapp_model.specs.Records.{first_path, second_path}

-- a number that a text can have
abbrev pub IsNumber : ℕ → Type 0
IsNumber n = n ≤ MAX_NUMBER

-- -1, 0 or 1
abbrev pub IsPolarization : ℤ → Type 0
IsPolarization polarization =
    (polarization ≡ negsuc 0) ⊎ ((polarization ≡ pos 0) ⊎ (polarization ≡ pos 1))

pub record IsPath (path : Path) : Type 0 where
  pub number : IsNumber path.number
  pub some : 0 < length path.freqs
  pub few : length path.freqs ≤ MAX_DOMAIN_FREQUENCIES
  pub numbers : All IsNumber path.freqs
  pub ascending : IsStrictlyIncreasing path.freqs
  pub polarization : IsPolarization path.pol

-- a distance for each of so many levels, none above the one before it, and 0 where there is no
-- level
pub record AreDistances (levels : ℕ) (dist : List ℕ) : Type 0 where
  pub count : length dist ≡ MAX_LEVELS
  pub numbers : All IsNumber dist
  pub falling : AllPairs (λ a b. b ≤ a) dist
  pub ended : (level : ℕ) → levels ≤ level → slice_index dist level ≡ 0

-- the numbers that a record has beside its paths
abbrev pub HasNumbers : ℕ → Record → Type 0
HasNumbers levels (Freq i j equal n) = IsNumber n
HasNumbers levels (Pol i j equal) = Unit {0}
HasNumbers levels (Same i j dist) = AreDistances levels dist
HasNumbers levels (Other i j dist) = AreDistances levels dist

-- a record of an instance of so many levels and paths: it names two different ones
pub record IsRecord (levels paths : ℕ) (r : Record) : Type 0 where
  pub first : first_path r < paths
  pub second : second_path r < paths
  pub different : first_path r ≢ second_path r
  pub numbers : HasNumbers levels r

pub record IsInstance (instance : Instance) : Type 0 where
  pub paths : All IsPath instance.paths
  pub apart : AllPairs (λ p q. p.number ≢ q.number) instance.paths
  pub records : All (IsRecord (levels_of instance) (length instance.paths)) instance.records
  pub few_paths : length instance.paths ≤ MAX_PATHS
  pub few_records : length instance.records ≤ MAX_RECORDS
  pub few_choices : sum_by (λ p. length (choices p)) instance.paths ≤ MAX_CHOICES
