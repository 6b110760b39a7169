-- What entries that are not refused have in common.
use Rattle.std.specs.Prelude.{◌≢◌, ℕ, ◌≤◌, List, length, All, AllPairs}
use Rattle.std.specs.List.Sorted.{IsStrictlyIncreasing}
use Rattle.fapp_model.specs.declared.level.TheConstants.{LEVELS}
use Rattle.fapp_model.specs.declared.limits.TheConstants.{MAX_PATHS, MAX_RECORDS, MAX_DOMAIN_FREQUENCIES}
use Rattle.fapp_model.specs.Instances.{IsNumber, IsPolarization, AreDistances}
use Rattle.record_reader.specs.declared.entry.DomainEntry.{DomainEntry}
use Rattle.record_reader.specs.declared.entry.PathEntry.{PathEntry}
use Rattle.record_reader.specs.declared.entry.ConstraintEntry.{ConstraintEntry}
use Rattle.record_reader.specs.declared.entry.Demand.{Demand}
use Rattle.record_reader.specs.declared.entry.Demand.TheVariants.{Freq, Pol, Same, Other}
use Rattle.record_reader.specs.declared.entry.Pending.{Pending}
use Rattle.record_reader.specs.declared.entry.Pending.TheVariants as links
use Rattle.record_reader.specs.declared.entry.Entry.{Entry}
use Rattle.record_reader.specs.declared.entry.Entry.TheVariants as entries
use Rattle.record_reader.specs.Contents.{Contents, Domains}
use Rattle.record_reader.specs.Instances.{frequencies, paths_of, constraints_of}

abbrev pub IsDomainEntry : DomainEntry → Type 0
IsDomainEntry entry = IsNumber entry.frequency

pub record IsPathEntry (entry : PathEntry) : Type 0 where
  pub number : IsNumber entry.number
  pub polarization : IsPolarization entry.pol

-- what a constraint says where there are so many levels
abbrev pub IsDemand : ℕ → Demand → Type 0
IsDemand levels (Freq equal n) = IsNumber n
IsDemand levels (Pol equal) = Unit {0}
IsDemand levels (Same dist) = AreDistances levels dist
IsDemand levels (Other dist) = AreDistances levels dist

pub record IsConstraintEntry (levels : ℕ) (entry : ConstraintEntry) : Type 0 where
  pub different : entry.first ≢ entry.second
  pub rule : IsDemand levels entry.rule

-- what a line says where there are so many levels
abbrev pub IsEntryOf : ℕ → Entry → Type 0
IsEntryOf levels (entries.Domain entry) = IsDomainEntry entry
IsEntryOf levels (entries.Pending (links.Path entry)) = IsPathEntry entry
IsEntryOf levels (entries.Pending (links.Constraint entry)) = IsConstraintEntry levels entry

pub record ArePendings (links : List Pending) : Type 0 where
  pub paths : All IsPathEntry (paths_of links)
  pub apart : AllPairs (λ p q. p.number ≢ q.number) (paths_of links)
  pub constraints : All (IsConstraintEntry LEVELS) (constraints_of links)
  pub few_paths : length (paths_of links) ≤ MAX_PATHS
  pub few_records : length (constraints_of links) ≤ MAX_RECORDS

pub record AreDomains (domains : Domains) : Type 0 where
  pub numbers : (domain : ℕ) → All IsNumber (domains domain)
  pub ascending : (domain : ℕ) → IsStrictlyIncreasing (domains domain)
  pub few : (domain : ℕ) → length (domains domain) ≤ MAX_DOMAIN_FREQUENCIES

pub record IsContents (contents : Contents) : Type 0 where
  pub numbers : All IsDomainEntry contents.domains
  pub domains : AreDomains (frequencies contents.domains)
  pub links : ArePendings contents.links
