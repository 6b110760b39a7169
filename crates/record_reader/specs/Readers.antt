-- What the reader keeps of the lines so far.
use Rattle.std.specs.Prelude.{◌≡◌, ℕ, List, [], Option, Some, None, Result, Ok, Err, length}
use Rattle.std.specs.Ordering.{nat_cmp}
use Rattle.std.specs.BTreeMap.{BTreeMap, get, btree_map_len}
use Rattle.std.specs.BTreeSet.{BTreeSet}
use Rattle.fapp_text.specs.declared.failure.Failure.{Failure}
use Rattle.fapp_text.specs.declared.failure.LineFault.{LineFault}
use Rattle.fapp_text.specs.Reading.{Fails}
use Rattle.record_reader.specs.declared.cause.Cause.{Cause}
use Rattle.record_reader.specs.declared.entry.DomainEntry.{DomainEntry}
use Rattle.record_reader.specs.declared.entry.PathEntry.{PathEntry}
use Rattle.record_reader.specs.declared.reader.Reader.{Reader}
use Rattle.record_reader.specs.Contents.{Contents, Domains}
use Rattle.record_reader.specs.Instances.{put_entry, frequencies, paths_of, constraints_of, place_of}

abbrev pub keys_of : Option (BTreeSet ℕ) → List ℕ
keys_of None = []
keys_of (Some set) = set.keys

-- the frequencies that a map has at each domain
abbrev pub frequencies_in : BTreeMap ℕ (BTreeSet ℕ) → Domains
frequencies_in domains domain = keys_of (get nat_cmp domains domain)

-- each domain has the entry's frequency beside its own, if it is the entry's domain
abbrev pub AddsFrequency : DomainEntry → BTreeMap ℕ (BTreeSet ℕ) → ℕ → BTreeMap ℕ (BTreeSet ℕ) →
    Type 0
AddsFrequency entry old count new =
    ((domain : ℕ) → frequencies_in new domain ≡ put_entry domain (frequencies_in old domain) entry)
    × (count ≡ length (frequencies_in new entry.domain))

abbrev pub domains_of : Reader → Domains
domains_of reader = frequencies_in reader.domains

-- a map has the position of each path
abbrev pub HasPositions : BTreeMap ℕ ℕ → List PathEntry → Type 0
HasPositions positions paths = (number : ℕ) → get nat_cmp positions number ≡ place_of paths number

-- the links, the positions of their paths, each domain's frequencies, and how many domain records
-- and constraints there are
pub record ReaderHolds (reader : Reader) (contents : Contents) : Type 0 where
  pub links : reader.links ≡ contents.links
  pub positions : HasPositions reader.positions (paths_of contents.links)
  pub paths : btree_map_len reader.positions ≡ length (paths_of contents.links)
  pub domains : (domain : ℕ) → frequencies_in reader.domains domain
      ≡ frequencies contents.domains domain
  pub domain_records : reader.domain_records ≡ length contents.domains
  pub constraints : reader.constraints ≡ length (constraints_of contents.links)

-- the reader holds what reading gives, or reading fails so
abbrev pub HoldsRead : Result Contents (LineFault Cause)
    → Result (Unit {0}) (Failure (LineFault Cause)) → Reader → Type 0
HoldsRead read (Ok done) reader =
    (contents : Contents) × (read ≡ Ok contents) × ReaderHolds reader contents
HoldsRead read (Err failure) reader = Fails failure read

-- what a line makes of each contents that the reader may hold
abbrev pub TakesLine : (Contents → Result Contents (LineFault Cause))
    → Reader → Result (Unit {0}) (Failure (LineFault Cause)) → Reader → Type 0
TakesLine read old result new =
    (contents : Contents) → ReaderHolds old contents → HoldsRead (read contents) result new

abbrev pub GivesReader : Result Contents (LineFault Cause) →
    Result Reader (Failure (LineFault Cause)) → Type 0
GivesReader read (Ok reader) =
    (contents : Contents) × (read ≡ Ok contents) × ReaderHolds reader contents
GivesReader read (Err failure) = Fails failure read
