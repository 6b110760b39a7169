-- The instance that the contents of a text are.
use Rattle.std.specs.Prelude.{ℕ, ◌==◌, nat_lt, List, [], ◌∷◌, map, Option, if◌then◌else◌}
use Rattle.std.specs.Option.{unwrap_or}
use Rattle.std.specs.List.{fold, position}
use Rattle.fapp_model.specs.declared.instance.Path.{Path}
use Rattle.fapp_model.specs.declared.instance.Instance.{Instance}
use Rattle.fapp_model.specs.declared.record.Record.{Record}
use Rattle.fapp_model.specs.declared.record.Record.TheVariants as records
use Rattle.record_reader.specs.declared.entry.DomainEntry.{DomainEntry}
use Rattle.record_reader.specs.declared.entry.PathEntry.{PathEntry}
use Rattle.record_reader.specs.declared.entry.ConstraintEntry.{ConstraintEntry}
use Rattle.record_reader.specs.declared.entry.Pending.{Pending}
use Rattle.record_reader.specs.declared.entry.Pending.TheVariants as links
use Rattle.record_reader.specs.declared.entry.Demand.{Demand}
use Rattle.record_reader.specs.declared.entry.Demand.TheVariants.{Freq, Pol, Same, Other}
use Rattle.record_reader.specs.Contents.{Domains}

-- a number at its place among ascending ones, where it stands once
abbrev pub put : ℕ → List ℕ → List ℕ
put n [] = n ∷ []
put n (m ∷ rest) =
    if nat_lt n m then n ∷ m ∷ rest else (if n == m then m ∷ rest else m ∷ put n rest)

abbrev pub put_entry : ℕ → List ℕ → DomainEntry → List ℕ
put_entry domain so_far entry =
    if entry.domain == domain then put entry.frequency so_far else so_far

-- the frequencies of a domain, ascending
abbrev pub frequencies : List DomainEntry → ℕ → List ℕ
frequencies entries domain = fold (put_entry domain) [] entries

abbrev pub paths_of : List Pending → List PathEntry
paths_of [] = []
paths_of (links.Path entry ∷ rest) = entry ∷ paths_of rest
paths_of (links.Constraint entry ∷ rest) = paths_of rest

abbrev pub constraints_of : List Pending → List ConstraintEntry
constraints_of [] = []
constraints_of (links.Path entry ∷ rest) = constraints_of rest
constraints_of (links.Constraint entry ∷ rest) = entry ∷ constraints_of rest

-- the position of the path of a number
abbrev pub place_of : List PathEntry → ℕ → Option ℕ
place_of paths number = position (λ entry. entry.number == number) paths

abbrev pub path_of : Domains → PathEntry → Path
path_of domains entry =
    record { number = entry.number; freqs = domains entry.domain; pol = entry.pol }

-- a rule between the paths at two positions
abbrev pub record_between : ℕ → ℕ → Demand → Record
record_between i j (Freq equal n) = records.Freq i j equal n
record_between i j (Pol equal) = records.Pol i j equal
record_between i j (Same dist) = records.Same i j dist
record_between i j (Other dist) = records.Other i j dist

abbrev pub record_of : List PathEntry → ConstraintEntry → Record
record_of paths entry =
    record_between (unwrap_or (place_of paths entry.first) 0)
    (unwrap_or (place_of paths entry.second) 0) entry.rule

-- paths and constraint records in the order of their lines
abbrev pub instance_of : Domains → List Pending → Instance
instance_of domains links = record {
  paths = map (path_of domains) (paths_of links);
  records = map (record_of (paths_of links)) (constraints_of links);
}
