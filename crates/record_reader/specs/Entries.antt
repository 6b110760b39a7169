-- What a line says, and what it is refused for by itself. The number of levels is that of the
-- instance.
use Rattle.std.specs.Prelude.{ℕ, Bool, true, false, ◌||◌, ◌==◌, ◌+◌, ◌-◌, nat_lt, List, [], ◌∷◌, ◌++◌, length, drop, replicate, codes, Result, Ok, Err, if◌then◌else◌}
use Rattle.std.specs.Str.{bytes_eq}
use Rattle.fapp_model.specs.declared.level.TheConstants.{MAX_LEVELS}
use Rattle.record_reader.specs.declared.cause.Cause.{Cause}
use Rattle.record_reader.specs.declared.cause.Cause.TheVariants.{UnknownRecord, FieldCount, SelfPair, Increasing}
use Rattle.record_reader.specs.declared.entry.Entry.{Entry}
use Rattle.record_reader.specs.declared.entry.Entry.TheVariants as entries
use Rattle.record_reader.specs.declared.entry.Pending.TheVariants as links
use Rattle.record_reader.specs.declared.entry.Demand.{Demand}
use Rattle.record_reader.specs.declared.entry.Demand.TheVariants.{Freq, Pol, Same, Other}
use Rattle.record_reader.specs.declared.entry.Kind.{Kind}
use Rattle.record_reader.specs.declared.entry.Kind.TheVariants as kinds
use Rattle.fapp_text.specs.Reading.{◌>>=◌}
use Rattle.record_reader.specs.Fields.{field, number, numbers, either_word, polarization}

-- what the first field names
abbrev pub kind_of : List ℕ → Result Kind Cause
kind_of word =
    if bytes_eq word (codes "DM") then Ok kinds.Domain
    else (if bytes_eq word (codes "TR") then Ok kinds.Path
    else (if bytes_eq word (codes "CI") then Ok kinds.Imperative
    else (if bytes_eq word (codes "CE") then Ok kinds.Same
    else (if bytes_eq word (codes "CD") then Ok kinds.Other else Err UnknownRecord))))

-- how many fields a record has
abbrev pub field_count : ℕ → Kind → ℕ
field_count levels kinds.Domain = 3
field_count levels kinds.Path = 4
field_count levels kinds.Imperative = 6
field_count levels kinds.Same = 3 + levels
field_count levels kinds.Other = 3 + levels

-- a number is greater than the one before it
abbrev pub rises_after : ℕ → List ℕ → Bool
rises_after last [] = false
rises_after last (n ∷ rest) = nat_lt last n || rises_after n rest

abbrev pub rises : List ℕ → Bool
rises [] = false
rises (n ∷ rest) = rises_after n rest

abbrev pub rule_rises : Demand → Bool
rule_rises (Freq equal n) = false
rule_rises (Pol equal) = false
rule_rises (Same dist) = rises dist
rule_rises (Other dist) = rises dist

abbrev pub constraint : ℕ → ℕ → ℕ → Demand → Result Entry Cause
constraint line first second rule =
    if first == second then Err SelfPair
    else (if rule_rises rule then Err Increasing
    else Ok (entries.Pending (links.Constraint (record {
      line = line;
      first = first;
      second = second;
      rule = rule;
    }))))

abbrev pub domain_entry : List (List ℕ) → Result Entry Cause
domain_entry fields = do
  domain ← number (field fields 1)
  frequency ← number (field fields 2)
  Ok (entries.Domain (record { domain = domain; frequency = frequency }))

abbrev pub path_entry : ℕ → List (List ℕ) → Result Entry Cause
path_entry line fields = do
  path ← number (field fields 1)
  domain ← number (field fields 2)
  pol ← polarization (field fields 3)
  Ok (entries.Pending (links.Path (record {
    line = line;
    number = path;
    domain = domain;
    pol = pol;
  })))

-- the rule of frequencies or that of polarizations, whose number is ignored
abbrev pub imperative : Bool → Bool → ℕ → Demand
imperative true equal n = Freq equal n
imperative false equal n = Pol equal

abbrev pub imperative_entry : ℕ → List (List ℕ) → Result Entry Cause
imperative_entry line fields = do
  first ← number (field fields 1)
  second ← number (field fields 2)
  of_frequencies ← either_word (codes "F") (codes "P") (field fields 3)
  equal ← either_word (codes "E") (codes "I") (field fields 4)
  n ← number (field fields 5)
  constraint line first second (imperative of_frequencies equal n)

-- the rule of equal polarizations or that of different ones
abbrev pub compatible : Bool → List ℕ → Demand
compatible true dist = Same dist
compatible false dist = Other dist

-- 0 where there is no level
abbrev pub with_zeros : List ℕ → List ℕ
with_zeros dist = dist ++ replicate (MAX_LEVELS - length dist) 0

-- the distances of levels
abbrev pub distances : List (List ℕ) → Result (List ℕ) Cause
distances texts = do
  dist ← numbers texts
  Ok (with_zeros dist)

abbrev pub compatible_entry : Bool → ℕ → List (List ℕ) → Result Entry Cause
compatible_entry of_equal line fields = do
  first ← number (field fields 1)
  second ← number (field fields 2)
  dist ← distances (drop 3 fields)
  constraint line first second (compatible of_equal dist)

abbrev pub entry_by : Kind → ℕ → List (List ℕ) → Result Entry Cause
entry_by kinds.Domain line fields = domain_entry fields
entry_by kinds.Path line fields = path_entry line fields
entry_by kinds.Imperative line fields = imperative_entry line fields
entry_by kinds.Same line fields = compatible_entry true line fields
entry_by kinds.Other line fields = compatible_entry false line fields

-- what a line with fields says
abbrev pub entry_of : ℕ → ℕ → List (List ℕ) → Result Entry Cause
entry_of levels line fields = do
  kind ← kind_of (field fields 0)
  if length fields == field_count levels kind then entry_by kind line fields else Err FieldCount
