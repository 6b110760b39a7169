-- What lines say, or the first line that is refused for itself or for the lines before it.
use Rattle.std.specs.Prelude.{ℕ, ◌+◌, nat_lt, nat_le, List, [], ◌∷◌, ◌++◌, length, Option, Some, None, is_some, Result, Ok, if◌then◌else◌}
use Rattle.fapp_model.specs.declared.level.TheConstants.{LEVELS}
use Rattle.fapp_model.specs.declared.limits.TheConstants.{MAX_PATHS, MAX_RECORDS, MAX_DOMAIN_RECORDS, MAX_DOMAIN_FREQUENCIES}
use Rattle.fapp_text.specs.declared.failure.LineFault.{LineFault}
use Rattle.record_reader.specs.declared.cause.Cause.{Cause}
use Rattle.record_reader.specs.declared.cause.Cause.TheVariants.{DuplicatePath, TooManyPaths, TooManyValues, TooManyRecords, DomainTooLarge}
use Rattle.record_reader.specs.declared.entry.DomainEntry.{DomainEntry}
use Rattle.record_reader.specs.declared.entry.PathEntry.{PathEntry}
use Rattle.record_reader.specs.declared.entry.ConstraintEntry.{ConstraintEntry}
use Rattle.record_reader.specs.declared.entry.Pending.TheVariants as links
use Rattle.record_reader.specs.declared.entry.Entry.{Entry}
use Rattle.record_reader.specs.declared.entry.Entry.TheVariants as entries
use Rattle.record_reader.specs.Contents.{Contents}
use Rattle.fapp_text.specs.Reading.{◌>>=◌, unless, at_line}
use Rattle.record_reader.specs.Fields.{fields_of}
use Rattle.record_reader.specs.Entries.{entry_of}
use Rattle.record_reader.specs.Instances.{frequencies, paths_of, constraints_of, place_of}

abbrev pub domain_refusal : List DomainEntry → DomainEntry → Option Cause
domain_refusal earlier entry =
    if nat_le MAX_DOMAIN_RECORDS (length earlier) then Some TooManyValues
    else (if nat_lt MAX_DOMAIN_FREQUENCIES
    (length (frequencies (earlier ++ entry ∷ []) entry.domain)) then Some DomainTooLarge
    else None)

abbrev pub path_refusal : List PathEntry → PathEntry → Option Cause
path_refusal earlier entry =
    if is_some (place_of earlier entry.number) then Some DuplicatePath
    else (if nat_le MAX_PATHS (length earlier) then Some TooManyPaths else None)

abbrev pub constraint_refusal : List ConstraintEntry → Option Cause
constraint_refusal earlier =
    if nat_le MAX_RECORDS (length earlier) then Some TooManyRecords else None

-- what an entry is refused for, after earlier ones
abbrev pub entry_refusal : Contents → Entry → Option Cause
entry_refusal earlier (entries.Domain entry) = domain_refusal earlier.domains entry
entry_refusal earlier (entries.Pending (links.Path entry)) =
    path_refusal (paths_of earlier.links) entry
entry_refusal earlier (entries.Pending (links.Constraint entry)) =
    constraint_refusal (constraints_of earlier.links)

abbrev pub with_entry : Contents → Entry → Contents
with_entry contents (entries.Domain entry) =
    record contents { domains = contents.domains ++ entry ∷ [] }
with_entry contents (entries.Pending link) = record contents { links = contents.links ++ link ∷ [] }

-- an entry after earlier ones
abbrev pub read_entry : Contents → Entry → Result Contents Cause
read_entry contents entry = unless (entry_refusal contents entry) (with_entry contents entry)

-- a line after earlier ones; without fields it is skipped
abbrev pub read_line : Contents → ℕ → List (List ℕ) → Result Contents Cause
read_line contents line [] = Ok contents
read_line contents line (word ∷ fields) = do
  entry ← entry_of LEVELS line (word ∷ fields)
  read_entry contents entry

-- lines after earlier ones, from a line number on
abbrev pub read_lines : Contents → ℕ → List (List ℕ) → Result Contents (LineFault Cause)
read_lines contents line [] = Ok contents
read_lines contents line (text ∷ rest) = do
  next ← at_line line (read_line contents line (fields_of text))
  read_lines next (line + 1) rest
