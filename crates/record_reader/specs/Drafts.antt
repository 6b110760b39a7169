-- The instance of some entries of a text, as far as it is built.
use Rattle.std.specs.Prelude.{◌≡◌, ℕ, ◌≤◌, List, [], ◌∷◌, ◌++◌, map, sum_by, Option, Some, None, Result, Ok, Err}
use Rattle.fapp_model.specs.declared.limits.TheConstants.{MAX_CHOICES}
use Rattle.fapp_model.specs.declared.record.Record.{Record}
use Rattle.fapp_text.specs.declared.failure.LineFault.{LineFault}
use Rattle.fapp_text.specs.declared.failure.Failure.{Failure}
use Rattle.fapp_text.specs.declared.failure.Failure.TheVariants.{Bad, NoMemory}
use Rattle.record_reader.specs.declared.draft.Draft.{Draft}
use Rattle.record_reader.specs.declared.cause.Cause.{Cause}
use Rattle.record_reader.specs.declared.entry.Pending.{Pending}
use Rattle.record_reader.specs.declared.reader.Reader.{Reader}
use Rattle.record_reader.specs.declared.entry.Demand.{Demand}
use Rattle.record_reader.specs.Instances.{paths_of, constraints_of, path_of, record_of, record_between}
use Rattle.record_reader.specs.Readers.{domains_of}
use Rattle.record_reader.specs.Links.{choice_count, link_refusal, line_of, fault_at}

-- what some links are among all that a reader holds
pub record IsDraft (reader : Reader) (earlier : List Pending) (draft : Draft) : Type 0 where
  pub paths : draft.paths.items ≡ map (path_of (domains_of reader)) (paths_of earlier)
  pub records : draft.records.items ≡ map (record_of (paths_of reader.links))
      (constraints_of earlier)
  pub choices : draft.choices ≡ sum_by (choice_count (domains_of reader)) (paths_of earlier)
  pub few : draft.choices ≤ MAX_CHOICES

abbrev pub RefusesAs : Option (LineFault Cause) → Failure (LineFault Cause) → Type 0
RefusesAs refused (Bad bad) = refused ≡ Some bad
RefusesAs refused NoMemory = Unit {0}

-- a draft of one more link, or why the whole text refuses it
abbrev pub DraftGrows : Reader → List Pending → Pending →
    Result (Unit {0}) (Failure (LineFault Cause)) → Draft → Type 0
DraftGrows reader earlier link (Ok done) new =
    (link_refusal (domains_of reader) (paths_of reader.links) earlier link ≡ None)
    × IsDraft reader (earlier ++ link ∷ []) new
DraftGrows reader earlier link (Err failure) new =
    RefusesAs (fault_at (line_of link) (link_refusal (domains_of reader) (paths_of reader.links)
    earlier link)) failure

-- the record between two positions, where both are known
abbrev pub record_by : Option ℕ → Option ℕ → Demand → Option Record
record_by None second rule = None
record_by (Some i) None rule = None
record_by (Some i) (Some j) rule = Some (record_between i j rule)
