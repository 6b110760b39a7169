-- The reader after one more entry.
use Rattle.std.proofs.Common.{◌≡◌, ℕ, ◌+◌, ◌<◌, ◌≤◌, Bool, true, false, ltb, leb, cond, List, [], ◌∷◌, ◌++◌, length, Option, Some, None, Ok, Err, refl, sym, ap, ◌∙◌, append-nil}
use Rattle.std.specs.Prelude.{is_some}
use Rattle.std.specs.Ordering.{nat_cmp}
use Rattle.std.specs.BTreeMap.{get, btree_map_len, Updates}
use Rattle.std.proofs.lemmas.Bool.{lt-leb, lt-ltb, le-ltb, leb-false}
use Rattle.std.proofs.lemmas.List.{length_push}
use Rattle.fapp_model.specs.declared.limits.TheConstants.{MAX_PATHS, MAX_RECORDS, MAX_DOMAIN_RECORDS, MAX_DOMAIN_FREQUENCIES}
use Rattle.fapp_text.specs.Reading.{fault, at_line}
use Rattle.record_reader.specs.declared.cause.Cause.TheVariants as causes
use Rattle.record_reader.specs.declared.entry.DomainEntry.{DomainEntry}
use Rattle.record_reader.specs.declared.entry.PathEntry.{PathEntry}
use Rattle.record_reader.specs.declared.entry.ConstraintEntry.{ConstraintEntry}
use Rattle.record_reader.specs.declared.entry.Pending.{Pending}
use Rattle.record_reader.specs.declared.entry.Pending.TheVariants as links
use Rattle.record_reader.specs.declared.entry.Entry.{Entry}
use Rattle.record_reader.specs.declared.entry.Entry.TheVariants as entries
use Rattle.record_reader.specs.declared.reader.Reader.{Reader}
use Rattle.record_reader.specs.Contents.{Contents}
use Rattle.record_reader.specs.Instances.{put_entry, frequencies, paths_of, constraints_of, place_of}
use Rattle.record_reader.specs.LineReading.{read_entry}
use Rattle.record_reader.specs.Readers.{ReaderHolds, AddsFrequency, frequencies_in}
use Rattle.record_reader.proofs.LinkLists.{paths_append, constraints_append}
use Rattle.record_reader.proofs.PathPositions.{places_push}
use Rattle.record_reader.proofs.Frequencies.{frequencies_push}

-- the contents that an entry leads to, held by a reader
abbrev pub HoldsMore : Contents → ℕ → Entry → Reader → Type 0
HoldsMore contents line entry reader = (more : Contents) × (at_line line (read_entry contents entry) ≡ Ok more) × ReaderHolds reader more

abbrev with_link : Contents → Pending → Contents
with_link contents link = record contents { links = contents.links ++ link ∷ [] }

pub constraint_added : (old new : Reader) (contents : Contents) (entry : ConstraintEntry) (line : ℕ) → ReaderHolds old contents → old.constraints < MAX_RECORDS
    → new.links ≡ old.links ++ links.Constraint entry ∷ [] → new ≡ record old { links = new.links; constraints = old.constraints + 1 }
    → HoldsMore contents line (entries.Pending (links.Constraint entry)) new
constraint_added old new contents entry line held few pushed same =
    let link : Pending = links.Constraint entry in
    let paths : paths_of (contents.links ++ link ∷ []) ≡ paths_of contents.links = paths_append contents.links (link ∷ []) ∙ append-nil (paths_of contents.links) in
    let more : constraints_of (contents.links ++ link ∷ []) ≡ constraints_of contents.links ++ entry ∷ [] = constraints_append contents.links (link ∷ []) in
    let free : leb MAX_RECORDS (length (constraints_of contents.links)) ≡ false = lt-leb MAX_RECORDS (length (constraints_of contents.links)) (rw held.constraints at few) in (
      with_link contents link,
      rw free refl,
      record {
        links = pushed ∙ ap (λ ls. ls ++ link ∷ []) held.links;
        positions = λ n. ap (λ r. get nat_cmp r.positions n) same ∙ held.positions n ∙ sym (ap (λ ps. place_of ps n) paths);
        paths = ap (λ r. btree_map_len r.positions) same ∙ held.paths ∙ sym (ap length paths);
        domains = λ d. ap (λ r. frequencies_in r.domains d) same ∙ held.domains d;
        domain_records = ap (λ r. r.domain_records) same ∙ held.domain_records;
        constraints = ap (λ r. r.constraints) same ∙ sym (ap length more ∙ length_push (constraints_of contents.links) entry ∙ ap (λ n. n + 1) (sym held.constraints));
      },
    )

pub path_added : (old new : Reader) (contents : Contents) (entry : PathEntry) (line : ℕ) → ReaderHolds old contents → get nat_cmp old.positions entry.number ≡ None
    → btree_map_len old.positions < MAX_PATHS → Updates nat_cmp old.positions new.positions entry.number (Some (btree_map_len old.positions))
    → btree_map_len new.positions ≡ btree_map_len old.positions + 1
    → new.links ≡ old.links ++ links.Path entry ∷ [] → new ≡ record old { links = new.links; positions = new.positions }
    → HoldsMore contents line (entries.Pending (links.Path entry)) new
path_added old new contents entry line held none few u longer pushed same =
    let link : Pending = links.Path entry in
    let earlier : List PathEntry = paths_of contents.links in
    let more : paths_of (contents.links ++ link ∷ []) ≡ earlier ++ entry ∷ [] = paths_append contents.links (link ∷ []) in
    let others : constraints_of (contents.links ++ link ∷ []) ≡ constraints_of contents.links = constraints_append contents.links (link ∷ []) ∙ append-nil (constraints_of contents.links) in
    let free : leb MAX_PATHS (length earlier) ≡ false = lt-leb MAX_PATHS (length earlier) (rw held.paths at few) in
    let absent : is_some (place_of earlier entry.number) ≡ false = ap is_some (sym (held.positions entry.number) ∙ none) in (
      with_link contents link,
      rw (absent, free) refl,
      record {
        links = pushed ∙ ap (λ ls. ls ++ link ∷ []) held.links;
        positions = λ n. places_push earlier entry old.positions new.positions held.positions none (rw held.paths at u) n ∙ sym (ap (λ ps. place_of ps n) more);
        paths = longer ∙ ap (λ n. n + 1) held.paths ∙ sym (ap length more ∙ length_push earlier entry);
        domains = λ d. ap (λ r. frequencies_in r.domains d) same ∙ held.domains d;
        domain_records = ap (λ r. r.domain_records) same ∙ held.domain_records;
        constraints = ap (λ r. r.constraints) same ∙ held.constraints ∙ sym (ap length others);
      },
    )

pub absent_from : {A : Type 0} (o : Option A) (known : Bool) → known ≡ is_some o → known ≡ false → o ≡ None
absent_from None known e f = refl
absent_from (Some x) known e f = absurd cc

pub one_longer : {A : Type 0} (old : Option A) (n m : ℕ) → old ≡ None → n ≡ m + cond (is_some old) 0 1 → n ≡ m + 1
one_longer old n m e h = h ∙ ap (λ o. m + cond (is_some o) 0 1) e

-- the frequencies of a domain after one more
count_is : (old new : Reader) (contents : Contents) (entry : DomainEntry) (count : ℕ) → ReaderHolds old contents → AddsFrequency entry old.domains count new.domains
    → length (frequencies (contents.domains ++ entry ∷ []) entry.domain) ≡ count
count_is old new contents entry count held adds =
    ap length (frequencies_push contents.domains entry entry.domain ∙ ap (λ fs. put_entry entry.domain fs entry) (sym (held.domains entry.domain)) ∙ sym (adds.0 entry.domain)) ∙ sym adds.1

pub domain_refused : (old new : Reader) (contents : Contents) (entry : DomainEntry) (line count : ℕ) → ReaderHolds old contents → old.domain_records < MAX_DOMAIN_RECORDS
    → AddsFrequency entry old.domains count new.domains → MAX_DOMAIN_FREQUENCIES < count
    → at_line line (read_entry contents (entries.Domain entry)) ≡ Err (fault line causes.DomainTooLarge)
domain_refused old new contents entry line count held few adds many =
    let free : leb MAX_DOMAIN_RECORDS (length contents.domains) ≡ false = lt-leb MAX_DOMAIN_RECORDS (length contents.domains) (rw held.domain_records at few) in
    let over : ltb MAX_DOMAIN_FREQUENCIES count ≡ true = lt-ltb MAX_DOMAIN_FREQUENCIES count many in
    rw (free, count_is old new contents entry count held adds, over) refl

pub domain_added : (old new : Reader) (contents : Contents) (entry : DomainEntry) (line count : ℕ) → ReaderHolds old contents → old.domain_records < MAX_DOMAIN_RECORDS
    → AddsFrequency entry old.domains count new.domains → count ≤ MAX_DOMAIN_FREQUENCIES
    → new ≡ record old { domains = new.domains; domain_records = old.domain_records + 1 }
    → HoldsMore contents line (entries.Domain entry) new
domain_added old new contents entry line count held few adds some same =
    let free : leb MAX_DOMAIN_RECORDS (length contents.domains) ≡ false = lt-leb MAX_DOMAIN_RECORDS (length contents.domains) (rw held.domain_records at few) in
    let under : ltb MAX_DOMAIN_FREQUENCIES count ≡ false = le-ltb MAX_DOMAIN_FREQUENCIES count some in (
      record contents { domains = contents.domains ++ entry ∷ [] },
      rw (free, count_is old new contents entry count held adds, under) refl,
      record {
        links = ap (λ r. r.links) same ∙ held.links;
        positions = λ n. ap (λ r. get nat_cmp r.positions n) same ∙ held.positions n;
        paths = ap (λ r. btree_map_len r.positions) same ∙ held.paths;
        domains = λ d. adds.0 d ∙ ap (λ fs. put_entry d fs entry) (held.domains d) ∙ sym (frequencies_push contents.domains entry d);
        domain_records = ap (λ r. r.domain_records) same ∙ ap (λ n. n + 1) held.domain_records ∙ sym (length_push contents.domains entry);
        constraints = ap (λ r. r.constraints) same ∙ held.constraints;
      },
    )

pub has_room : (most count : ℕ) (full : Bool) → full ≡ leb most count → full ≡ false → count < most
has_room most count full e f = leb-false most count (sym e ∙ f)
