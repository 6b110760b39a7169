-- The contents of lines are valid.
use Rattle.std.proofs.Common.{◌≡◌, ◌≢◌, ℕ, ◌+◌, ◌<◌, ◌≤◌, Bool, true, false, cond, eqb, ltb, leb, List, [], ◌∷◌, ◌++◌, length, get_or, Some, None, Ok, refl, ap, ◌∙◌, subst, arith, append-nil}
use Rattle.std.specs.Prelude.{is_some}
use Rattle.std.specs.List.{position_or_len}
use Rattle.std.proofs.lemmas.Bool.{eqb-false, ltb-false, leb-false}
use Rattle.std.proofs.lemmas.List.{length_push}
use Rattle.std.proofs.lemmas.List.Elements.{All-push, All-nil, All-same}
use Rattle.std.proofs.lemmas.List.Quantifiers.{all_pairs_push}
use Rattle.std.proofs.lemmas.List.Sums.{fails_before_first, prefix_len-le-length}
use Rattle.fapp_model.specs.declared.level.TheConstants.{LEVELS}
use Rattle.fapp_model.specs.declared.limits.TheConstants.{MAX_PATHS, MAX_RECORDS, MAX_DOMAIN_RECORDS, MAX_DOMAIN_FREQUENCIES}
use Rattle.fapp_text.specs.Reading.{at_line}
use Rattle.fapp_text.proofs.ReadingSteps.{bind_ok, unless_ok, at_line_ok, no_fault}
use Rattle.record_reader.specs.declared.cause.Cause.TheVariants as causes
use Rattle.record_reader.specs.declared.entry.DomainEntry.{DomainEntry}
use Rattle.record_reader.specs.declared.entry.PathEntry.{PathEntry}
use Rattle.record_reader.specs.declared.entry.ConstraintEntry.{ConstraintEntry}
use Rattle.record_reader.specs.declared.entry.Pending.{Pending}
use Rattle.record_reader.specs.declared.entry.Pending.TheVariants as links
use Rattle.record_reader.specs.declared.entry.Entry.{Entry}
use Rattle.record_reader.specs.declared.entry.Entry.TheVariants as entries
use Rattle.record_reader.specs.Contents.{Contents, no_contents}
use Rattle.record_reader.specs.Fields.{fields_of}
use Rattle.record_reader.specs.Entries.{entry_of}
use Rattle.record_reader.specs.Instances.{frequencies, paths_of, constraints_of, place_of}
use Rattle.record_reader.specs.LineReading.{domain_refusal, path_refusal, constraint_refusal, entry_refusal, with_entry, read_entry, read_line, read_lines}
use Rattle.record_reader.specs.Validity.{IsDomainEntry, IsPathEntry, IsConstraintEntry, IsEntryOf, ArePendings, IsContents}
use Rattle.record_reader.proofs.LinkLists.{paths_append, constraints_append}
use Rattle.record_reader.proofs.Frequencies.{frequencies_push}
use Rattle.record_reader.proofs.Ascents.{are_domains}
use Rattle.record_reader.proofs.ValidEntries.{entry_valid}

few_step : (domains : List DomainEntry) (entry : DomainEntry) (domain most : ℕ) (same : Bool) → eqb entry.domain domain ≡ same → length (frequencies domains domain) ≤ most
    → length (frequencies (domains ++ entry ∷ []) entry.domain) ≤ most → length (frequencies (domains ++ entry ∷ []) domain) ≤ most
few_step domains entry domain most true e old now = let at : entry.domain ≡ domain = grind arith in subst (λ d. length (frequencies (domains ++ entry ∷ []) d) ≤ most) at now
few_step domains entry domain most false e old now = rw (frequencies_push domains entry domain, e) old

with_domain : (contents : Contents) (entry : DomainEntry) → IsContents contents → IsDomainEntry entry → domain_refusal contents.domains entry ≡ None → IsContents (with_entry contents (entries.Domain entry))
with_domain contents entry valid fit h =
    let one = no_fault (leb MAX_DOMAIN_RECORDS (length contents.domains)) causes.TooManyValues _ h in
    let two = no_fault (ltb MAX_DOMAIN_FREQUENCIES (length (frequencies (contents.domains ++ entry ∷ []) entry.domain))) causes.DomainTooLarge None one.1 in
    let numbers = All-push IsDomainEntry contents.domains entry valid.numbers fit in
    let few = ltb-false MAX_DOMAIN_FREQUENCIES (length (frequencies (contents.domains ++ entry ∷ []) entry.domain)) two.0 in
    record {
      numbers = numbers;
      domains = are_domains (contents.domains ++ entry ∷ []) numbers (λ d. few_step contents.domains entry d MAX_DOMAIN_FREQUENCIES (eqb entry.domain d) refl (valid.domains.few d) few);
      links = valid.links;
    }

abbrev has : ℕ → PathEntry → Bool
has n entry = eqb entry.number n

none_found : (place count : ℕ) → place ≤ count → is_some (cond (ltb place count) (Some place) None) ≡ false → place ≡ count
none_found place count h none = grind arith

other_numbers : (paths : List PathEntry) (n k : ℕ) (d : PathEntry) → is_some (place_of paths n) ≡ false → k < length paths → (get_or paths k d).number ≢ n
other_numbers paths n k d none lt same =
    let all : position_or_len (has n) paths ≡ length paths = none_found (position_or_len (has n) paths) (length paths) (prefix_len-le-length _ paths) none in
    eqb-false (get_or paths k d).number n (fails_before_first (has n) paths k d (omega (arith, all))) same

with_path : (earlier : List Pending) (entry : PathEntry) → ArePendings earlier → IsPathEntry entry → path_refusal (paths_of earlier) entry ≡ None → ArePendings (earlier ++ links.Path entry ∷ [])
with_path earlier entry valid fit h =
    let one = no_fault (is_some (place_of (paths_of earlier) entry.number)) causes.DuplicatePath _ h in
    let two = no_fault (leb MAX_PATHS (length (paths_of earlier))) causes.TooManyPaths None one.1 in
    let more : paths_of (earlier ++ links.Path entry ∷ []) ≡ paths_of earlier ++ entry ∷ [] = paths_append earlier (links.Path entry ∷ []) in
    let others : constraints_of (earlier ++ links.Path entry ∷ []) ≡ constraints_of earlier = constraints_append earlier (links.Path entry ∷ []) ∙ append-nil (constraints_of earlier) in
    record {
      paths = All-same IsPathEntry _ _ more (All-push IsPathEntry (paths_of earlier) entry valid.paths fit);
      apart = rw more (all_pairs_push (λ p q. p.number ≢ q.number) (paths_of earlier) entry valid.apart (λ k d lt. other_numbers (paths_of earlier) entry.number k d one.0 lt));
      constraints = All-same (IsConstraintEntry LEVELS) _ _ others valid.constraints;
      few_paths = omega (arith, ap length more, length_push (paths_of earlier) entry, leb-false MAX_PATHS (length (paths_of earlier)) two.0);
      few_records = omega (arith, ap length others, valid.few_records);
    }

with_constraint : (earlier : List Pending) (entry : ConstraintEntry) → ArePendings earlier → IsConstraintEntry LEVELS entry → constraint_refusal (constraints_of earlier) ≡ None → ArePendings (earlier ++ links.Constraint entry ∷ [])
with_constraint earlier entry valid fit h =
    let one = no_fault (leb MAX_RECORDS (length (constraints_of earlier))) causes.TooManyRecords None h in
    let more : constraints_of (earlier ++ links.Constraint entry ∷ []) ≡ constraints_of earlier ++ entry ∷ [] = constraints_append earlier (links.Constraint entry ∷ []) in
    let others : paths_of (earlier ++ links.Constraint entry ∷ []) ≡ paths_of earlier = paths_append earlier (links.Constraint entry ∷ []) ∙ append-nil (paths_of earlier) in
    record {
      paths = All-same IsPathEntry _ _ others valid.paths;
      apart = rw others valid.apart;
      constraints = All-same (IsConstraintEntry LEVELS) _ _ more (All-push (IsConstraintEntry LEVELS) (constraints_of earlier) entry valid.constraints fit);
      few_paths = omega (arith, ap length others, valid.few_paths);
      few_records = omega (arith, ap length more, length_push (constraints_of earlier) entry, leb-false MAX_RECORDS (length (constraints_of earlier)) one.0);
    }

with_valid : (contents : Contents) (entry : Entry) → IsContents contents → IsEntryOf LEVELS entry → entry_refusal contents entry ≡ None → IsContents (with_entry contents entry)
with_valid contents (entries.Domain entry) valid fit h = with_domain contents entry valid fit h
with_valid contents (entries.Pending (links.Path entry)) valid fit h = record { numbers = valid.numbers; domains = valid.domains; links = with_path contents.links entry valid.links fit h }
with_valid contents (entries.Pending (links.Constraint entry)) valid fit h = record { numbers = valid.numbers; domains = valid.domains; links = with_constraint contents.links entry valid.links fit h }

line_valid : (contents next : Contents) (line : ℕ) (fields : List (List ℕ)) → IsContents contents → read_line contents line fields ≡ Ok next → IsContents next
line_valid contents next line [] valid h = let e : contents ≡ next = cc in subst IsContents e valid
line_valid contents next line (word ∷ fields) valid h =
    let one = bind_ok (entry_of LEVELS line (word ∷ fields)) (λ entry. read_entry contents entry) next h in
    let two = unless_ok (entry_refusal contents one.0) (with_entry contents one.0) next one.2 in
    subst IsContents two.1 (with_valid contents one.0 valid (entry_valid LEVELS line (word ∷ fields) one.0 (omega arith) one.1) two.0)

pub lines_valid : (contents last : Contents) (line : ℕ) (texts : List (List ℕ)) → IsContents contents → read_lines contents line texts ≡ Ok last → IsContents last
lines_valid contents last line [] valid h = let e : contents ≡ last = cc in subst IsContents e valid
lines_valid contents last line (text ∷ texts) valid h =
    let one = bind_ok (at_line line (read_line contents line (fields_of text))) (λ next. read_lines next (line + 1) texts) last h in
    lines_valid one.0 last (line + 1) texts (line_valid contents one.0 line (fields_of text) valid (at_line_ok line (read_line contents line (fields_of text)) one.0 one.1)) one.2

pub nothing_valid : IsContents no_contents
nothing_valid = record {
  numbers = All-nil IsDomainEntry;
  domains = are_domains [] (All-nil IsDomainEntry) (λ d. omega arith);
  links = record {
    paths = All-nil IsPathEntry;
    apart = λ i j d lt within. absurd (omega arith);
    constraints = All-nil (IsConstraintEntry LEVELS);
    few_paths = omega arith;
    few_records = omega arith;
  };
}
