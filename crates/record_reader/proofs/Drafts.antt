-- One more path or record of a draft.
use Rattle.std.proofs.Common.{◌≡◌, ℕ, ◌+◌, ◌<◌, ◌≤◌, Bool, true, false, ◌&&◌, eqb, ltb, List, [], ◌∷◌, ◌++◌, length, get_or, take, drop, map, Option, Some, None, refl, sym, ap, subst, ◌∙◌, arith, append-nil, drop-cons, suc}
use Rattle.std.specs.Prelude.{is_some, sum_by}
use Rattle.std.specs.Option.{unwrap_or}
use Rattle.std.specs.Global.{Vec}
use Rattle.std.proofs.lemmas.Bool.{lt-ltb, le-ltb}
use Rattle.std.proofs.lemmas.List.{map_push, take_more}
use Rattle.std.proofs.lemmas.List.Sums.{sum_by_push}
use Rattle.fapp_model.specs.declared.instance.Path.{Path}
use Rattle.fapp_model.specs.declared.record.Record.{Record}
use Rattle.fapp_model.specs.declared.limits.TheConstants.{MAX_CHOICES}
use Rattle.fapp_model.specs.Choices.{choices}
use Rattle.fapp_text.specs.declared.failure.Failure.{Failure}
use Rattle.fapp_text.specs.declared.failure.Failure.TheVariants.{Bad}
use Rattle.fapp_text.specs.declared.failure.LineFault.{LineFault}
use Rattle.fapp_text.specs.Reading.{fault}
use Rattle.record_reader.specs.declared.cause.Cause.{Cause}
use Rattle.record_reader.specs.declared.cause.Cause.TheVariants as causes
use Rattle.record_reader.specs.declared.draft.Draft.{Draft}
use Rattle.record_reader.specs.declared.entry.PathEntry.{PathEntry}
use Rattle.record_reader.specs.declared.entry.ConstraintEntry.{ConstraintEntry}
use Rattle.record_reader.specs.declared.entry.Pending.{Pending}
use Rattle.record_reader.specs.declared.entry.Pending.TheVariants as links
use Rattle.record_reader.specs.declared.entry.Demand.{Demand}
use Rattle.record_reader.specs.Contents.{Domains}
use Rattle.record_reader.specs.Instances.{paths_of, constraints_of, place_of, path_of, record_between, record_of}
use Rattle.record_reader.specs.declared.reader.Reader.{Reader}
use Rattle.record_reader.specs.Readers.{domains_of}
use Rattle.record_reader.specs.Links.{choice_count, path_link_refusal, constraint_link_refusal, link_refusal, line_of, fault_at, or_later, first_link_refusal}
use Rattle.record_reader.specs.Drafts.{IsDraft, RefusesAs, record_by}
use Rattle.record_reader.proofs.LinkLists.{paths_append, constraints_append}

pub refuses : (line : ℕ) (cause : Option Cause) (why : Cause) (failure : Failure (LineFault Cause)) → failure ≡ Bad (fault line why) → cause ≡ Some why → RefusesAs (fault_at line cause) failure
refuses line cause why failure e f = rw (e, f) refl

-- ---- paths

pub unknown_domain : (domains : Domains) (earlier : List PathEntry) (entry : PathEntry) (path : Path) (empty : Bool) → path ≡ path_of domains entry → empty ≡ eqb (length path.freqs) 0 → empty ≡ true
    → path_link_refusal domains earlier entry ≡ Some causes.UnknownDomain
unknown_domain domains earlier entry path empty e counted is =
    let none : eqb (length (domains entry.domain)) 0 ≡ true = ap (λ p. eqb (length p.freqs) 0) (sym e) ∙ sym counted ∙ is in
    rw none refl

pub known_domain : (domains : Domains) (entry : PathEntry) (path : Path) (empty : Bool) → path ≡ path_of domains entry → empty ≡ eqb (length path.freqs) 0 → empty ≡ false
    → eqb (length (domains entry.domain)) 0 ≡ false
known_domain domains entry path empty e counted is = ap (λ p. eqb (length p.freqs) 0) (sym e) ∙ sym counted ∙ is

counted : (reader : Reader) (earlier : List Pending) (entry : PathEntry) (path : Path) (old : Draft) (count : ℕ) → IsDraft reader earlier old → path ≡ path_of (domains_of reader) entry
    → count ≡ length (choices path) → sum_by (choice_count (domains_of reader)) (paths_of earlier ++ entry ∷ []) ≡ old.choices + count
counted reader earlier entry path old count draft e c =
    let own : choice_count (domains_of reader) entry ≡ count = ap (λ p. length (choices p)) (sym e) ∙ sym c in
    omega (arith, sum_by_push (choice_count (domains_of reader)) (paths_of earlier) entry, own, draft.choices)

pub too_many : (reader : Reader) (earlier : List Pending) (entry : PathEntry) (path : Path) (old : Draft) (count : ℕ) → IsDraft reader earlier old → path ≡ path_of (domains_of reader) entry
    → count ≡ length (choices path) → eqb (length ((domains_of reader) entry.domain)) 0 ≡ false → MAX_CHOICES < old.choices + count → path_link_refusal (domains_of reader) (paths_of earlier) entry ≡ Some causes.TooManyChoices
too_many reader earlier entry path old count draft e c knows many =
    let all = counted reader earlier entry path old count draft e c in
    let much : ltb MAX_CHOICES (sum_by (choice_count (domains_of reader)) (paths_of earlier ++ entry ∷ [])) ≡ true = lt-ltb MAX_CHOICES _ (rw all many) in
    rw (knows, much) refl

pub path_more : (reader : Reader) (earlier : List Pending) (entry : PathEntry) (path : Path) (old : Draft) (count : ℕ) (more_paths : Vec Path) → IsDraft reader earlier old
    → path ≡ path_of (domains_of reader) entry → count ≡ length (choices path) → eqb (length ((domains_of reader) entry.domain)) 0 ≡ false → old.choices + count ≤ MAX_CHOICES → more_paths.items ≡ old.paths.items ++ path ∷ []
    → (path_link_refusal (domains_of reader) (paths_of earlier) entry ≡ None)
    × IsDraft reader (earlier ++ links.Path entry ∷ []) (record { paths = more_paths; records = old.records; choices = old.choices + count })
path_more reader earlier entry path old count more_paths draft e c knows some pushed =
    let all = counted reader earlier entry path old count draft e c in
    let less : ltb MAX_CHOICES (sum_by (choice_count (domains_of reader)) (paths_of earlier ++ entry ∷ [])) ≡ false = le-ltb MAX_CHOICES _ (rw all some) in
    let more : paths_of (earlier ++ links.Path entry ∷ []) ≡ paths_of earlier ++ entry ∷ [] = paths_append earlier (links.Path entry ∷ []) in
    let others : constraints_of (earlier ++ links.Path entry ∷ []) ≡ constraints_of earlier = constraints_append earlier (links.Path entry ∷ []) ∙ append-nil (constraints_of earlier) in (
      rw (knows, less) refl,
      record {
        paths = pushed ∙ ap (λ ps. ps ++ path ∷ []) draft.paths ∙ ap (λ p. map (path_of (domains_of reader)) (paths_of earlier) ++ p ∷ []) e ∙ sym (map_push (path_of (domains_of reader)) (paths_of earlier) entry) ∙ ap (map (path_of (domains_of reader))) (sym more);
        records = draft.records ∙ ap (map (record_of (paths_of reader.links))) (sym others);
        choices = sym all ∙ ap (sum_by (choice_count (domains_of reader))) (sym more);
        few = some;
      },
    )

-- ---- records

known_cases : (a b : Option ℕ) (rule : Demand) (r : Record) → Some r ≡ record_by a b rule → (is_some a && is_some b ≡ true) × (r ≡ record_between (unwrap_or a 0) (unwrap_or b 0) rule)
known_cases None b rule r h = absurd cc
known_cases (Some i) None rule r h = absurd cc
known_cases (Some i) (Some j) rule r h = (refl, cc)

pub record_more : (reader : Reader) (earlier : List Pending) (entry : ConstraintEntry) (r : Record) (old : Draft) (records : Vec Record) → IsDraft reader earlier old
    → Some r ≡ record_by (place_of (paths_of reader.links) entry.first) (place_of (paths_of reader.links) entry.second) entry.rule → records.items ≡ old.records.items ++ r ∷ []
    → (constraint_link_refusal (paths_of reader.links) entry ≡ None)
    × IsDraft reader (earlier ++ links.Constraint entry ∷ []) (record { paths = old.paths; records = records; choices = old.choices })
record_more reader earlier entry r old records draft h pushed =
    let both = known_cases (place_of (paths_of reader.links) entry.first) (place_of (paths_of reader.links) entry.second) entry.rule r h in
    let same : paths_of (earlier ++ links.Constraint entry ∷ []) ≡ paths_of earlier = paths_append earlier (links.Constraint entry ∷ []) ∙ append-nil (paths_of earlier) in
    let more : constraints_of (earlier ++ links.Constraint entry ∷ []) ≡ constraints_of earlier ++ entry ∷ [] = constraints_append earlier (links.Constraint entry ∷ []) in
    let record_at = record_of (paths_of reader.links) in (
      rw both.0 refl,
      record {
        paths = draft.paths ∙ ap (map (path_of (domains_of reader))) (sym same);
        records = pushed ∙ ap (λ rs. rs ++ r ∷ []) draft.records ∙ ap (λ x. map record_at (constraints_of earlier) ++ x ∷ []) both.1 ∙ sym (map_push record_at (constraints_of earlier) entry) ∙ ap (map record_at) (sym more);
        choices = draft.choices ∙ ap (sum_by (choice_count (domains_of reader))) (sym same);
        few = draft.few;
      },
    )

pub placed : (r : Option Record) (a b p q : Option ℕ) (rule : Demand) → r ≡ record_by a b rule → a ≡ p → b ≡ q → r ≡ record_by p q rule
placed r a b p q rule h e f = h ∙ ap (λ o. record_by o b rule) e ∙ ap (λ o. record_by p o rule) f

-- ---- all links

-- after one more link that is not refused
pub draft_more : (reader : Reader) (i : ℕ) (d link : Pending) (new : Draft) (all : Option (LineFault Cause)) → i < length reader.links → get_or reader.links i d ≡ link
    → (link_refusal (domains_of reader) (paths_of reader.links) (take i reader.links) link ≡ None) × IsDraft reader (take i reader.links ++ link ∷ []) new
    → first_link_refusal (domains_of reader) (paths_of reader.links) (take i reader.links) (drop i reader.links) ≡ all
    → IsDraft reader (take (i + 1) reader.links) new × (first_link_refusal (domains_of reader) (paths_of reader.links) (take (i + 1) reader.links) (drop (i + 1) reader.links) ≡ all)
draft_more reader i d link new all lt at grown so_far =
    let more : take (i + 1) reader.links ≡ take i reader.links ++ link ∷ [] = take_more reader.links i d lt ∙ ap (λ l. take i reader.links ++ l ∷ []) at in
    let rest : drop i reader.links ≡ link ∷ drop (i + 1) reader.links = drop-cons reader.links i d lt ∙ ap (λ l. l ∷ drop (suc i) reader.links) at ∙ ap (λ n. link ∷ drop n reader.links) (let e : suc i ≡ i + 1 = omega arith in e) in
    let refusal = first_link_refusal (domains_of reader) (paths_of reader.links) in
    let skipped : refusal (take i reader.links) (link ∷ drop (i + 1) reader.links) ≡ refusal (take i reader.links ++ link ∷ []) (drop (i + 1) reader.links) =
    ap (λ cause. or_later (fault_at (line_of link) cause) (refusal (take i reader.links ++ link ∷ []) (drop (i + 1) reader.links))) grown.0 in (
      subst (λ links. IsDraft reader links new) (sym more) grown.1,
      ap (λ links. refusal links (drop (i + 1) reader.links)) more ∙ sym skipped ∙ ap (refusal (take i reader.links)) (sym rest) ∙ so_far,
    )
