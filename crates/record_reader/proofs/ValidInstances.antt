-- The instance of contents that the whole text allows is valid.
use Rattle.std.proofs.Common.{◌≡◌, ◌≢◌, ℕ, ◌+◌, ◌<◌, ◌≤◌, Bool, true, false, ◌&&◌, cond, eqb, ltb, List, [], ◌∷◌, ◌++◌, length, get_or, map, pos, All, AllPairs, Option, Some, None, refl, sym, ap, ◌∙◌, arith, append-nil, append_assoc}
use Rattle.std.specs.Prelude.{is_some, sum_by}
use Rattle.std.specs.Option.{unwrap_or}
use Rattle.std.specs.List.{position_or_len}
use Rattle.std.proofs.lemmas.Bool.{and_parts, eqb-true, eqb-false, ltb-false}
use Rattle.std.proofs.lemmas.List.{length-map, get_or-map}
use Rattle.std.proofs.lemmas.List.Elements.{All-nil, All-cons, All-map}
use Rattle.std.proofs.lemmas.List.Sums.{passes_at_first, sum_by-cons}
use Rattle.fapp_model.specs.declared.level.TheConstants.{LEVELS}
use Rattle.fapp_model.specs.declared.limits.TheConstants.{MAX_CHOICES}
use Rattle.fapp_model.specs.Choices.{choices}
use Rattle.fapp_model.specs.Records.{first_path, second_path}
use Rattle.fapp_model.specs.Instances.{IsPath, IsRecord, HasNumbers, IsInstance}
use Rattle.fapp_model.proofs.LevelNumbers.{levels-are}
use Rattle.fapp_text.specs.declared.failure.LineFault.{LineFault}
use Rattle.fapp_text.proofs.ReadingSteps.{no_fault}
use Rattle.record_reader.specs.declared.cause.Cause.{Cause}
use Rattle.record_reader.specs.declared.cause.Cause.TheVariants as causes
use Rattle.record_reader.specs.declared.entry.PathEntry.{PathEntry}
use Rattle.record_reader.specs.declared.entry.ConstraintEntry.{ConstraintEntry}
use Rattle.record_reader.specs.declared.entry.Pending.{Pending}
use Rattle.record_reader.specs.declared.entry.Pending.TheVariants as links
use Rattle.record_reader.specs.declared.entry.Demand.{Demand}
use Rattle.record_reader.specs.declared.entry.Demand.TheVariants.{Freq, Pol, Same, Other}
use Rattle.record_reader.specs.Contents.{Domains}
use Rattle.record_reader.specs.Instances.{paths_of, constraints_of, place_of, path_of, record_between, record_of, instance_of}
use Rattle.record_reader.specs.Links.{choice_count, path_link_refusal, constraint_link_refusal, fault_at, or_later, first_link_refusal}
use Rattle.record_reader.specs.Validity.{IsPathEntry, IsDemand, IsConstraintEntry, AreDomains, ArePendings}
use Rattle.record_reader.proofs.LinkLists.{paths_append}

-- the path of an entry whose domain is known
pub path_valid : (domains : Domains) (entry : PathEntry) → AreDomains domains → IsPathEntry entry → eqb (length (domains entry.domain)) 0 ≡ false → IsPath (path_of domains entry)
path_valid domains entry valid fit knows = record {
  number = fit.number;
  some = omega (arith, eqb-false (length (domains entry.domain)) 0 knows);
  few = valid.few entry.domain;
  numbers = valid.numbers entry.domain;
  ascending = valid.ascending entry.domain;
  polarization = fit.polarization;
}

-- ---- what the whole text allows

both_none : (line : ℕ) (cause : Option Cause) (later : Option (LineFault Cause)) → or_later (fault_at line cause) later ≡ None → (cause ≡ None) × (later ≡ None)
both_none line None later h = (refl, h)
both_none line (Some cause) later h = absurd cc

no_unknown : (b : Bool) → ◌≡◌ {A = Option Cause} (cond b None (Some causes.UnknownPath)) None → b ≡ true
no_unknown true h = refl
no_unknown false h = absurd cc

abbrev Knows : Domains → PathEntry → Type 0
Knows domains entry = eqb (length (domains entry.domain)) 0 ≡ false

abbrev Names : List PathEntry → ConstraintEntry → Type 0
Names paths entry = (is_some (place_of paths entry.first) && is_some (place_of paths entry.second)) ≡ true

record AreAllowed (domains : Domains) (paths : List PathEntry) (earlier rest : List Pending) : Type 0 where
  known : All (Knows domains) (paths_of rest)
  named : All (Names paths) (constraints_of rest)
  few : sum_by (choice_count domains) (paths_of earlier) ≤ MAX_CHOICES → sum_by (choice_count domains) (paths_of (earlier ++ rest)) ≤ MAX_CHOICES

allows : (domains : Domains) (paths : List PathEntry) (earlier rest : List Pending) → first_link_refusal domains paths earlier rest ≡ None → AreAllowed domains paths earlier rest
allows domains paths earlier [] h = record { known = All-nil (Knows domains); named = All-nil (Names paths); few = λ less. rw (append-nil earlier) less }
allows domains paths earlier (links.Path entry ∷ rest) h =
    let both = both_none entry.line (path_link_refusal domains (paths_of earlier) entry) (first_link_refusal domains paths (earlier ++ links.Path entry ∷ []) rest) h in
    let one = no_fault (eqb (length (domains entry.domain)) 0) causes.UnknownDomain _ both.0 in
    let two = no_fault (ltb MAX_CHOICES (sum_by (choice_count domains) (paths_of earlier ++ entry ∷ []))) causes.TooManyChoices None one.1 in
    let later = allows domains paths (earlier ++ links.Path entry ∷ []) rest both.1 in
    let now : sum_by (choice_count domains) (paths_of (earlier ++ links.Path entry ∷ [])) ≤ MAX_CHOICES = rw (paths_append earlier (links.Path entry ∷ [])) (ltb-false MAX_CHOICES _ two.0) in
    record {
      known = All-cons (Knows domains) entry (paths_of rest) one.0 later.known;
      named = later.named;
      few = λ less. rw (append_assoc earlier (links.Path entry ∷ []) rest) at (later.few now);
    }
allows domains paths earlier (links.Constraint entry ∷ rest) h =
    let both = both_none entry.line (constraint_link_refusal paths entry) (first_link_refusal domains paths (earlier ++ links.Constraint entry ∷ []) rest) h in
    let later = allows domains paths (earlier ++ links.Constraint entry ∷ []) rest both.1 in
    let same : paths_of (earlier ++ links.Constraint entry ∷ []) ≡ paths_of earlier = paths_append earlier (links.Constraint entry ∷ []) ∙ append-nil (paths_of earlier) in
    record {
      known = later.known;
      named = All-cons (Names paths) entry (constraints_of rest) (no_unknown (is_some (place_of paths entry.first) && is_some (place_of paths entry.second)) both.0) later.named;
      few = λ less. rw (append_assoc earlier (links.Constraint entry ∷ []) rest) at (later.few (rw same less));
    }

-- ---- records

record IsPlace (paths : List PathEntry) (number place : ℕ) : Type 0 where
  within : place < length paths
  at : (d : PathEntry) → (get_or paths place d).number ≡ number

abbrev has : ℕ → PathEntry → Bool
has n entry = eqb entry.number n

found : (place count : ℕ) → is_some (cond (ltb place count) (Some place) None) ≡ true → (unwrap_or (cond (ltb place count) (Some place) None) 0 ≡ place) × (place < count)
found place count h = (grind arith, grind arith)

place_found : (paths : List PathEntry) (number : ℕ) → is_some (place_of paths number) ≡ true → IsPlace paths number (unwrap_or (place_of paths number) 0)
place_found paths number h =
    let place : ℕ = position_or_len (has number) paths in
    let here = found place (length paths) h in
    rw here.0 (record { within = here.1; at = λ d. eqb-true (get_or paths place d).number number (passes_at_first (has number) paths d here.1) })

first_is : (i j : ℕ) (rule : Demand) → first_path (record_between i j rule) ≡ i
first_is i j (Freq equal n) = refl
first_is i j (Pol equal) = refl
first_is i j (Same dist) = refl
first_is i j (Other dist) = refl

second_is : (i j : ℕ) (rule : Demand) → second_path (record_between i j rule) ≡ j
second_is i j (Freq equal n) = refl
second_is i j (Pol equal) = refl
second_is i j (Same dist) = refl
second_is i j (Other dist) = refl

numbers_of : (levels i j : ℕ) (rule : Demand) → IsDemand levels rule → HasNumbers levels (record_between i j rule)
numbers_of levels i j (Freq equal n) h = h
numbers_of levels i j (Pol equal) h = h
numbers_of levels i j (Same dist) h = h
numbers_of levels i j (Other dist) h = h

between_valid : (levels : ℕ) (paths : List PathEntry) (i j first second : ℕ) (rule : Demand) → IsPlace paths first i → IsPlace paths second j → first ≢ second → IsDemand levels rule
    → IsRecord levels (length paths) (record_between i j rule)
between_valid levels paths i j first second rule p q apart fit = record {
  first = rw (first_is i j rule) p.within;
  second = rw (second_is i j rule) q.within;
  different = λ same.
      let e : i ≡ j = sym (first_is i j rule) ∙ same ∙ second_is i j rule in
      let d : PathEntry = record { line = 0; number = 0; domain = 0; pol = pos 0 } in
      apart (sym (p.at d) ∙ ap (λ k. (get_or paths k d).number) e ∙ q.at d);
  numbers = numbers_of levels i j rule fit;
}

record_valid : (levels : ℕ) (paths : List PathEntry) (entry : ConstraintEntry) → IsConstraintEntry levels entry → Names paths entry → IsRecord levels (length paths) (record_of paths entry)
record_valid levels paths entry fit named =
    let both = and_parts (is_some (place_of paths entry.first)) (is_some (place_of paths entry.second)) named in
    between_valid levels paths _ _ entry.first entry.second entry.rule (place_found paths entry.first both.0) (place_found paths entry.second both.1) fit.different fit.rule

-- ---- the instance

all_both : {X : Type 0} (P Q R : X → Type 0) → ((x : X) → P x → Q x → R x) → (xs : List X) → All P xs → All Q xs → All R xs
all_both P Q R both xs p q = λ k d lt. both (get_or xs k d) (p k d lt) (q k d lt)

apart_map : (domains : Domains) (paths : List PathEntry) → AllPairs (λ p q. p.number ≢ q.number) paths → AllPairs (λ p q. p.number ≢ q.number) (map (path_of domains) paths)
apart_map domains paths apart i j d lt within same =
    let count = length-map paths (path_of domains) in
    let r : PathEntry = record { line = 0; number = 0; domain = 0; pol = pos 0 } in
    let second : j < length paths = omega (arith, count, within) in
    let e = get_or-map (path_of domains) paths i r d (omega arith) in
    let f = get_or-map (path_of domains) paths j r d second in
    apart i j r lt second (sym (ap (λ p. p.number) e) ∙ same ∙ ap (λ p. p.number) f)

choices_map : (domains : Domains) (paths : List PathEntry) → sum_by (λ p. length (choices p)) (map (path_of domains) paths) ≡ sum_by (choice_count domains) paths
choices_map domains [] = refl
choices_map domains (entry ∷ paths) =
    sum_by-cons (λ p. length (choices p)) (path_of domains entry) (map (path_of domains) paths)
    ∙ ap (λ n. choice_count domains entry + n) (choices_map domains paths)
    ∙ sym (sum_by-cons (choice_count domains) entry paths)

pub instance_valid : (domains : Domains) (all : List Pending) → AreDomains domains → ArePendings all → first_link_refusal domains (paths_of all) [] all ≡ None → IsInstance (instance_of domains all)
instance_valid domains all are valid h =
    let paths : List PathEntry = paths_of all in
    let fit = allows domains paths [] all h in
    let count = length-map paths (path_of domains) in
    let levels = levels-are (instance_of domains all) in
    record {
      paths = All-map IsPath (path_of domains) paths (all_both IsPathEntry (Knows domains) (λ entry. IsPath (path_of domains entry)) (λ entry p q. path_valid domains entry are p q) paths valid.paths fit.known);
      apart = apart_map domains paths valid.apart;
      records = rw (levels, count) (All-map (IsRecord LEVELS (length paths)) (record_of paths) (constraints_of all) (all_both (IsConstraintEntry LEVELS) (Names paths) (λ entry. IsRecord LEVELS (length paths) (record_of paths entry)) (λ entry p q. record_valid LEVELS paths entry p q) (constraints_of all) valid.constraints fit.named));
      few_paths = omega (arith, count, valid.few_paths);
      few_records = omega (arith, length-map (constraints_of all) (record_of paths), valid.few_records);
      few_choices = omega (arith, choices_map domains paths, fit.few (omega arith));
    }
