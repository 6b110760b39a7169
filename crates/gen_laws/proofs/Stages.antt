-- What a reader has after the lines of domains, of paths and of constraints.
use Rattle.std.proofs.Common.{◌≡◌, ◌⊎◌, ℕ, suc, ◌+◌, ◌<◌, ◌≤◌, Bool, true, false, not, cond, ◌||◌, eqb, ltb, leb, List, [], ◌∷◌, ◌++◌, length, decimal, codes, pos, Option, Some, None, Ok, refl, sym, ap, subst, ◌∙◌, append-nil, arith, inl, inr}
use Rattle.std.specs.Prelude.{is_some}
use Rattle.std.specs.List.{AllByRecursion, fold, list_any, position_or_len}
use Rattle.std.proofs.lemmas.Bool.{ne_eqb, le-ltb, lt-leb}
use Rattle.std.proofs.lemmas.Bool.Decides.{nat_tests}
use Rattle.std.proofs.lemmas.List.{length_push}
use Rattle.std.proofs.lemmas.List.Folds.{list_any-append}
use Rattle.fapp_model.specs.declared.level.TheConstants.{LEVELS}
use Rattle.fapp_model.specs.declared.limits.TheConstants.{MAX_PATHS, MAX_RECORDS, MAX_DOMAIN_RECORDS, MAX_DOMAIN_FREQUENCIES}
use Rattle.fapp_model.specs.Instances.{IsNumber}
use Rattle.record_reader.specs.declared.cause.Cause.{Cause}
use Rattle.record_reader.specs.declared.cause.Cause.TheVariants as causes
use Rattle.record_reader.specs.declared.entry.DomainEntry.{DomainEntry}
use Rattle.record_reader.specs.declared.entry.PathEntry.{PathEntry}
use Rattle.record_reader.specs.declared.entry.ConstraintEntry.{ConstraintEntry}
use Rattle.record_reader.specs.declared.entry.Demand.{Demand}
use Rattle.record_reader.specs.declared.entry.Pending.{Pending}
use Rattle.record_reader.specs.declared.entry.Pending.TheVariants as links
use Rattle.record_reader.specs.declared.entry.Entry.TheVariants as entries
use Rattle.record_reader.specs.Contents.{Contents}
use Rattle.record_reader.specs.Entries.{entry_of}
use Rattle.record_reader.specs.Instances.{put, put_entry, frequencies, paths_of, constraints_of, place_of}
use Rattle.record_reader.specs.LineReading.{domain_refusal, path_refusal, entry_refusal, with_entry}
use Rattle.record_reader.proofs.Frequencies.{frequencies_push}
use Rattle.record_reader.proofs.LinkLists.{paths_append, constraints_append}
use Rattle.cert_lines.proofs.Plain.{all_append}
use Rattle.fapp_gen.specs.Lines.{numbered}
use Rattle.fapp_gen.specs.Generated.{path_line}
use Rattle.gen_laws.proofs.Cutting.{IsLine, decimal_field}
use Rattle.gen_laws.proofs.Says.{between, domain_says, path_says}
use Rattle.gen_laws.proofs.Passing.{Passes, passes_one}

-- no line at which a test passes
pub no_cause : (first second : Bool) (one two : Cause) → first ≡ false → second ≡ false → ◌≡◌ {A = Option Cause} (cond first (Some one) (cond second (Some two) None)) None
no_cause true second one two e f = absurd cc
no_cause false true one two e f = absurd cc
no_cause false false one two e f = refl

-- ---- domains

put_few : (n : ℕ) (xs : List ℕ) → length (put n xs) ≤ suc (length xs)
put_few n [] = omega arith
put_few n (m ∷ xs) = step (ltb n m) (eqb n m) (put_few n xs)
  where
    step : (less same : Bool) → length (put n xs) ≤ suc (length xs) → length (cond less (n ∷ m ∷ xs) (cond same (m ∷ xs) (m ∷ put n xs))) ≤ suc (suc (length xs))
    step true same h = omega arith
    step false true h = omega arith
    step false false h = omega arith

put_some : (n : ℕ) (xs : List ℕ) → 0 < length (put n xs)
put_some n [] = omega arith
put_some n (m ∷ xs) = step (ltb n m) (eqb n m)
  where
    step : (less same : Bool) → 0 < length (cond less (n ∷ m ∷ xs) (cond same (m ∷ xs) (m ∷ put n xs)))
    step true same = omega arith
    step false true = omega arith
    step false false = omega arith

entry_few : (same : Bool) (n : ℕ) (xs : List ℕ) → length (cond same (put n xs) xs) ≤ suc (length xs)
entry_few true n xs = put_few n xs
entry_few false n xs = omega arith

fold_few : (domain : ℕ) (own : List ℕ) (domains : List DomainEntry) → length (fold (put_entry domain) own domains) ≤ length own + length domains
fold_few domain own [] = omega arith
fold_few domain own (entry ∷ domains) = omega (arith, fold_few domain (put_entry domain own entry) domains, entry_few (eqb entry.domain domain) entry.frequency own)

-- a domain has no more frequencies than there are entries
pub frequencies_few : (domains : List DomainEntry) (domain : ℕ) → length (frequencies domains domain) ≤ length domains
frequencies_few domains domain =
    let h : length (frequencies domains domain) ≤ 0 + length domains = fold_few domain [] domains in
    omega arith

entry_some : (same : Bool) (n : ℕ) (xs : List ℕ) → (same ≡ true) ⊎ (0 < length xs) → 0 < length (cond same (put n xs) xs)
entry_some true n xs h = put_some n xs
entry_some false n xs (inl e) = absurd cc
entry_some false n xs (inr h) = h

push_some : (domains : List DomainEntry) (entry : DomainEntry) (domain : ℕ) → (eqb entry.domain domain ≡ true) ⊎ (0 < length (frequencies domains domain)) → 0 < length (frequencies (domains ++ entry ∷ []) domain)
push_some domains entry domain h = rw (frequencies_push domains entry domain) (entry_some (eqb entry.domain domain) entry.frequency (frequencies domains domain) h)

-- the first domains have frequencies
abbrev pub AreFilled : ℕ → List DomainEntry → Type 0
AreFilled count domains = (domain : ℕ) → 1 ≤ domain → domain ≤ count → 0 < length (frequencies domains domain)

-- so many lines of domains were read, and nothing else
pub record HasDomains (lines count : ℕ) (contents : Contents) : Type 0 where
  pub values : length contents.domains ≡ lines
  pub filled : AreFilled count contents.domains
  pub nothing : contents.links ≡ []

own_or_earlier : (entry_domain domain earlier count : ℕ) → count ≤ earlier + 1 → entry_domain ≡ count → domain ≤ count → (eqb entry_domain domain ≡ true) ⊎ (domain ≤ earlier)
own_or_earlier entry_domain domain earlier count near is h = grind (arith, nat_tests)

domain_fits : (lines earlier count frequency : ℕ) → lines < 20 → count ≤ earlier + 1 → (before : Contents) → HasDomains lines earlier before
    → (domain_refusal before.domains (record { domain = count; frequency = frequency }) ≡ None) × HasDomains (lines + 1) count (with_entry before (entries.Domain (record { domain = count; frequency = frequency })))
domain_fits lines earlier count frequency few near before h =
    let entry : DomainEntry = record { domain = count; frequency = frequency } in
    let more : length (before.domains ++ entry ∷ []) ≡ length before.domains + 1 = length_push before.domains entry in
    let records : leb MAX_DOMAIN_RECORDS (length before.domains) ≡ false = lt-leb MAX_DOMAIN_RECORDS (length before.domains) (omega (arith, h.values)) in
    let small : ltb MAX_DOMAIN_FREQUENCIES (length (frequencies (before.domains ++ entry ∷ []) count)) ≡ false =
    le-ltb MAX_DOMAIN_FREQUENCIES (length (frequencies (before.domains ++ entry ∷ []) count)) (omega (arith, frequencies_few (before.domains ++ entry ∷ []) count, more, h.values)) in (
      no_cause _ _ causes.TooManyValues causes.DomainTooLarge records small,
      record {
        values = omega (arith, more, h.values);
        filled = λ domain some within. push_some before.domains entry domain (elim (own_or_earlier count domain earlier count near refl within) [
          | inl own ↦ inl own
          | inr old ↦ inr (h.filled domain some old)
        ]);
        nothing = h.nothing;
      },
    )

-- a line of a domain: of the last one, or of the next
pub domain_passes : (lines earlier count frequency : ℕ) → lines < 20 → count ≤ earlier + 1 → IsNumber count → IsNumber frequency
    → Passes (HasDomains lines earlier) (numbered (codes "DM") (count ∷ frequency ∷ []) ∷ []) (HasDomains (lines + 1) count)
domain_passes lines earlier count frequency few near d f =
    passes_one (HasDomains lines earlier) (HasDomains (lines + 1) count) (codes "DM") (decimal count ∷ decimal frequency ∷ []) (λ line. entries.Domain (record { domain = count; frequency = frequency }))
    (((omega arith, omega arith, (omega arith, (omega arith, tt))), (decimal_field count d, (decimal_field frequency f, tt))), omega arith)
    (λ line. domain_says line count frequency d f)
    (λ before line h. domain_fits lines earlier count frequency few near before h)

-- ---- paths

abbrev has : ℕ → List PathEntry → Bool
has number paths = list_any (λ entry. eqb entry.number number) paths

place_step : (own : Bool) (place count : ℕ) → is_some (cond (ltb (cond (not own) (1 + place) 0) (suc count)) (Some (cond (not own) (1 + place) 0)) None) ≡ own || is_some (cond (ltb place count) (Some place) None)
place_step true place count = grind (arith, nat_tests)
place_step false place count = grind (arith, nat_tests)

-- a number is a path's where some path has it
pub placed : (paths : List PathEntry) (number : ℕ) → is_some (place_of paths number) ≡ has number paths
placed [] number = refl
placed (entry ∷ paths) number =
    place_step (eqb entry.number number) (position_or_len (λ e. eqb e.number number) paths) (length paths)
    ∙ ap (λ (b : Bool). eqb entry.number number || b) (placed paths number)

has_pushed : (paths : List PathEntry) (entry : PathEntry) (number : ℕ) → has number (paths ++ entry ∷ []) ≡ has number paths || (eqb entry.number number || false)
has_pushed paths entry number = list_any-append (λ (e : PathEntry). eqb e.number number) paths (entry ∷ [])

-- a path of one of the two domains, or a constraint between two of so many paths
abbrev pub IsMade : ℕ → Pending → Type 0
IsMade paths (links.Path entry) = (1 ≤ entry.domain) × (entry.domain ≤ 2)
IsMade paths (links.Constraint entry) = (1 ≤ entry.first) × (entry.first ≤ paths) × (1 ≤ entry.second) × (entry.second ≤ paths)

-- the lines of both domains were read, and those of so many paths and constraints
pub record HasLinks (all : ℕ) (count records : ℕ) (contents : Contents) : Type 0 where
  pub values : length contents.domains ≡ 20
  pub filled : AreFilled 2 contents.domains
  pub paths : length (paths_of contents.links) ≡ count
  pub known : (number : ℕ) → 1 ≤ number → number ≤ count → has number (paths_of contents.links) ≡ true
  pub fresh : (number : ℕ) → count < number → has number (paths_of contents.links) ≡ false
  pub constraints : length (constraints_of contents.links) ≡ records
  pub made : AllByRecursion (IsMade all) contents.links

-- the lines of domains are followed by those of paths
pub begun : (all : ℕ) (contents : Contents) → HasDomains 20 2 contents → HasLinks all 0 0 contents
begun all contents h =
    let none : paths_of contents.links ≡ [] = ap paths_of h.nothing in
    record {
      values = h.values;
      filled = h.filled;
      paths = ap length none;
      known = λ number some within. absurd (omega arith);
      fresh = λ number beyond. ap (has number) none;
      constraints = ap (λ ls. length (constraints_of ls)) h.nothing;
      made = subst (AllByRecursion (IsMade all)) (sym h.nothing) tt;
    }

old_known : (a b : Bool) → a ≡ true → a || b ≡ true
old_known true b e = refl
old_known false b e = absurd cc

new_known : (a b : Bool) → b ≡ true → a || (b || false) ≡ true
new_known true b e = refl
new_known false true e = refl
new_known false false e = absurd cc

both_fresh : (a b : Bool) → a ≡ false → b ≡ false → a || (b || false) ≡ false
both_fresh true b e f = absurd cc
both_fresh false true e f = absurd cc
both_fresh false false e f = refl

old_or_new : (number count : ℕ) → number ≤ count + 1 → (number ≤ count) ⊎ (eqb (count + 1) number ≡ true)
old_or_new number count h = grind (arith, nat_tests)

path_fits : (all count line domain : ℕ) → count < 2000 → 1 ≤ domain → domain ≤ 2 → (before : Contents) → HasLinks all count 0 before → (entry : PathEntry) → entry ≡ record { line = line; number = count + 1; domain = domain; pol = pos 0 }
    → (path_refusal (paths_of before.links) entry ≡ None) × HasLinks all (count + 1) 0 (with_entry before (entries.Pending (links.Path entry)))
path_fits all count line domain few some two before h entry is =
    let numbered : entry.number ≡ count + 1 = ap (λ (e : PathEntry). e.number) is in
    let placed_in : entry.domain ≡ domain = ap (λ (e : PathEntry). e.domain) is in
    let more : paths_of (before.links ++ links.Path entry ∷ []) ≡ paths_of before.links ++ entry ∷ [] = paths_append before.links (links.Path entry ∷ []) in
    let others : constraints_of (before.links ++ links.Path entry ∷ []) ≡ constraints_of before.links = constraints_append before.links (links.Path entry ∷ []) ∙ append-nil (constraints_of before.links) in
    let new : is_some (place_of (paths_of before.links) entry.number) ≡ false = placed (paths_of before.links) entry.number ∙ h.fresh entry.number (omega arith) in
    let room : leb MAX_PATHS (length (paths_of before.links)) ≡ false = lt-leb MAX_PATHS (length (paths_of before.links)) (omega (arith, h.paths)) in (
      no_cause _ _ causes.DuplicatePath causes.TooManyPaths new room,
      record {
        values = h.values;
        filled = h.filled;
        paths = omega (arith, ap length more, length_push (paths_of before.links) entry, h.paths);
        known = λ number low within. ap (has number) more ∙ has_pushed (paths_of before.links) entry number ∙ elim (old_or_new number count within) [
          | inl old ↦ old_known _ _ (h.known number low old)
          | inr own ↦ new_known _ _ (ap (λ (n : ℕ). eqb n number) numbered ∙ own)
        ];
        fresh = λ number beyond. ap (has number) more ∙ has_pushed (paths_of before.links) entry number
            ∙ both_fresh _ _ (h.fresh number (omega arith)) (ne_eqb entry.number number (λ same. omega (arith, same)));
        constraints = ap length others ∙ h.constraints;
        made = all_append (IsMade all) before.links (links.Path entry ∷ []) h.made ((omega arith, omega arith), tt);
      },
    )

-- the line of the next path
pub path_passes : (all count domain : ℕ) → count < 2000 → 1 ≤ domain → domain ≤ 2 → Passes (HasLinks all count 0) (path_line (count + 1) domain ∷ []) (HasLinks all (count + 1) 0)
path_passes all count domain few some two =
    let number : IsNumber (count + 1) = omega arith in
    let own : IsNumber domain = omega arith in
    passes_one (HasLinks all count 0) (HasLinks all (count + 1) 0) (codes "TR") (decimal (count + 1) ∷ decimal domain ∷ decimal 0 ∷ []) (λ line. entries.Pending (links.Path (record { line = line; number = count + 1; domain = domain; pol = pos 0 })))
    (((omega arith, omega arith, (omega arith, (omega arith, tt))), (decimal_field (count + 1) number, (decimal_field domain own, (decimal_field 0 (omega arith), tt)))), omega arith)
    (λ line. path_says line (count + 1) domain number own)
    (λ before line h. path_fits all count line domain few some two before h _ refl)

-- ---- constraints

only_cause : (test : Bool) (one : Cause) → test ≡ false → ◌≡◌ {A = Option Cause} (cond test (Some one) None) None
only_cause true one e = absurd cc
only_cause false one e = refl

constraint_fits : (all records first second : ℕ) (rule : Demand) (line : ℕ) → records < 8000 → 1 ≤ first → first ≤ all → 1 ≤ second → second ≤ all → (before : Contents) → HasLinks all all records before
    → (entry_refusal before (between first second rule line) ≡ None) × HasLinks all all (records + 1) (with_entry before (between first second rule line))
constraint_fits all records first second rule line few f1 f2 s1 s2 before h =
    let entry : ConstraintEntry = record { line = line; first = first; second = second; rule = rule } in
    let more : constraints_of (before.links ++ links.Constraint entry ∷ []) ≡ constraints_of before.links ++ entry ∷ [] = constraints_append before.links (links.Constraint entry ∷ []) in
    let others : paths_of (before.links ++ links.Constraint entry ∷ []) ≡ paths_of before.links = paths_append before.links (links.Constraint entry ∷ []) ∙ append-nil (paths_of before.links) in (
      only_cause _ causes.TooManyRecords (lt-leb MAX_RECORDS (length (constraints_of before.links)) (omega (arith, h.constraints))),
      record {
        values = h.values;
        filled = h.filled;
        paths = ap length others ∙ h.paths;
        known = λ number low within. ap (has number) others ∙ h.known number low within;
        fresh = λ number beyond. ap (has number) others ∙ h.fresh number beyond;
        constraints = omega (arith, ap length more, length_push (constraints_of before.links) entry, h.constraints);
        made = all_append (IsMade all) before.links (links.Constraint entry ∷ []) h.made ((f1, f2, s1, s2), tt);
      },
    )

-- the line of a constraint between two paths
pub constraint_passes : (all records first second : ℕ) (rule : Demand) (word : List ℕ) (fields : List (List ℕ)) → records < 8000 → 1 ≤ first → first ≤ all → 1 ≤ second → second ≤ all → IsLine (word ∷ fields)
    → ((line : ℕ) → entry_of LEVELS line (word ∷ fields) ≡ Ok (between first second rule line)) → Passes (HasLinks all all records) ((word ∷ fields) ∷ []) (HasLinks all all (records + 1))
constraint_passes all records first second rule word fields few f1 f2 s1 s2 whole says =
    passes_one (HasLinks all all records) (HasLinks all all (records + 1)) word fields (between first second rule) whole says (λ before line h. constraint_fits all records first second rule line few f1 f2 s1 s2 before h)
