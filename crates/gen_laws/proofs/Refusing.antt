-- No link of a made network is refused.
use Rattle.std.proofs.Common.{◌≡◌, ℕ, zero, suc, ◌+◌, ◌*◌, ◌<◌, ◌≤◌, true, List, [], ◌∷◌, ◌++◌, length, flat_map, ℤ, pos, negsuc, Option, None, Ok, refl, ap, ◌∙◌, append-nil, arith, length-append}
use Rattle.std.specs.Prelude.{is_some, sum_by}
use Rattle.std.specs.List.{AllByRecursion}
use Rattle.std.proofs.lemmas.Bool.{ne_eqb, le-ltb}
use Rattle.std.proofs.lemmas.List.{length-map, length_push}
use Rattle.std.proofs.lemmas.List.Sums.{sum_by-cons}
use Rattle.fapp_model.specs.declared.limits.TheConstants.{MAX_CHOICES}
use Rattle.fapp_model.specs.declared.choice.Choice.{Choice}
use Rattle.fapp_model.specs.Choices.{choices_with, polarizations}
use Rattle.fapp_text.specs.declared.failure.LineFault.{LineFault}
use Rattle.fapp_text.specs.Reading.{unless}
use Rattle.record_reader.specs.declared.cause.Cause.{Cause}
use Rattle.record_reader.specs.declared.cause.Cause.TheVariants as causes
use Rattle.record_reader.specs.declared.entry.PathEntry.{PathEntry}
use Rattle.record_reader.specs.declared.entry.ConstraintEntry.{ConstraintEntry}
use Rattle.record_reader.specs.declared.entry.Pending.{Pending}
use Rattle.record_reader.specs.declared.entry.Pending.TheVariants as links
use Rattle.record_reader.specs.Contents.{Contents, Domains}
use Rattle.record_reader.specs.Instances.{frequencies, paths_of, place_of, instance_of}
use Rattle.record_reader.specs.Links.{choice_count, path_link_refusal, constraint_link_refusal, fault_at, or_later, first_link_refusal}
use Rattle.record_reader.specs.Texts.{instance_of_contents}
use Rattle.record_reader.proofs.LinkLists.{paths_append}
use Rattle.gen_laws.proofs.Stages.{IsMade, HasLinks, frequencies_few, no_cause, placed}

-- ---- choices

polarizations_few : (z : ℤ) → length (polarizations z) ≤ 2
polarizations_few (pos zero) = omega arith
polarizations_few (pos (suc n)) = omega arith
polarizations_few (negsuc n) = omega arith

with_few : (z : ℤ) (frequency : ℕ) → length (choices_with z frequency) ≤ 2
with_few z frequency = omega (arith, polarizations_few z, length-map {B = Choice} (polarizations z) (λ (p : ℤ). record { freq = frequency; pol = p }))

choices_few : (z : ℤ) (frequencies : List ℕ) → length (flat_map (choices_with z) frequencies) ≤ 2 * length frequencies
choices_few z [] = omega arith
choices_few z (frequency ∷ frequencies) = omega (arith, with_few z frequency, choices_few z frequencies, length-append (choices_with z frequency) (flat_map (choices_with z) frequencies))

sum_few : {A : Type 0} (f : A → ℕ) (most : ℕ) → ((x : A) → f x ≤ most) → (xs : List A) → sum_by f xs ≤ most * length xs
sum_few f most each [] = omega arith
sum_few f most each (x ∷ xs) = omega (arith, sum_by-cons f x xs, each x, sum_few f most each xs)

-- ---- links

module _ (domains : Domains) (all : ℕ) (paths : List PathEntry) (known : (number : ℕ) → 1 ≤ number → number ≤ all → is_some (place_of paths number) ≡ true)
    (filled : (domain : ℕ) → 1 ≤ domain → domain ≤ 2 → 0 < length (domains domain)) (few : (entry : PathEntry) → choice_count domains entry ≤ 40) where
  path_free : (earlier : List PathEntry) (entry : PathEntry) → length earlier < 2000 → 1 ≤ entry.domain → entry.domain ≤ 2 → path_link_refusal domains earlier entry ≡ None
  path_free earlier entry short some two =
      let declared : 0 < length (domains entry.domain) = filled entry.domain some two in
      let sum : sum_by (choice_count domains) (earlier ++ entry ∷ []) ≤ MAX_CHOICES = omega (arith, sum_few (choice_count domains) 40 few (earlier ++ entry ∷ []), length_push earlier entry) in
      no_cause _ _ causes.UnknownDomain causes.TooManyChoices (ne_eqb (length (domains entry.domain)) 0 (λ e. omega (arith, e))) (le-ltb MAX_CHOICES (sum_by (choice_count domains) (earlier ++ entry ∷ [])) sum)

  constraint_free : (entry : ConstraintEntry) → 1 ≤ entry.first → entry.first ≤ all → 1 ≤ entry.second → entry.second ≤ all → constraint_link_refusal paths entry ≡ None
  constraint_free entry f1 f2 s1 s2 = rw (known entry.first f1 f2, known entry.second s1 s2) refl

  pub none_refused : (earlier rest : List Pending) → AllByRecursion (IsMade all) rest → length (paths_of earlier) + length (paths_of rest) ≤ 2000 → first_link_refusal domains paths earlier rest ≡ None
  none_refused earlier [] made short = refl
  none_refused earlier (links.Path entry ∷ rest) made short =
      let free : path_link_refusal domains (paths_of earlier) entry ≡ None = path_free (paths_of earlier) entry (omega arith) made.0.0 made.0.1 in
      let more : paths_of (earlier ++ links.Path entry ∷ []) ≡ paths_of earlier ++ entry ∷ [] = paths_append earlier (links.Path entry ∷ []) in
      ap (λ (o : Option Cause). or_later (fault_at entry.line o) (first_link_refusal domains paths (earlier ++ links.Path entry ∷ []) rest)) free
      ∙ none_refused (earlier ++ links.Path entry ∷ []) rest made.1 (omega (arith, ap length more, length_push (paths_of earlier) entry))
  none_refused earlier (links.Constraint entry ∷ rest) made short =
      let m = made.0 in
      let free : constraint_link_refusal paths entry ≡ None = constraint_free entry m.0 m.1 m.2 m.3 in
      let same : paths_of (earlier ++ links.Constraint entry ∷ []) ≡ paths_of earlier = paths_append earlier (links.Constraint entry ∷ []) ∙ append-nil (paths_of earlier) in
      ap (λ (o : Option Cause). or_later (fault_at entry.line o) (first_link_refusal domains paths (earlier ++ links.Constraint entry ∷ []) rest)) free
      ∙ none_refused (earlier ++ links.Constraint entry ∷ []) rest made.1 (omega (arith, ap length same))

pub network_free : (all records : ℕ) (contents : Contents) → all ≤ 2000 → HasLinks all all records contents → instance_of_contents contents ≡ Ok (instance_of (frequencies contents.domains) contents.links)
network_free all records contents small h =
    let domains : Domains = frequencies contents.domains in
    let known : (number : ℕ) → 1 ≤ number → number ≤ all → is_some (place_of (paths_of contents.links) number) ≡ true = λ number low high. placed (paths_of contents.links) number ∙ h.known number low high in
    let few : (entry : PathEntry) → choice_count domains entry ≤ 40 = λ entry. omega (arith, choices_few entry.pol (domains entry.domain), frequencies_few contents.domains entry.domain, h.values) in
    ap (λ (o : Option (LineFault Cause)). unless o (instance_of domains contents.links)) (none_refused domains all (paths_of contents.links) known h.filled few [] contents.links h.made (omega (arith, h.paths)))
