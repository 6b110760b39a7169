-- How many choices a path has, and which one stands at an index, where its polarization is free or fixed.
use Rattle.std.proofs.Common.{◌≡◌, ◌⊎◌, ℕ, zero, suc, ◌+◌, ◌*◌, ◌/◌, ◌%◌, ◌<◌, List, [], ◌∷◌, length, get_or, flat_map, map, ℤ, pos, negsuc, refl, ap, ◌∙◌, inl, inr, arith, of_z, to_z, w8}
use Rattle.std.proofs.lemmas.List.{length-map, get_or-map}
use Rattle.std.proofs.lemmas.List.Concat.{flat_map_single}
use Rattle.fapp_model.specs.declared.instance.Path.{Path}
use Rattle.fapp_model.specs.declared.choice.Choice.{Choice}
use Rattle.fapp_model.specs.Choices.{both_polarizations, choices, choices_with, choice, no_choice}
use Rattle.fapp_model.specs.Instances.{IsPolarization}

-- a free path's choices with frequency f
abbrev two : ℕ → List Choice
two f = choices_with (pos 0) f

length_two : (fs : List ℕ) → length (flat_map two fs) ≡ 2 * length fs
length_two [] = refl
length_two (f ∷ fs) = omega (arith, length_two fs)

-- the choice at 2 * q + r is that of the q-th frequency and the r-th polarization
at_two : (fs : List ℕ) (q r : ℕ) → r < 2 → q < length fs → get_or (flat_map two fs) (r + 2 * q) no_choice ≡ record { freq = get_or fs q 0; pol = get_or both_polarizations r (pos 0) }
at_two [] q r small h = absurd (omega arith)
at_two (f ∷ fs) zero zero small h = refl
at_two (f ∷ fs) zero (suc zero) small h = refl
at_two (f ∷ fs) zero (suc (suc r)) small h = absurd (omega arith)
at_two (f ∷ fs) (suc q) r small h =
    let e : r + 2 * suc q ≡ suc (suc (r + 2 * q)) = omega arith in
    rw e (at_two fs q r small (omega arith))

abbrev pub IsFixed : ℤ → Type 0
IsFixed z = (z ≡ negsuc 0) ⊎ (z ≡ pos 1)

pub free_of : (z : ℤ) → IsPolarization z → of_z w8 z ≡ 0 → z ≡ pos 0
free_of z (inl e) h = absurd (let e' : of_z w8 z ≡ 255 = ap (of_z w8) e in omega arith)
free_of z (inr (inl e)) h = e
free_of z (inr (inr e)) h = absurd (let e' : of_z w8 z ≡ 1 = ap (of_z w8) e in omega arith)

pub fixed_of : (z : ℤ) → IsPolarization z → (of_z w8 z ≡ 0 → ⊥) → IsFixed z
fixed_of z (inl e) h = inl e
fixed_of z (inr (inl e)) h = absurd (h (ap (of_z w8) e))
fixed_of z (inr (inr e)) h = inr e

pub round_trip : (z : ℤ) → IsPolarization z → to_z w8 (of_z w8 z) ≡ z
round_trip z (inl e) = rw e refl
round_trip z (inr (inl e)) = rw e refl
round_trip z (inr (inr e)) = rw e refl

fixed_choices : (z : ℤ) → IsFixed z → (fs : List ℕ) → flat_map (choices_with z) fs ≡ map (λ f. record { freq = f; pol = z }) fs
fixed_choices z (inl e) fs = rw e (flat_map_single (λ f. record { freq = f; pol = negsuc 0 }) fs)
fixed_choices z (inr e) fs = rw e (flat_map_single (λ f. record { freq = f; pol = pos 1 }) fs)

pub free_count : (path : Path) → path.pol ≡ pos 0 → length (choices path) ≡ 2 * length path.freqs
free_count path e = rw e (length_two path.freqs)

pub fixed_count : (path : Path) → IsFixed path.pol → length (choices path) ≡ length path.freqs
fixed_count path fixed = ap length (fixed_choices path.pol fixed path.freqs) ∙ length-map path.freqs _

pub free_choice : (path : Path) (index : ℕ) → path.pol ≡ pos 0 → index < 2 * length path.freqs → choice path index ≡ record { freq = get_or path.freqs (index / 2) 0; pol = get_or both_polarizations (index % 2) (pos 0) }
free_choice path index e h =
    let parts : index ≡ index % 2 + 2 * (index / 2) = omega arith in
    let at = at_two path.freqs (index / 2) (index % 2) (omega arith) (omega arith) in
    rw e (ap (λ n. get_or (flat_map two path.freqs) n no_choice) parts ∙ at)

pub fixed_choice : (path : Path) (index : ℕ) → IsFixed path.pol → index < length path.freqs → choice path index ≡ record { freq = get_or path.freqs index 0; pol = path.pol }
fixed_choice path index fixed h = ap (λ cs. get_or cs index no_choice) (fixed_choices path.pol fixed path.freqs) ∙ get_or-map (λ f. record { freq = f; pol = path.pol }) path.freqs index 0 no_choice h

pub both_valid : (r : ℕ) → r < 2 → IsPolarization (get_or both_polarizations r (pos 0))
both_valid zero h = inl refl
both_valid (suc zero) h = inr (inr refl)
both_valid (suc (suc r)) h = absurd (omega arith)
