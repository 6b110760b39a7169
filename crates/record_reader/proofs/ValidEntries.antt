-- An entry that a line gives is valid.
use Rattle.std.proofs.Common.{◌≡◌, ℕ, zero, suc, ◌+◌, ◌-◌, ◌<◌, ◌≤◌, Bool, true, false, cond, ◌||◌, eqb, ltb, leb, List, [], ◌∷◌, ◌++◌, length, get_or, drop, replicate, ℤ, pos, All, Option, Some, None, Ok, Err, refl, sym, ap, ◌∙◌, subst, arith, inl, inr, codes, length-drop, length-append}
use Rattle.std.specs.Str.{bytes_eq}
use Rattle.std.specs.Option.{ok_or}
use Rattle.std.proofs.lemmas.Bool.{leb-true, ltb-false, eqb-true, eqb-false, or_parts, cases_lt}
use Rattle.std.proofs.lemmas.List.{length-replicate, get_or-replicate, get_or-append_right, get_or_past}
use Rattle.std.proofs.lemmas.List.Elements.{All-nil, All-cons, All-append}
use Rattle.fapp_model.specs.declared.level.TheConstants.{MAX_LEVELS}
use Rattle.fapp_model.specs.Instances.{IsNumber, IsPolarization, AreDistances}
use Rattle.fapp_text.specs.declared.numeral.TheConstants.{MAX_NUMBER}
use Rattle.fapp_text.specs.declared.numeral.NumFault.{NumFault}
use Rattle.fapp_text.specs.declared.numeral.NumFault.TheVariants.{NotDigits, TooLarge}
use Rattle.fapp_text.specs.Numbers.{is_numeral, value, bounded, number_of}
use Rattle.fapp_text.specs.Reading.{◌>>=◌}
use Rattle.fapp_text.specs.Signs.{IsSign, sign_of}
use Rattle.fapp_text.proofs.ReadingSteps.{ok_is, bind_ok, or_fault_ok, refused_ok, required_ok}
use Rattle.fapp_text.proofs.SignLemmas.{sign_taken}
use Rattle.record_reader.specs.declared.cause.Cause.{Cause}
use Rattle.record_reader.specs.declared.cause.Cause.TheVariants as causes
use Rattle.record_reader.specs.declared.entry.Entry.{Entry}
use Rattle.record_reader.specs.declared.entry.Demand.{Demand}
use Rattle.record_reader.specs.declared.entry.Kind.{Kind}
use Rattle.record_reader.specs.declared.entry.Kind.TheVariants as kinds
use Rattle.record_reader.specs.Fields.{field, number, numbers, polarization, either_word}
use Rattle.record_reader.specs.Entries.{rises, rises_after, rule_rises, constraint, domain_entry, path_entry, imperative, imperative_entry, compatible, with_zeros, distances, compatible_entry, entry_by, entry_of, kind_of, field_count}
use Rattle.record_reader.specs.Validity.{IsDemand, IsEntryOf}

number_step : (numeral : Bool) (v n : ℕ) → cond numeral (bounded v) (Err NotDigits) ≡ Ok n → n ≤ MAX_NUMBER
number_step true v n h =
    let small = required_ok (leb v MAX_NUMBER) TooLarge (Ok v) n h in
    omega (arith, leb-true v MAX_NUMBER small.0, ok_is {E = NumFault} v n small.1)
number_step false v n h = absurd cc

number_valid : (text : List ℕ) (n : ℕ) → number text ≡ Ok n → IsNumber n
number_valid text n h = number_step (is_numeral text) (value text) n (or_fault_ok causes.BadNumber (number_of text) n h)

numbers_valid : (texts : List (List ℕ)) (ns : List ℕ) → numbers texts ≡ Ok ns → All IsNumber ns × (length ns ≡ length texts)
numbers_valid [] ns h = let e : [] ≡ ns = ok_is {E = Cause} [] ns h in subst (λ xs. All IsNumber xs × (length xs ≡ 0)) e (All-nil IsNumber, refl)
numbers_valid (text ∷ texts) ns h =
    let first = bind_ok (number text) (λ n. numbers texts >>= λ others. Ok (n ∷ others)) ns h in
    let later = bind_ok (numbers texts) (λ others. Ok (first.0 ∷ others)) ns first.2 in
    let rest = numbers_valid texts later.0 later.1 in
    let e : first.0 ∷ later.0 ≡ ns = ok_is {E = Cause} (first.0 ∷ later.0) ns later.2 in
    subst (λ xs. All IsNumber xs × (length xs ≡ suc (length texts))) e (All-cons IsNumber first.0 later.0 (number_valid text first.0 first.1) rest.0, ap suc rest.1)

polarization_step : (free : Bool) (sign : Option ℤ) (pol : ℤ) → ((z : ℤ) → sign ≡ Some z → IsSign z) → cond free (Ok (pos 0)) (ok_or sign causes.BadPolarization) ≡ Ok pol → IsPolarization pol
polarization_step true sign pol is h = inr (inl (sym (ok_is {E = Cause} (pos 0) pol h)))
polarization_step false None pol is h = absurd cc
polarization_step false (Some z) pol is h = elim (is z refl) [
  | inl e ↦ inl (sym (ok_is {E = Cause} z pol h) ∙ e)
  | inr e ↦ inr (inr (sym (ok_is {E = Cause} z pol h) ∙ e))
]

polarization_valid : (text : List ℕ) (pol : ℤ) → polarization text ≡ Ok pol → IsPolarization pol
polarization_valid text pol h = polarization_step (bytes_eq text (codes "0")) (sign_of text) pol (λ z e. (sign_taken text z e).1) h

-- ---- distances that do not rise

not_more : (last n : ℕ) (later : Bool) → ltb last n || later ≡ false → (n ≤ last) × (later ≡ false)
not_more last n later h =
    let both = or_parts (ltb last n) later h in
    (ltb-false last n both.0, both.1)

all_below : (last : ℕ) (xs : List ℕ) → rises_after last xs ≡ false → (k d : ℕ) → k < length xs → get_or xs k d ≤ last
all_below last [] h k d lt = absurd (omega arith)
all_below last (n ∷ xs) h zero d lt = (not_more last n (rises_after n xs) h).0
all_below last (n ∷ xs) h (suc k) d lt =
    let first = not_more last n (rises_after n xs) h in
    omega (arith, first.0, all_below n xs first.1 k d (omega arith))

tail_falls : (n : ℕ) (xs : List ℕ) → rises_after n xs ≡ false → rises xs ≡ false
tail_falls n [] h = refl
tail_falls n (m ∷ xs) h = (not_more n m (rises_after m xs) h).1

falls : (xs : List ℕ) → rises xs ≡ false → (i j d : ℕ) → i < j → j < length xs → get_or xs j d ≤ get_or xs i d
falls [] h i j d lt within = absurd (omega arith)
falls (n ∷ xs) h zero zero d lt within = absurd (omega arith)
falls (n ∷ xs) h zero (suc j) d lt within = all_below n xs h j d (omega arith)
falls (n ∷ xs) h (suc i) zero d lt within = absurd (omega arith)
falls (n ∷ xs) h (suc i) (suc j) d lt within = falls xs (tail_falls n xs h) i j d (omega arith) (omega arith)

-- ---- entries

constraint_valid : (levels line first second : ℕ) (rule : Demand) (entry : Entry) → (rule_rises rule ≡ false → IsDemand levels rule) → constraint line first second rule ≡ Ok entry → IsEntryOf levels entry
constraint_valid levels line first second rule entry valid h =
    let one = refused_ok (eqb first second) causes.SelfPair _ entry h in
    let two = refused_ok (rule_rises rule) causes.Increasing _ entry one.1 in
    subst (IsEntryOf levels) (ok_is {E = Cause} _ entry two.1) (record { different = eqb-false first second one.0; rule = valid two.0 })

domain_valid : (levels : ℕ) (fields : List (List ℕ)) (entry : Entry) → domain_entry fields ≡ Ok entry → IsEntryOf levels entry
domain_valid levels fields entry h =
    let one = bind_ok (number (field fields 1)) _ entry h in
    let two = bind_ok (number (field fields 2)) _ entry one.2 in
    subst (IsEntryOf levels) (ok_is {E = Cause} _ entry two.2) (number_valid (field fields 2) two.0 two.1)

path_valid : (levels line : ℕ) (fields : List (List ℕ)) (entry : Entry) → path_entry line fields ≡ Ok entry → IsEntryOf levels entry
path_valid levels line fields entry h =
    let one = bind_ok (number (field fields 1)) _ entry h in
    let two = bind_ok (number (field fields 2)) _ entry one.2 in
    let three = bind_ok (polarization (field fields 3)) _ entry two.2 in
    subst (IsEntryOf levels) (ok_is {E = Cause} _ entry three.2) (record { number = number_valid (field fields 1) one.0 one.1; polarization = polarization_valid (field fields 3) three.0 three.1 })

imperative_valid : (levels : ℕ) (of_frequencies equal : Bool) (n : ℕ) → IsNumber n → IsDemand levels (imperative of_frequencies equal n)
imperative_valid levels true equal n h = h
imperative_valid levels false equal n h = tt

imperative_entry_valid : (levels line : ℕ) (fields : List (List ℕ)) (entry : Entry) → imperative_entry line fields ≡ Ok entry → IsEntryOf levels entry
imperative_entry_valid levels line fields entry h =
    let one = bind_ok (number (field fields 1)) _ entry h in
    let two = bind_ok (number (field fields 2)) _ entry one.2 in
    let three = bind_ok (either_word (codes "F") (codes "P") (field fields 3)) _ entry two.2 in
    let four = bind_ok (either_word (codes "E") (codes "I") (field fields 4)) _ entry three.2 in
    let five = bind_ok (number (field fields 5)) _ entry four.2 in
    constraint_valid levels line one.0 two.0 (imperative three.0 four.0 five.0) entry (λ e. imperative_valid levels three.0 four.0 five.0 (number_valid (field fields 5) five.0 five.1)) five.2

compatible_valid : (levels : ℕ) (of_equal : Bool) (dist : List ℕ) → (rises dist ≡ false → AreDistances levels dist) → rule_rises (compatible of_equal dist) ≡ false → IsDemand levels (compatible of_equal dist)
compatible_valid levels true dist valid h = valid h
compatible_valid levels false dist valid h = valid h

zeros_number : (n : ℕ) → All IsNumber (replicate n 0)
zeros_number n k d lt =
    let count : k < n = omega (arith, length-replicate {A = ℕ} n 0) in
    omega (arith, get_or-replicate {A = ℕ} n k 0 d count)

none_behind : (dist : List ℕ) (n level : ℕ) → length dist ≤ level → get_or (dist ++ replicate n 0) level 0 ≡ 0
none_behind dist n level h = get_or-append_right dist (replicate n 0) (length dist) level 0 refl h ∙ zero_at n (level - length dist)
  where
    zero_at : (n k : ℕ) → ◌≡◌ {A = ℕ} (get_or (replicate n 0) k 0) 0
    zero_at n k = elim (cases_lt k n) [ inl lt ↦ get_or-replicate n k 0 0 lt | inr le ↦ get_or_past (replicate n 0) k 0 (omega (arith, length-replicate {A = ℕ} n 0)) ]

padded_valid : (levels : ℕ) (dist : List ℕ) → levels ≤ MAX_LEVELS → length dist ≡ levels → All IsNumber dist → rises (with_zeros dist) ≡ false → AreDistances levels (with_zeros dist)
padded_valid levels dist few count valid h = record {
  count = omega (arith, length-append dist (replicate (MAX_LEVELS - length dist) 0), length-replicate {A = ℕ} (MAX_LEVELS - length dist) 0, count);
  numbers = All-append IsNumber dist (replicate (MAX_LEVELS - length dist) 0) valid (zeros_number (MAX_LEVELS - length dist));
  falling = λ i j d lt within. falls (with_zeros dist) h i j d lt within;
  ended = λ level h. none_behind dist (MAX_LEVELS - length dist) level (omega (arith, count));
}

distances_valid : (levels : ℕ) (texts : List (List ℕ)) (dist : List ℕ) → levels ≤ MAX_LEVELS → length texts ≡ levels → distances texts ≡ Ok dist → rises dist ≡ false → AreDistances levels dist
distances_valid levels texts dist few count h =
    let one = bind_ok (numbers texts) (λ ns. Ok (with_zeros ns)) dist h in
    let read = numbers_valid texts one.0 one.1 in
    subst (λ xs. rises xs ≡ false → AreDistances levels xs) (ok_is {E = Cause} (with_zeros one.0) dist one.2) (padded_valid levels one.0 few (read.1 ∙ count) read.0)

compatible_entry_valid : (levels : ℕ) (of_equal : Bool) (line : ℕ) (fields : List (List ℕ)) (entry : Entry) → levels ≤ MAX_LEVELS → length fields ≡ 3 + levels → compatible_entry of_equal line fields ≡ Ok entry → IsEntryOf levels entry
compatible_entry_valid levels of_equal line fields entry few count h =
    let one = bind_ok (number (field fields 1)) _ entry h in
    let two = bind_ok (number (field fields 2)) _ entry one.2 in
    let three = bind_ok (distances (drop 3 fields)) _ entry two.2 in
    let valid = distances_valid levels (drop 3 fields) three.0 few (omega (arith, count, length-drop 3 fields)) three.1 in
    constraint_valid levels line one.0 two.0 (compatible of_equal three.0) entry (compatible_valid levels of_equal three.0 valid) three.2

entry_by_valid : (levels : ℕ) (kind : Kind) (line : ℕ) (fields : List (List ℕ)) (entry : Entry) → levels ≤ MAX_LEVELS → length fields ≡ field_count levels kind → entry_by kind line fields ≡ Ok entry → IsEntryOf levels entry
entry_by_valid levels kinds.Domain line fields entry few count h = domain_valid levels fields entry h
entry_by_valid levels kinds.Path line fields entry few count h = path_valid levels line fields entry h
entry_by_valid levels kinds.Imperative line fields entry few count h = imperative_entry_valid levels line fields entry h
entry_by_valid levels kinds.Same line fields entry few count h = compatible_entry_valid levels true line fields entry few count h
entry_by_valid levels kinds.Other line fields entry few count h = compatible_entry_valid levels false line fields entry few count h

pub entry_valid : (levels line : ℕ) (fields : List (List ℕ)) (entry : Entry) → levels ≤ MAX_LEVELS → entry_of levels line fields ≡ Ok entry → IsEntryOf levels entry
entry_valid levels line fields entry few h =
    let kind = bind_ok (kind_of (field fields 0)) _ entry h in
    let count = required_ok (eqb (length fields) (field_count levels kind.0)) causes.FieldCount _ entry kind.2 in
    entry_by_valid levels kind.0 line fields entry few (eqb-true (length fields) (field_count levels kind.0) count.0) count.1
