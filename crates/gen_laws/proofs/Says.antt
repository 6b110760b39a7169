-- What each kind of line of a network says.
use Rattle.std.proofs.Common.{◌≡◌, ◌≢◌, ℕ, zero, suc, ◌+◌, ◌-◌, ◌*◌, Bool, true, false, ltb, List, [], ◌∷◌, length, map, decimal, codes, pos, Result, Ok, refl, ap, ◌∙◌, append-nil, arith}
use Rattle.std.specs.List.{AllByRecursion, range_with_len}
use Rattle.std.proofs.lemmas.Bool.{ne_eqb, le-ltb}
use Rattle.std.proofs.lemmas.Fmt.{decimal_digit}
use Rattle.std.proofs.lemmas.List.{length-map}
use Rattle.fapp_model.specs.declared.level.TheConstants.{LEVELS}
use Rattle.fapp_model.specs.Instances.{IsNumber}
use Rattle.fapp_text.specs.Numbers.{number_of}
use Rattle.fapp_text.specs.Reading.{◌>>=◌, or_fault}
use Rattle.fapp_text.proofs.ReadingSteps.{or_fault_ok, refused_ok}
use Rattle.record_reader.specs.declared.cause.Cause.{Cause}
use Rattle.record_reader.specs.declared.cause.Cause.TheVariants as causes
use Rattle.record_reader.specs.declared.entry.Entry.{Entry}
use Rattle.record_reader.specs.declared.entry.Entry.TheVariants as entries
use Rattle.record_reader.specs.declared.entry.Pending.TheVariants as links
use Rattle.record_reader.specs.declared.entry.Demand.{Demand}
use Rattle.record_reader.specs.Fields.{number, numbers, either_word}
use Rattle.record_reader.specs.Entries.{rises, rises_after, rule_rises, constraint, imperative, compatible, with_zeros, distances, compatible_entry, entry_of}
use Rattle.cert_lines.specs.declared.fault.CertCause.TheVariants as certificate
use Rattle.cert_lines.specs.FieldReading.{is_padded}
use Rattle.cert_lines.proofs.NumberLaws.{number_of_again}
use Rattle.fapp_gen.specs.Lines.{falling, numbered}
use Rattle.fapp_gen.specs.Generated.{distance_line, imperative_line, path_line}

number_again : (n : ℕ) → IsNumber n → number (decimal n) ≡ Ok n
number_again n h =
    let plain = refused_ok (is_padded (decimal n)) certificate.BadNumber (or_fault certificate.BadNumber (number_of (decimal n))) n (number_of_again n h) in
    ap (or_fault causes.BadNumber) (or_fault_ok certificate.BadNumber (number_of (decimal n)) n plain.1)

numbers_again : (ns : List ℕ) → AllByRecursion IsNumber ns → numbers (map decimal ns) ≡ Ok ns
numbers_again [] h = refl
numbers_again (n ∷ ns) h =
    ap (λ (r : Result ℕ Cause). r >>= λ first. numbers (map decimal ns) >>= λ others. Ok (first ∷ others)) (number_again n h.0)
    ∙ ap (λ (r : Result (List ℕ) Cause). r >>= λ others. Ok (n ∷ others)) (numbers_again ns h.1)

pub domain_says : (line domain frequency : ℕ) → IsNumber domain → IsNumber frequency
    → entry_of LEVELS line (numbered (codes "DM") (domain ∷ frequency ∷ [])) ≡ Ok (entries.Domain (record { domain = domain; frequency = frequency }))
domain_says line domain frequency d f = rw (number_again domain d, number_again frequency f) refl

pub path_says : (line path domain : ℕ) → IsNumber path → IsNumber domain
    → entry_of LEVELS line (path_line path domain) ≡ Ok (entries.Pending (links.Path (record { line = line; number = path; domain = domain; pol = pos 0 })))
path_says line path domain p d = rw (number_again path p, number_again domain d, decimal_digit 0 (omega arith)) refl

-- a constraint of two paths
abbrev pub between : ℕ → ℕ → Demand → ℕ → Entry
between first second rule line = entries.Pending (links.Constraint (record { line = line; first = first; second = second; rule = rule }))

constraint_says : (line first second : ℕ) (rule : Demand) → first ≢ second → rule_rises rule ≡ false → constraint line first second rule ≡ Ok (between first second rule line)
constraint_says line first second rule apart flat = rw (ne_eqb first second apart, flat) refl

imperative_flat : (of_frequencies : Bool) (n : ℕ) → rule_rises (imperative of_frequencies true n) ≡ false
imperative_flat true n = refl
imperative_flat false n = refl

pub imperative_says : (of_frequencies : Bool) (kind : List ℕ) (line first second n : ℕ) → either_word (codes "F") (codes "P") kind ≡ Ok of_frequencies → first ≢ second → IsNumber first → IsNumber second → IsNumber n
    → entry_of LEVELS line (imperative_line kind first second n) ≡ Ok (between first second (imperative of_frequencies true n) line)
unfolding imperative_line
imperative_says of_frequencies kind line first second n is apart f s m =
    rw (number_again first f, number_again second s, is, number_again n m) (constraint_says line first second (imperative of_frequencies true n) apart (imperative_flat of_frequencies n))

-- ---- distances

distances_again : (ds : List ℕ) → length ds ≡ 11 → AllByRecursion IsNumber ds → distances (map decimal ds) ≡ Ok ds
distances_again ds count h =
    ap (λ (r : Result (List ℕ) Cause). r >>= λ dist. Ok (with_zeros dist)) (numbers_again ds h)
    ∙ rw count (ap Ok (append-nil ds))

compatible_flat : (of_equal : Bool) (ds : List ℕ) → rises ds ≡ false → rule_rises (compatible of_equal ds) ≡ false
compatible_flat true ds h = h
compatible_flat false ds h = h

compatible_says : (of_equal : Bool) (word : List ℕ) (line first second : ℕ) (ds : List ℕ) → first ≢ second → IsNumber first → IsNumber second → length ds ≡ 11 → AllByRecursion IsNumber ds → rises ds ≡ false
    → compatible_entry of_equal line (distance_line word first second ds) ≡ Ok (between first second (compatible of_equal ds) line)
unfolding distance_line
compatible_says of_equal word line first second ds apart f s count all flat =
    rw (number_again first f, number_again second s, distances_again ds count all) (constraint_says line first second (compatible of_equal ds) apart (compatible_flat of_equal ds flat))

many_fields : (ds : List ℕ) → length ds ≡ 11 → length (map decimal ds) ≡ 11
many_fields ds count = length-map ds decimal ∙ count

abbrev equal_says : Type 0
equal_says = (line first second : ℕ) (ds : List ℕ) → first ≢ second → IsNumber first → IsNumber second → length ds ≡ 11 → AllByRecursion IsNumber ds → rises ds ≡ false
    → entry_of LEVELS line (distance_line (codes "CE") first second ds) ≡ Ok (between first second (compatible true ds) line)

pub same_says : equal_says
unfolding distance_line
same_says line first second ds apart f s count all flat = rw (many_fields ds count) (compatible_says true (codes "CE") line first second ds apart f s count all flat)

abbrev different_says : Type 0
different_says = (line first second : ℕ) (ds : List ℕ) → first ≢ second → IsNumber first → IsNumber second → length ds ≡ 11 → AllByRecursion IsNumber ds → rises ds ≡ false
    → entry_of LEVELS line (distance_line (codes "CD") first second ds) ≡ Ok (between first second (compatible false ds) line)

pub other_says : different_says
unfolding distance_line
other_says line first second ds apart f s count all flat = rw (many_fields ds count) (compatible_says false (codes "CD") line first second ds apart f s count all flat)

-- ---- numbers that fall from level to level

pub falling_count : (first step : ℕ) → length (falling first step) ≡ 11
unfolding falling
falling_count first step = refl

numbers_fall : (first step k n : ℕ) → IsNumber first → AllByRecursion IsNumber (map (λ level. first - step * level) (range_with_len k n))
numbers_fall first step k zero h = tt
numbers_fall first step k (suc n) h = (omega arith, numbers_fall first step (k + 1) n h)

pub falling_numbers : (first step : ℕ) → IsNumber first → AllByRecursion IsNumber (falling first step)
unfolding falling
falling_numbers first step h = numbers_fall first step 0 11 h

next_falls : (first step k : ℕ) → ltb (first - step * k) (first - step * (k + 1)) ≡ false
next_falls first step k = le-ltb (first - step * k) (first - step * (k + 1)) (omega arith)

falls_after : (first step k n : ℕ) → rises_after (first - step * k) (map (λ level. first - step * level) (range_with_len (k + 1) n)) ≡ false
falls_after first step k zero = refl
falls_after first step k (suc n) = rw (next_falls first step k) (falls_after first step (k + 1) n)

pub falling_falls : (first step : ℕ) → rises (falling first step) ≡ false
unfolding falling
falling_falls first step = falls_after first step 0 10
