-- The frequencies of a domain ascend, and are numbers of its entries.
use Rattle.std.proofs.Common.{◌≡◌, ℕ, zero, suc, ◌+◌, ◌<◌, ◌≤◌, Bool, true, false, cond, eqb, ltb, List, [], ◌∷◌, length, get_or, All, refl, arith}
use Rattle.std.specs.Ordering.{nat_cmp}
use Rattle.std.specs.List.{fold}
use Rattle.std.specs.List.Sorted.{IsStrictlyIncreasing}
use Rattle.std.proofs.lemmas.List.Elements.{All-nil, All-head, All-tail}
use Rattle.std.proofs.lemmas.Map.Views.{All-insert_key}
use Rattle.fapp_model.specs.declared.limits.TheConstants.{MAX_DOMAIN_FREQUENCIES}
use Rattle.fapp_model.specs.Instances.{IsNumber}
use Rattle.record_reader.specs.declared.entry.DomainEntry.{DomainEntry}
use Rattle.record_reader.specs.Instances.{put, put_entry, frequencies}
use Rattle.record_reader.specs.Validity.{IsDomainEntry, AreDomains}
use Rattle.record_reader.proofs.Frequencies.{put_key}

-- numbers that ascend, from a least one on
abbrev UpFrom : ℕ → List ℕ → Type 0
UpFrom low [] = Unit {0}
UpFrom low (x ∷ xs) = (low ≤ x) × UpFrom (x + 1) xs

put_step : (n m low : ℕ) (rest : List ℕ) (less same : Bool) → ltb n m ≡ less → eqb n m ≡ same → low ≤ n → low ≤ m → UpFrom (m + 1) rest → (m + 1 ≤ n → UpFrom (m + 1) (put n rest))
    → UpFrom low (cond less (n ∷ m ∷ rest) (cond same (m ∷ rest) (m ∷ put n rest)))
put_step n m low rest true same e f ln lm up more = let h : n + 1 ≤ m = grind arith in (ln, (h, up))
put_step n m low rest false true e f ln lm up more = (lm, up)
put_step n m low rest false false e f ln lm up more = (lm, more (grind arith))

put_up : (n low : ℕ) (xs : List ℕ) → low ≤ n → UpFrom low xs → UpFrom low (put n xs)
put_up n low [] ln up = (ln, tt)
put_up n low (m ∷ rest) ln up = put_step n m low rest (ltb n m) (eqb n m) refl refl ln up.0 up.1 (λ above. put_up n (m + 1) rest above up.1)

up_increasing : (low : ℕ) (xs : List ℕ) → UpFrom low xs → (k : ℕ) → k + 1 < length xs → get_or xs k 0 < get_or xs (k + 1) 0
up_increasing low [] up k lt = absurd (omega arith)
up_increasing low (x ∷ []) up k lt = absurd (omega arith)
up_increasing low (x ∷ y ∷ xs) up zero lt = omega (arith, up.1.0)
up_increasing low (x ∷ y ∷ xs) up (suc k) lt =
    let e : suc k + 1 ≡ suc (k + 1) = omega arith in
    rw e (up_increasing (x + 1) (y ∷ xs) up.1 k (omega arith))

entry_step : (Q : List ℕ → Type 0) (acc : List ℕ) (entry : DomainEntry) (same : Bool) → Q acc → Q (put entry.frequency acc) → Q (cond same (put entry.frequency acc) acc)
entry_step Q acc entry true old new = new
entry_step Q acc entry false old new = old

kept : (Q : List ℕ → Type 0) (P : ℕ → Type 0) → ((n : ℕ) (xs : List ℕ) → P n → Q xs → Q (put n xs)) → (domain : ℕ) (entries : List DomainEntry) (acc : List ℕ) → All (λ entry. P entry.frequency) entries → Q acc → Q (fold (put_entry domain) acc entries)
kept Q P more domain [] acc fit q = q
kept Q P more domain (entry ∷ entries) acc fit q =
    kept Q P more domain entries (put_entry domain acc entry) (All-tail (λ entry. P entry.frequency) entry entries fit)
    (entry_step Q acc entry (eqb entry.domain domain) q (more entry.frequency acc (All-head (λ entry. P entry.frequency) entry entries fit) q))

pub ascends : (entries : List DomainEntry) (domain : ℕ) → IsStrictlyIncreasing (frequencies entries domain)
ascends entries domain = up_increasing 0 (frequencies entries domain) (kept (UpFrom 0) (λ n. Unit {0}) (λ n xs h q. put_up n 0 xs (omega arith) q) domain entries [] (λ k d lt. tt) tt)

pub frequencies_numbers : (entries : List DomainEntry) (domain : ℕ) → All IsDomainEntry entries → All IsNumber (frequencies entries domain)
frequencies_numbers entries domain numbers = kept (All IsNumber) IsNumber (λ n xs h q. rw (put_key n xs) (All-insert_key nat_cmp n IsNumber xs q h)) domain entries [] numbers (All-nil IsNumber)

-- the frequencies of entries that have numbers, whatever the domain
pub are_domains : (entries : List DomainEntry) → All IsDomainEntry entries → ((domain : ℕ) → length (frequencies entries domain) ≤ MAX_DOMAIN_FREQUENCIES) → AreDomains (frequencies entries)
are_domains entries numbers few = record { numbers = λ d. frequencies_numbers entries d numbers; ascending = ascends entries; few = few }
