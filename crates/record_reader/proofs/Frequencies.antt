-- The frequencies of domains, in ascending order.
use Rattle.std.proofs.Common.{◌≡◌, ℕ, Bool, true, false, cond, eqb, ltb, List, [], ◌∷◌, ◌++◌, length, Option, Some, None, refl, sym, ap, ◌∙◌, arith}
use Rattle.std.specs.Ordering.{nat_cmp, match_ordering}
use Rattle.std.specs.BTreeMap.{BTreeMap, get, is_at}
use Rattle.std.specs.BTreeSet.{BTreeSet, insert_key}
use Rattle.std.specs.Option.{unwrap_or}
use Rattle.std.proofs.lemmas.Bool.{eqb-true}
use Rattle.std.proofs.lemmas.Bool.Decides.{nat_tests}
use Rattle.std.proofs.lemmas.List.Sums.{fold_push}
use Rattle.record_reader.specs.declared.entry.DomainEntry.{DomainEntry}
use Rattle.record_reader.specs.Instances.{put, put_entry, frequencies}
use Rattle.record_reader.specs.Readers.{frequencies_in, keys_of}
use Rattle.record_reader.proofs.PathPositions.{at_eq}

by_order : (n m : ℕ) (less same more : List ℕ) → cond (ltb n m) less (cond (eqb n m) same more) ≡ match_ordering (nat_cmp n m) less same more
by_order n m less same more = grind (arith, nat_tests)

pub put_key : (n : ℕ) (ks : List ℕ) → put n ks ≡ insert_key nat_cmp ks n
put_key n [] = refl
put_key n (m ∷ ks) = rw (put_key n ks) (by_order n m (n ∷ m ∷ ks) (m ∷ ks) (m ∷ insert_key nat_cmp ks n))

pub frequencies_push : (entries : List DomainEntry) (entry : DomainEntry) (domain : ℕ) → frequencies (entries ++ entry ∷ []) domain ≡ put_entry domain (frequencies entries domain) entry
frequencies_push entries entry domain = fold_push (put_entry domain) [] entries entry

put_step : (entry : DomainEntry) (domain : ℕ) (same : Bool) (set : BTreeSet ℕ) (old : Option (BTreeSet ℕ)) (own : List ℕ) → eqb entry.domain domain ≡ same
    → (same ≡ true → own ≡ keys_of old) → set.keys ≡ insert_key nat_cmp own entry.frequency → keys_of (cond same (Some set) old) ≡ put_entry domain (keys_of old) entry
put_step entry domain true set old own e mine keys = rw (e, ← mine refl) (keys ∙ sym (put_key entry.frequency own))
put_step entry domain false set old own e mine keys = rw e refl

keys_from : (o : Option (BTreeSet ℕ)) (none : BTreeSet ℕ) → none.keys ≡ [] → (unwrap_or o none).keys ≡ keys_of o
keys_from None none e = e
keys_from (Some set) none e = refl

-- a map's frequencies of a domain, none at first, and these with another one
pub record GetsFrequency (entry : DomainEntry) (old : BTreeMap ℕ (BTreeSet ℕ)) (set : BTreeSet ℕ) : Type 0 where
  pub own : List ℕ
  pub before : own ≡ frequencies_in old entry.domain
  pub keys : set.keys ≡ insert_key nat_cmp own entry.frequency

pub gets_frequency : (entry : DomainEntry) (old : BTreeMap ℕ (BTreeSet ℕ)) (none own set : BTreeSet ℕ) → none.keys ≡ []
    → own ≡ unwrap_or (get nat_cmp old entry.domain) none → set.keys ≡ insert_key nat_cmp own.keys entry.frequency → GetsFrequency entry old set
gets_frequency entry old none own set empty mine keys = record { own = own.keys; before = ap (λ (s : BTreeSet ℕ). s.keys) mine ∙ keys_from (get nat_cmp old entry.domain) none empty; keys = keys }

-- what a map with these then has at a domain
pub has_then : (entry : DomainEntry) (old : BTreeMap ℕ (BTreeSet ℕ)) (set : BTreeSet ℕ) → GetsFrequency entry old set
    → (domain : ℕ) (found : Option (BTreeSet ℕ)) → found ≡ cond (is_at (nat_cmp entry.domain) domain) (Some set) (get nat_cmp old domain) → keys_of found ≡ put_entry domain (frequencies_in old domain) entry
has_then entry old set g domain found u =
    ap keys_of (u ∙ ap (λ b. cond b (Some set) (get nat_cmp old domain)) (at_eq entry.domain domain))
    ∙ put_step entry domain (eqb entry.domain domain) set (get nat_cmp old domain) g.own refl
    (λ e. g.before ∙ ap (frequencies_in old) (eqb-true entry.domain domain e)) g.keys

-- and how many at its own
pub counted_then : (set : BTreeSet ℕ) (count : ℕ) → count ≡ length set.keys → (found : Option (BTreeSet ℕ)) → found ≡ Some set → count ≡ length (keys_of found)
counted_then set count counted found u = counted ∙ sym (ap (λ o. length (keys_of o)) u)
