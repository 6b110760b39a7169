-- The least offer of a seat.
use Rattle.std.proofs.Common.{◌≡◌, ℕ, ◌≤◌, min, List, [], ◌∷◌, ◌++◌, All, Option, Some, None, fold, refl, sym, ap, ◌∙◌, arith, le_refl, le_trans}
use Rattle.std.proofs.lemmas.List.Elements.{All-head, All-tail}
use Rattle.std.proofs.lemmas.List.Sums.{fold_push}
use Rattle.search_log.specs.Bounds.{lowest, with_offer}
use Rattle.std.proofs.lemmas.List.{append-nil, append_assoc}
use Rattle.best_word.specs.declared.seat.BestSeat.{BestSeat}
use Rattle.best_word.specs.declared.view.BestView.{BestView}
use Rattle.best_word.specs.Bound.{after_load, after_offer}
use Rattle.best_word.specs.Seats.{view_of, IsSameSeat}
use Rattle.fapp_workers.specs.SharedBounds.{least_offer, FindsFirst, IsLater}

-- what is at most all offers and what was told is at most the least of them
low-from : (n told : ℕ) (least : Option ℕ) (offers : List ℕ) → n ≤ lowest told least → All (λ m. n ≤ m) offers → n ≤ lowest told (fold with_offer least offers)
low-from n told least [] low all = low
low-from n told None (x ∷ xs) low all = low-from n told (Some x) xs (let h = All-head (λ m. n ≤ m) x xs all in omega arith) (All-tail (λ m. n ≤ m) x xs all)
low-from n told (Some least) (x ∷ xs) low all = low-from n told (Some (min least x)) xs (let h = All-head (λ m. n ≤ m) x xs all in omega arith) (All-tail (λ m. n ≤ m) x xs all)

pub low-offers : (n told : ℕ) (offers : List ℕ) → n ≤ told → All (λ m. n ≤ m) offers → n ≤ lowest told (least_offer offers)
low-offers n told offers low all = low-from n told None offers low all

pub least-push : (offers : List ℕ) (x : ℕ) → least_offer (offers ++ x ∷ []) ≡ with_offer (least_offer offers) x
least-push offers x = fold_push with_offer None offers x

-- ---- a seat, later

later-by : (was old new : BestSeat) (offers found : List ℕ) → IsSameSeat old new → (view_of new).share ≡ (view_of old).share → (view_of new).levels ≡ (view_of old).levels → (view_of new).least ≤ (view_of old).least →
    (view_of new).offers ≡ (view_of old).offers ++ offers → (view_of new).found ≡ (view_of old).found ++ found → IsLater was old → IsLater was new
later-by was old new offers found same share levels least o f h = record {
  table = h.table ∙ same;
  share = share ∙ h.share;
  levels = levels ∙ h.levels;
  falls = le_trans least h.falls;
  offered = h.offered ++ offers;
  offers = o ∙ (ap (λ (xs : List ℕ). xs ++ offers) h.offers ∙ append_assoc (view_of was).offers h.offered offers);
  seen = h.seen ++ found;
  found = f ∙ (ap (λ (xs : List ℕ). xs ++ found) h.found ∙ append_assoc (view_of was).found h.seen found);
}

pub later-load : (was old new : BestSeat) (n : ℕ) → n ≤ (view_of old).least → IsSameSeat old new → view_of new ≡ after_load (view_of old) n → IsLater was old → IsLater was new
later-load was old new n low same view h =
    later-by was old new [] (n ∷ []) same (ap (λ v. v.share) view) (ap (λ v. v.levels) view) (omega (arith, ap (λ v. v.least) view, low)) (ap (λ v. v.offers) view ∙ sym (append-nil (view_of old).offers)) (ap (λ v. v.found) view) h

pub later-offer : (was old new : BestSeat) (k n : ℕ) → n ≤ (view_of old).least → IsSameSeat old new → view_of new ≡ after_offer (view_of old) k n → IsLater was old → IsLater was new
later-offer was old new k n low same view h =
    later-by was old new (k ∷ []) (n ∷ []) same (ap (λ v. v.share) view) (ap (λ v. v.levels) view) (let least = ap (λ v. v.least) view in omega (arith, least, low)) (ap (λ v. v.offers) view) (ap (λ v. v.found) view) h

pub later-here : (seat : BestSeat) → IsLater seat seat
later-here seat = record { table = refl; share = refl; levels = refl; falls = le_refl (view_of seat).least; offered = []; offers = sym (append-nil (view_of seat).offers); seen = []; found = sym (append-nil (view_of seat).found) }

-- a load finds the first word of those that are found from then on
pub finds-first : (old mid new : BestSeat) (n : ℕ) → view_of mid ≡ after_load (view_of old) n → IsLater mid new → FindsFirst (view_of old).found (view_of new).found n
finds-first old mid new n view h = record {
  more = h.seen;
  found = h.found ∙ (ap (λ (v : BestView). v.found ++ h.seen) view ∙ append_assoc (view_of old).found (n ∷ []) h.seen);
}

pub later-trans : (was old new : BestSeat) → IsLater was old → IsLater old new → IsLater was new
later-trans was old new h k = later-by was old new k.offered k.seen k.table k.share k.levels k.falls k.offers k.found h
