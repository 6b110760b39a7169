-- From places that came back to what is known of all jobs.
use Rattle.std.proofs.Common.{◌≡◌, ℕ, suc, ◌<◌, List, [], ◌∷◌, length, map, get_or, sum_by, All, refl, sym, ap, ◌∙◌, arith}
use Rattle.std.proofs.lemmas.List.{get_or-map, length-map}
use Rattle.std.proofs.lemmas.List.Elements.{All-map}
use Rattle.std.proofs.lemmas.List.Sums.{sum_by-cons}
use Rattle.std.proofs.lemmas.Result.{IfOk-weaker}
use Rattle.fapp_plan.specs.Plans.{Split}
use Rattle.best_word.specs.declared.seat.BestSeat.{BestSeat}
use Rattle.best_word.specs.declared.seat.BestWord.{BestWord}
use Rattle.best_word.specs.Seats.{view_of, IsSeatOf, shares_of as seat_shares}
use Rattle.nogood_pool.specs.declared.seat.Pool.{Pool}
use Rattle.nogood_pool.specs.declared.seat.PoolSeat.{PoolSeat}
use Rattle.nogood_pool.specs.Dealt.{shares_of as pool_shares}
use Rattle.nogood_pool.specs.Seats.{view_of as pool_view, IsSeatOf as IsPoolSeatOf}
use Rattle.steal_ring.specs.declared.hand.Hand.{Hand}
use Rattle.steal_ring.specs.declared.seat.Ring.{Ring}
use Rattle.steal_ring.specs.Hands.{share_of_hand, shares_of, IsDealt, IsHandOf, IsHandDone as IsAtEnd}
use Rattle.fapp_workers.specs.declared.place.Place.{Place}
use Rattle.fapp_workers.specs.WorkerPlaces.{hands_of, pool_seats_of, seats_of, IsFinished, IsTended, IsWorkOf}

-- sums over two lists that are equal place by place
pub sum-zip : {X Y : Type 0} (f : X → ℕ) (g : Y → ℕ) (xs : List X) (ys : List Y) → length xs ≡ length ys → ((i : ℕ) (d : X) (e : Y) → i < length xs → f (get_or xs i d) ≡ g (get_or ys i e)) → sum_by f xs ≡ sum_by g ys
sum-zip f g [] [] len h = refl
sum-zip f g [] (y ∷ ys) len h = absurd (omega (arith, len))
sum-zip f g (x ∷ xs) [] len h = absurd (omega (arith, len))
sum-zip f g (x ∷ xs) (y ∷ ys) len h =
    let here = h 0 x y (omega arith) in
    let rest = sum-zip f g xs ys (omega (arith, len)) (λ i d e less. h (suc i) d e (omega (arith, less))) in
    omega (arith, sum_by-cons f x xs, sum_by-cons g y ys, here, rest)

pub sum-of-map : {X Y : Type 0} (f : Y → ℕ) (g : X → Y) (xs : List X) → sum_by f (map g xs) ≡ sum_by (λ x. f (g x)) xs
sum-of-map f g [] = refl
sum-of-map f g (x ∷ xs) = omega (arith, sum_by-cons f (g x) (map g xs), sum_by-cons (λ x. f (g x)) x xs, sum-of-map f g xs)

module _ (split : Split) (fuel : ℕ) (ring : Ring) (word : BestWord) (pool : Pool) (old new : List Place) (len : length new ≡ length old)
    (each : (i : ℕ) (d e : Place) → i < length old → IsTended split fuel ring word pool (get_or old i d) (get_or new i e)) where
  at : (k : ℕ) (d : Place) → k < length new → IsTended split fuel ring word pool (get_or old k d) (get_or new k d)
  at k d less = each k d d (omega (arith, less, len))

  pub hands-own : All (λ (p : Place). IsHandOf ring p.hand) new
  hands-own = λ k d less. (at k d less).hand

  pub seats-own : All (λ (p : Place). IsSeatOf word p.seat) new
  seats-own = λ k d less. (at k d less).seat

  pub pool-seats-own : All (λ (p : Place). IsPoolSeatOf pool p.pool_seat) new
  pool-seats-own = λ k d less. (at k d less).pool_seat

  pub all-finished : All IsFinished new
  all-finished = λ k d less. let p = get_or new k d in IfOk-weaker p.done (λ done. IsWorkOf split fuel p.hand p.seat p.pool_seat p.log done.items) (λ done. IsAtEnd p.hand) (λ done w. w.at_end) (at k d less).works

  pub hand-shares : shares_of (hands_of new) ≡ shares_of (hands_of old)
  hand-shares =
      sum-of-map share_of_hand (λ (p : Place). p.hand) new
      ∙ (sum-zip (λ (p : Place). share_of_hand p.hand) (λ (p : Place). share_of_hand p.hand) new old len (λ i d e less. (each i e d (omega (arith, less, len))).same_hand.3)
      ∙ sym (sum-of-map share_of_hand (λ (p : Place). p.hand) old))

  pub seat-shares : seat_shares (seats_of new) ≡ seat_shares (seats_of old)
  seat-shares =
      sum-of-map (λ (s : BestSeat). (view_of s).share) (λ (p : Place). p.seat) new
      ∙ (sum-zip (λ (p : Place). (view_of p.seat).share) (λ (p : Place). (view_of p.seat).share) new old len (λ i d e less. (each i e d (omega (arith, less, len))).share)
      ∙ sym (sum-of-map (λ (s : BestSeat). (view_of s).share) (λ (p : Place). p.seat) old))

  pub pool-seat-shares : pool_shares (pool_seats_of new) ≡ pool_shares (pool_seats_of old)
  pool-seat-shares =
      sum-of-map (λ (s : PoolSeat). (pool_view s).share) (λ (p : Place). p.pool_seat) new
      ∙ (sum-zip (λ (p : Place). (pool_view p.pool_seat).share) (λ (p : Place). (pool_view p.pool_seat).share) new old len (λ i d e less. (each i e d (omega (arith, less, len))).pool_share)
      ∙ sym (sum-of-map (λ (s : PoolSeat). (pool_view s).share) (λ (p : Place). p.pool_seat) old))

  module _ (dealt : IsDealt ring.jobs (hands_of old)) where
    hand-at : (k : ℕ) (d : Place) (h : Hand) → k < length new → get_or (hands_of old) k h ≡ (get_or old k d).hand
    hand-at k d h less = get_or-map (λ (p : Place). p.hand) old k d h (omega (arith, less, len))

    numbers : All (λ (h : Hand). (h.workers ≡ length (hands_of new)) × (h.jobs ≡ ring.jobs)) (hands_of new)
    numbers = All-map (λ (h : Hand). (h.workers ≡ length (hands_of new)) × (h.jobs ≡ ring.jobs)) (λ (p : Place). p.hand) new (λ k d less.
        let t = at k d less in
        let inside : k < length (hands_of old) = omega (arith, less, len, length-map old (λ (p : Place). p.hand)) in
        let was = (dealt.numbers k d.hand inside).0 in
        let is : (get_or old k d).hand.workers ≡ length (hands_of old) = ap (λ (h : Hand). h.workers) (sym (hand-at k d d.hand less)) ∙ was in
        (omega (arith, t.same_hand.2, is, length-map old (λ (p : Place). p.hand), length-map new (λ (p : Place). p.hand), len), t.hand.all))

    number-at : (d : Place) (k : ℕ) (h : Hand) → k < length (hands_of new) → (get_or (hands_of new) k h).number ≡ k
    number-at d k h inside =
        let less : k < length new = omega (arith, inside, length-map new (λ (p : Place). p.hand)) in
        let old_inside : k < length (hands_of old) = omega (arith, less, len, length-map old (λ (p : Place). p.hand)) in
        ap (λ (x : Hand). x.number) (get_or-map (λ (p : Place). p.hand) new k d h less)
        ∙ ((at k d less).same_hand.0 ∙ (ap (λ (x : Hand). x.number) (sym (hand-at k d h less)) ∙ dealt.places k h old_inside))

    pub still-dealt : Place → IsDealt ring.jobs (hands_of new)
    still-dealt d = record { numbers = numbers; places = number-at d }

pub some-place : (places : List Place) → 0 < length places → Place
some-place [] some = absurd (omega (arith, some))
some-place (p ∷ places) some = p
