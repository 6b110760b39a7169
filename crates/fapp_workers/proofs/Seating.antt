-- The places that are dealt.
use Rattle.std.proofs.Common.{◌≡◌, ◌<◌, List, [], length, get_or, All, sym, ap, ◌∙◌, subst, arith}
use Rattle.std.proofs.lemmas.List.{get_or-map, length-map}
use Rattle.fapp_plan.specs.Plans.{Split}
use Rattle.best_word.specs.declared.seat.BestWord.{BestWord}
use Rattle.nogood_pool.specs.declared.seat.Pool.{Pool}
use Rattle.steal_ring.specs.declared.hand.Hand.{Hand}
use Rattle.steal_ring.specs.declared.seat.Ring.{Ring}
use Rattle.steal_ring.specs.Hands.{won_of, found_of, IsHandOf}
use Rattle.fapp_workers.specs.declared.place.Place.{Place}
use Rattle.fapp_workers.specs.WorkerPlaces.{IsSeated, IsFreshPlace, hands_of}

pub stand-all : (split : Split) (ring : Ring) (word : BestWord) (pool : Pool) (places : List Place) (hands : List Hand) → hands_of places ≡ hands → All (IsHandOf ring) hands → All (λ hand. (won_of hand ≡ []) × (found_of hand ≡ [])) hands →
    All (IsSeated split word pool) places → All (IsFreshPlace split ring word pool) places
stand-all split ring word pool places hands are own new seated = λ k d less.
    let inside : k < length hands = omega (arith, ap length are, length-map places (λ (p : Place). p.hand), less) in
    let at : get_or hands k d.hand ≡ (get_or places k d).hand = ap (λ hs. get_or hs k d.hand) (sym are) ∙ get_or-map (λ (p : Place). p.hand) places k d d.hand less in
    record {
      hand = subst (IsHandOf ring) at (own k d.hand inside);
      nothing = ap won_of (sym at) ∙ (new k d.hand inside).0;
      seated = seated k d less;
    }
