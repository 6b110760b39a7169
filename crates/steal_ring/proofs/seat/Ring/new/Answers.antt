use Rattle.std.proofs.Common.{arith, ◌≡◌, ℕ, ◌-◌, ◌^◌, ◌<◌, ◌≤◌, List, [], ◌∷◌, All, length, sum_by, slice_index_or, ap, sym, ◌∙◌, subst}
use Rattle.std.proofs.Math.Nat.{one-le-pow}
use Rattle.std.proofs.lemmas.List.{length-append}
use Rattle.std.proofs.lemmas.List.Elements.{All-push}
use Rattle.std.proofs.lemmas.List.Sums.{sum_by_push}
use Rattle.steal_ring.specs.declared.hand.Hand.{Hand}
use Rattle.steal_ring.specs.Seats.{view_of}
use Rattle.steal_ring.specs.Hands.{found_of, won_of, share_of_hand, IsHandOf}
use Rattle.steal_ring.specs.declared.seat.RingSeat.{RingSeat}
use Rattle.steal_ring.specs.declared.view.RingView.{RingView}
use Rattle.steal_ring.specs.Jobs.{given_half}
use Rattle.steal_ring.specs.Lists.{neighbour_of}
use Rattle.steal_ring.proofs.Dealing.{halve, placed_more}
use Rattle.steal_ring.proofs.seat.Ring.new.Goals as goal

-- a hand that has neither found nor won a job
abbrev IsFresh : Hand → Type 0
IsFresh h = (won_of h ≡ []) × (found_of h ≡ [])

fresh-is : (h : Hand) (seat : RingSeat) (v : RingView) → h.seat ≡ seat → view_of seat ≡ given_half v → IsFresh h
fresh-is h seat v e given = (ap (λ s. (view_of s).won) e ∙ ap (λ v. v.won) given, ap (λ s. (view_of s).found) e ∙ ap (λ v. v.found) given)

-- a hand with a part of the whole share
abbrev IsPart : Hand → Type 0
IsPart h = 1 ≤ share_of_hand h

-- its neighbour is the next hand
abbrev IsNeighboured : Hand → Type 0
IsNeighboured h = h.neighbour ≡ neighbour_of h.workers h.number

neighboured : (h : Hand) (workers number : ℕ) → h.workers ≡ workers → h.number ≡ number → h.neighbour ≡ neighbour_of workers number → IsNeighboured h
neighboured h workers number w n e = e ∙ sym (ap (λ k. neighbour_of k h.number) w ∙ ap (neighbour_of workers) n)

pub split-given-requires-clause-share : goal.split-given-requires-clause-share
split-given-requires-clause-share c = (halve _ c.loop-number.number c.loop-number.invariant.share (let w = c.requires.workers.1 in let t = c.loop-number-test.true in omega arith)).0

pub loop-number-preserved : goal.loop-number-preserved
loop-number-preserved c =
    let was = c.loop-number.invariant in
    let hands = c.loop-number.hands.items in
    let hand = c.in_ok-begin.field-0 in
    let is = c.in_ok-begin.ensures in
    let items = c.push_reserved.ensures.items in
    let kept = c.split-given.ensures.kept in
    let given = c.split-given.ensures.given in
    let same = c.split-given.ensures.same in
    let half = halve (view_of c.loop-number.seat).share c.loop-number.number was.share (let w = c.requires.workers.1 in let t = c.loop-number-test.true in omega arith) in
    let two = half.0 in
    let len = ap length items in
    record {
      own = same.0 ∙ was.own;
      jobs = was.jobs;
      clean = (ap (λ v. v.found) kept ∙ was.clean.0, ap (λ v. v.won) kept ∙ was.clean.1);
      share = ap (λ v. v.share) kept ∙ half.1;
      room = ((let l = was.room.0 in omega (arith, length-append hands (hand ∷ []))), (let r = was.room.1 in let k = c.push_reserved.ensures.capacity in omega arith));
      fresh = subst (All IsFresh) (sym items) (All-push IsFresh hands hand was.fresh (fresh-is hand c.split-given.result (view_of c.loop-number.seat) is.0 given));
      hands = subst (All (IsHandOf c.in_ok-ring.ring)) (sym items) (All-push (IsHandOf c.in_ok-ring.ring) hands hand was.hands (record { table = ap (λ s. s.seat.table_id) is.0 ∙ same.1; all = is.3 ∙ sym was.jobs }));
      dealt = subst (All (λ (h : Hand). (h.workers ≡ c.args.workers) × (h.jobs ≡ c.args.jobs))) (sym items) (All-push (λ (h : Hand). (h.workers ≡ c.args.workers) × (h.jobs ≡ c.args.jobs)) hands hand was.dealt (is.2, is.3));
      places = subst (λ (hs : List Hand). (i : ℕ) (d : Hand) → i < length hs → (slice_index_or hs i d).number ≡ i) (sym items) (placed_more (λ (h : Hand). h.number) hands hand c.loop-number.number was.room.0 is.1 was.places);
      neighbours = subst (All IsNeighboured) (sym items) (All-push IsNeighboured hands hand was.neighbours (neighboured hand c.args.workers c.loop-number.number is.2 is.1 is.4));
      parts = subst (All IsPart) (sym items) (All-push IsPart hands hand was.parts (let b = ap (λ s. (view_of s).share) is.0 ∙ ap (λ v. v.share) given in omega arith));
      sum = let s = was.sum in let p = ap (sum_by (λ (h : Hand). (view_of h.seat).share)) items ∙ sum_by_push (λ (h : Hand). (view_of h.seat).share) hands hand in
          let a = ap (λ v. v.share) kept in let b = ap (λ s. (view_of s).share) is.0 ∙ ap (λ v. v.share) given in omega arith;
    }

-- the last hand has found nothing either
pub returns-clause-new : goal.returns-clause-new
returns-clause-new c =
    let was = c.loop-number.invariant in
    let hand = c.in_ok-begin-2.field-0 in
    let is = c.in_ok-begin-2.ensures in
    subst (All IsFresh) (sym c.push_reserved-2.ensures.items)
    (All-push IsFresh c.loop-number.hands.items hand was.fresh (ap (λ s. (view_of s).won) is.0 ∙ was.clean.1, ap (λ s. (view_of s).found) is.0 ∙ was.clean.0))

pub returns-clause-neighbours : goal.returns-clause-neighbours
returns-clause-neighbours c =
    let hand = c.in_ok-begin-2.field-0 in
    let is = c.in_ok-begin-2.ensures in
    subst (All IsNeighboured) (sym c.push_reserved-2.ensures.items)
    (All-push IsNeighboured c.loop-number.hands.items hand c.loop-number.invariant.neighbours (neighboured hand c.args.workers (c.args.workers - 1) is.2 is.1 is.4))

pub returns-clause-hands : goal.returns-clause-hands
returns-clause-hands c =
    let was = c.loop-number.invariant in
    let hands = c.loop-number.hands.items in
    let hand = c.in_ok-begin-2.field-0 in
    let is = c.in_ok-begin-2.ensures in
    let items = c.push_reserved-2.ensures.items in
    let end : c.loop-number.number ≡ c.args.workers - 1 = (let t = c.loop-number-test.false in let e = c.loop-number.auto.number-end in omega arith) in
    let some : 0 < c.args.workers = c.requires.workers.0 in
    let len = ap length items in
    let all : length c.push_reserved-2.new.self.items ≡ c.args.workers = (let l = was.room.0 in omega (arith, length-append hands (hand ∷ []))) in (
      subst (All (IsHandOf c.in_ok-ring.ring)) (sym items) (All-push (IsHandOf c.in_ok-ring.ring) hands hand was.hands (record { table = ap (λ s. s.seat.table_id) is.0 ∙ was.own; all = is.3 ∙ sym was.jobs })),
      record {
        numbers = subst (λ (n : ℕ). All (λ (h : Hand). (h.workers ≡ n) × (h.jobs ≡ c.args.jobs)) c.push_reserved-2.new.self.items) (sym all)
            (subst (All (λ (h : Hand). (h.workers ≡ c.args.workers) × (h.jobs ≡ c.args.jobs))) (sym items) (All-push (λ (h : Hand). (h.workers ≡ c.args.workers) × (h.jobs ≡ c.args.jobs)) hands hand was.dealt (is.2, is.3)));
        places = subst (λ (hs : List Hand). (i : ℕ) (d : Hand) → i < length hs → (slice_index_or hs i d).number ≡ i) (sym items) (placed_more (λ (h : Hand). h.number) hands hand c.loop-number.number was.room.0 (is.1 ∙ sym end) was.places);
      },
    )

pub returns-clause-parts : goal.returns-clause-parts
returns-clause-parts c =
    let was = c.loop-number.invariant in
    let hand = c.in_ok-begin-2.field-0 in
    let is = c.in_ok-begin-2.ensures in
    let one : 1 ≤ 2 ^ (32 - c.loop-number.number) = one-le-pow (32 - c.loop-number.number) 2 (omega arith) in
    subst (All IsPart) (sym c.push_reserved-2.ensures.items)
    (All-push IsPart c.loop-number.hands.items hand was.parts (let s = was.share in let b = ap (λ s. (view_of s).share) is.0 in omega arith))
