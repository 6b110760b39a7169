use Rattle.std.proofs.Common.{arith, ◌≡◌, ℕ, ◌<◌, ◌≤◌, ◌+◌, ◌-◌, ◌%◌, List, [], ◌∷◌, ◌++◌, All, take, length, sum_by, get_or, Some, ap, sym, ◌∙◌}
use Rattle.std.proofs.lemmas.List.Elements.{All-pop}
use Rattle.std.proofs.lemmas.List.Sums.{sum_by_push, sum_by-append, get_or-le-sum_by}
use Rattle.std.proofs.lemmas.List.{length-append}
use Rattle.steal_ring.specs.declared.hand.Hand.{Hand}
use Rattle.steal_ring.specs.Jobs.{times, once}
use Rattle.steal_ring.specs.Seats.{view_of}
use Rattle.steal_ring.specs.Hands.{won_of, found_of, IsHandOf, IsHandDone, IsDealt}
use Rattle.steal_ring.proofs.RingRule.{stands}
use Rattle.steal_ring.proofs.seat.Ring.close.Goals as goal

popped : (f : Hand → ℕ) (hands rest : List Hand) (h : Hand) → hands ≡ rest ++ h ∷ [] → sum_by f hands ≡ sum_by f rest + f h
popped f hands rest h e = ap (sum_by f) e ∙ sum_by_push f rest h

-- some hand found each job
found_by_one : (jobs : ℕ) (hands : List Hand) (first : Hand) (job : ℕ) → IsDealt jobs hands → All IsHandDone hands → 0 < length hands → job < jobs → 0 < sum_by (λ h. times job (found_of h)) hands
found_by_one jobs hands first job dealt done some lt =
    let i : ℕ = job % length hands in
    let inside : i < length hands = omega arith in
    let n = dealt.numbers i first inside in
    let place : (get_or hands i first).number ≡ i = dealt.places i first inside in
    let list : job % (get_or hands i first).workers ≡ (get_or hands i first).number = ap (λ (w : ℕ). job % w) n.0 ∙ sym place in
    let h = done i first inside job (omega arith) (Rattle.std.proofs.Common.inl list) in
    let le = get_or-le-sum_by (λ (x : Hand). times job (found_of x)) hands i first inside in
    omega arith

pub loop-hand-init : goal.loop-hand-init
loop-hand-init c =
    let hand = c.in-Some.first in
    let rest = c.pop.new.self.items in
    let hands = c.args.hands.items in
    let e = c.in-Some.ensures.items in
    let is = c.into_seat-all.ensures in
    let own = All-pop (IsHandOf c.args.self) hands rest (Some hand) e c.requires.own in
    record {
      own = own.0;
      first = ap (λ s. s.seat.table_id) is ∙ own.1.table;
      shares = let p = popped (λ (h : Hand). (view_of h.seat).share) hands rest hand e in let s = c.requires.shares in let w = ap (λ s. (view_of s).share) is in omega arith;
      found = λ job. let p = popped (λ (h : Hand). times job (found_of h)) hands rest hand e in let w = ap (λ s. times job (view_of s).found) is in omega arith;
      won = λ job. let p = popped (λ (h : Hand). times job (won_of h)) hands rest hand e in let w = ap (λ s. times job (view_of s).won) is in omega arith;
    }

pub join_hand-requires-clause-hand : goal.join_hand-requires-clause-hand
join_hand-requires-clause-hand c = (All-pop (IsHandOf c.args.self) c.loop-hand.hands.items c.pop-in-loop-hand.new.self.items (Some c.in-Some-pop.hand) c.in-Some-pop.ensures.items c.loop-hand.invariant.own).1

pub loop-hand-preserved : goal.loop-hand-preserved
loop-hand-preserved c =
    let was = c.loop-hand.invariant in
    let hand = c.in-Some-pop.hand in
    let rest = c.pop-in-loop-hand.new.self.items in
    let hands = c.loop-hand.hands.items in
    let e = c.in-Some-pop.ensures.items in
    let view = c.join_hand.ensures.view in
    let v = view_of c.loop-hand.all in
    record {
      own = (All-pop (IsHandOf c.args.self) hands rest (Some hand) e was.own).0;
      first = c.join_hand.ensures.same ∙ was.first;
      shares = let p = popped (λ (h : Hand). (view_of h.seat).share) hands rest hand e in let s = was.shares in let w = ap (λ x. x.share) view in omega arith;
      found = λ job. let p = popped (λ (h : Hand). times job (found_of h)) hands rest hand e in let s = was.found job in let w = ap (λ x. times job x.found) view in let a = sum_by-append (once job) v.found (found_of hand) in omega arith;
      won = λ job. let p = popped (λ (h : Hand). times job (won_of h)) hands rest hand e in let s = was.won job in let w = ap (λ x. times job x.won) view in let a = sum_by-append (once job) v.won (won_of hand) in omega arith;
    }

pub returns : goal.returns
returns c job lt =
    let v = view_of c.loop-hand.all in
    let found = c.loop-hand.invariant.found job in
    let won = c.loop-hand.invariant.won job in
    let pop = c.in_default-pop.ensures in
    let empty : c.loop-hand.hands.items ≡ [] = pop.items ∙ ap (λ (xs : List Hand). xs ++ []) (pop.rest ∙ ap (λ (n : ℕ). take (n - 1) c.loop-hand.hands.items) pop.cases.0) in
    let no_found : sum_by (λ (h : Hand). times job (found_of h)) c.loop-hand.hands.items ≡ 0 = ap (sum_by (λ (h : Hand). times job (found_of h))) empty in
    let no_won : sum_by (λ (h : Hand). times job (won_of h)) c.loop-hand.hands.items ≡ 0 = ap (sum_by (λ (h : Hand). times job (won_of h))) empty in
    let longer = ap length c.in-Some.ensures.items in
    let some : 0 < length c.args.hands.items = omega (arith, length-append c.pop.new.self.items (c.in-Some.first ∷ [])) in
    let more = found_by_one c.args.self.jobs c.args.hands.items c.in-Some.first job c.requires.dealt c.requires.done some lt in
    let is = c.end.ensures.found job (stands job v.found (omega arith)) in
    omega arith
