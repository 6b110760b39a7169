use Rattle.std.proofs.Common.{inl, ℕ, ◌≡◌, ◌≤◌, ◌++◌, ◌∷◌, [], List, refl, sym, ap, ◌∙◌, subst, arith, le_trans}
use Rattle.std.proofs.lemmas.List.{append-nil, append_assoc, map-append}
use Rattle.settle_laws.proofs.Entering.{floor-le}
use Rattle.best_word.specs.Seats.{view_of}
use Rattle.steal_ring.specs.Hands.{won_of}
use Rattle.fapp_workers.specs.declared.job.Done.{Done}
use Rattle.fapp_workers.specs.Jobs.{held}
use Rattle.fapp_workers.specs.States.{state_of}
use Rattle.fapp_workers.specs.Works.{IsCutShort, IsLogClause, ids_of}
use Rattle.fapp_workers.proofs.Bounds.{later-here, later-trans}
use Rattle.fapp_workers.proofs.Deciding.{if-err}
use Rattle.fapp_workers.proofs.Starting.{AreStarted, none-started, one-started}
use Rattle.fapp_workers.proofs.Working.{at-start, decided-on, told-after, works-on}
use Rattle.fapp_workers.proofs.worker.decide_all.Goals as goal

-- the jobs given, with one more
given-on : (old now next : List ℕ) (done longer : List Done) (last : Done) → longer ≡ done ++ last ∷ [] → now ≡ old ++ ids_of done → next ≡ now ++ last.id ∷ [] → next ≡ old ++ ids_of longer
given-on old now next done longer last more was is =
    is ∙ (ap (λ (xs : List ℕ). xs ++ last.id ∷ []) was ∙ (append_assoc old (ids_of done) (last.id ∷ []) ∙ ap (λ xs. old ++ xs) (sym (ap ids_of more ∙ map-append (λ (d : Done). d.id) done (last ∷ [])))))

pub loop-id-init : goal.loop-id-init
loop-id-init g c =
    let none = c.new-done.ensures.items in
    record {
      hand = c.requires.hand;
      same = (refl, refl, refl, refl);
      given = rw none (sym (append-nil (won_of c.args.hand.now)));
      later = later-here c.args.bound.now.seat;
      shared = λ was h. h;
      serves = c.requires.serves;
      instance = ap (λ f. f.instance) c.in_ok-forward.ensures;
      empty = ap (λ f. f.pushed) c.in_ok-forward.ensures;
      starts = rw none (none-started (view_of c.args.bound.now.seat).found c.args.bound.now.told.code);
      decided = rw none (refl {a = held (state_of c.args.bound.now) (g.H.Shared.state c.args.shared.now) c.args.log.now});
      log = rw none (at-start c.args.plan.now c.args.fuel (held (state_of c.args.bound.now) (g.H.Shared.state c.args.shared.now) c.args.log.now) c.requires.good c.requires.least);
    }

pub returns-in_err-decided-clause-shared : goal.returns-in_err-decided-clause-shared
returns-in_err-decided-clause-shared g c = λ was h. c.decide-decided.ensures.shared was (c.loop-id.invariant.shared was h)

pub returns-in_err-push-clause-shared : goal.returns-in_err-push-clause-shared
returns-in_err-push-clause-shared g c = λ was h. c.decide-decided.ensures.shared was (c.loop-id.invariant.shared was h)

pub loop-id-preserved : goal.loop-id-preserved
loop-id-preserved g c =
    let was = c.loop-id.invariant in
    let done = c.loop-id.done.items in
    let last = c.in_ok-decided.field-0 in
    let more : c.push.new.self.items ≡ done ++ last ∷ [] = c.in_ok-push.ensures.items in
    let now = held (state_of c.loop-id.bound) (g.H.Shared.state c.loop-id.shared) c.loop-id.log in
    let next = held (state_of c.decide-decided.new.bound) (g.H.Shared.state c.decide-decided.new.shared) c.decide-decided.new.log in
    let decides = c.in_ok-decided.ensures.decides in
    let same = c.in-Some.ensures.same in
    record {
      hand = same.0;
      same = (same.1.0 ∙ was.same.0, same.1.1 ∙ was.same.1, same.1.2 ∙ was.same.2, same.1.3 ∙ was.same.3);
      given = given-on (won_of c.args.hand.now) (won_of c.loop-id.hand) (won_of c.next.new.hand) done c.push.new.self.items last more was.given (c.in-Some.ensures.some.2 ∙ ap (λ n. won_of c.loop-id.hand ++ n ∷ []) (sym c.in_ok-decided.ensures.id));
      shared = λ earlier h. c.in_ok-decided.ensures.shared earlier (c.loop-id.invariant.shared earlier h);
      later = later-trans c.args.bound.now.seat c.loop-id.bound.seat c.decide-decided.new.bound.seat was.later c.in_ok-decided.ensures.later;
      serves = c.in_ok-decided.ensures.serves;
      instance = c.in_ok-decided.ensures.instance ∙ was.instance;
      empty = c.in_ok-decided.ensures.empty;
      starts = rw more (one-started (view_of c.args.bound.now.seat).found (view_of c.loop-id.bound.seat).found (view_of c.decide-decided.new.bound.seat).found c.loop-id.bound.told.code c.decide-decided.new.bound.told.code done last was.starts
          (le_trans decides.tells.falls (floor-le (state_of c.loop-id.bound))) (told-after c.args.plan.now c.args.fuel now next last decides) c.in_ok-decided.ensures.first);
      decided = rw more (decided-on c.args.plan.now c.args.fuel (held (state_of c.args.bound.now) (g.H.Shared.state c.args.shared.now) c.args.log.now) now next done last was.decided decides);
      log = rw more (works-on c.args.plan.now c.args.fuel (held (state_of c.args.bound.now) (g.H.Shared.state c.args.shared.now) c.args.log.now) now next done last was.log decides);
    }

pub returns-in_err-forward-clause-short : goal.returns-in_err-forward-clause-short
returns-in_err-forward-clause-short g c =
    let old = held (state_of c.args.bound.now) (g.H.Shared.state c.args.shared.now) c.args.log.now in
    let won = won_of c.args.hand.now in
    let short : IsCutShort c.args.plan.now c.args.fuel won won old old = record { done = []; mid = old; decided = refl; rest = []; given = sym (append-nil won); last = inl (omega arith, refl) } in
    if-err _ _ short

pub returns-in_err-decided-clause-short : goal.returns-in_err-decided-clause-short
returns-in_err-decided-clause-short g c =
    let old = held (state_of c.args.bound.now) (g.H.Shared.state c.args.shared.now) c.args.log.now in
    let now = held (state_of c.loop-id.bound) (g.H.Shared.state c.loop-id.shared) c.loop-id.log in
    let next = held (state_of c.decide-decided.new.bound) (g.H.Shared.state c.decide-decided.new.shared) c.decide-decided.new.log in
    let done = c.loop-id.done.items in
    let given = c.in-Some.ensures.some.2 ∙ (ap (λ xs. xs ++ c.in-Some.id ∷ []) c.loop-id.invariant.given ∙ append_assoc (won_of c.args.hand.now) (ids_of done) (c.in-Some.id ∷ [])) in
    let short : IsCutShort c.args.plan.now c.args.fuel (won_of c.args.hand.now) (won_of c.next.new.hand) old next =
    record { done = done; mid = now; decided = c.loop-id.invariant.decided; rest = c.in-Some.id ∷ []; given = given; last = c.in_err-decided.ensures.lack } in
    if-err _ _ short

pub returns-in_err-push-clause-short : goal.returns-in_err-push-clause-short
returns-in_err-push-clause-short g c =
    let last = c.in_ok-decided.field-0 in
    let old = held (state_of c.args.bound.now) (g.H.Shared.state c.args.shared.now) c.args.log.now in
    let now = held (state_of c.loop-id.bound) (g.H.Shared.state c.loop-id.shared) c.loop-id.log in
    let next = held (state_of c.decide-decided.new.bound) (g.H.Shared.state c.decide-decided.new.shared) c.decide-decided.new.log in
    let more = decided-on c.args.plan.now c.args.fuel old now next c.loop-id.done.items last c.loop-id.invariant.decided c.in_ok-decided.ensures.decides in
    let done = c.loop-id.done.items in
    let given = given-on (won_of c.args.hand.now) (won_of c.loop-id.hand) (won_of c.next.new.hand) done (done ++ last ∷ []) last refl c.loop-id.invariant.given
    (c.in-Some.ensures.some.2 ∙ ap (λ n. won_of c.loop-id.hand ++ n ∷ []) (sym c.in_ok-decided.ensures.id)) in
    let short : IsCutShort c.args.plan.now c.args.fuel (won_of c.args.hand.now) (won_of c.next.new.hand) old next =
    record { done = done ++ last ∷ []; mid = next; decided = more; rest = []; given = given ∙ sym (ap (λ xs. won_of c.args.hand.now ++ xs) (append-nil (ids_of (done ++ last ∷ [])))); last = inl (omega arith, refl) } in
    if-err _ _ short
