use Rattle.std.proofs.Common.{◌<◌, ◌≤◌, Contains, Ok, Err, sym, ap, subst, ◌∙◌, arith}
use Rattle.std.specs.declared.alloc.AllocError.{AllocError}
use Rattle.std.proofs.lemmas.List.Elements.{All-nil}
use Rattle.search_log.specs.Contents.{known_row}
use Rattle.search_log.specs.declared.shared.Cite.{Cite}
use Rattle.search_log.specs.Shares.{row_content}
use Rattle.settle_laws.specs.Explained.{AreCitesCopied}
use Rattle.subtree_search.specs.declared.seen.SeenRows.{SeenRows}
use Rattle.choice_counts.specs.ForwardStates.{ForwardState, with_literals}
use Rattle.settle_laws.specs.OpenNodes.{IsTrying}
use Rattle.settle_laws.specs.Worlds.{world}
use Rattle.subtree_search.specs.SearchSteps.{IsAdvanced, IsNoted, IsVisited, Lightens, NotesLess}
use Rattle.subtree_search.specs.Walks.{work_left}
use Rattle.subtree_search.proofs.Exploring.{comes-back, comes-here, err-any, fronted-on, opened-trying, prefix-here, ready-here, same-instance, searched-back, searched-err, trying-back, trying-here}
use Rattle.subtree_search.proofs.Serving.{serves-trans}
use Rattle.subtree_search.proofs.walk.explore.Goals as goal

pub loop-found-init : goal.loop-found-init
loop-found-init g c = record {
  bound = c.visit.ensures.bound;
  shared = c.visit.ensures.shared;
  serves = c.visit.ensures.serves;
  held = c.visit.ensures.held (subst (λ cites. AreCitesCopied (g.H.Shared.state c.args.shared.now).copied cites) (sym c.requires.unseen) (All-nil (λ (cite : Cite). Contains (g.H.Shared.state c.args.shared.now).copied (known_row cite.row (row_content cite.content)))));
  exploring = record {
    begins = c.visit.ensures.first ∙ c.requires.begins;
    fronted = record { front = c.visit.ensures.front ∙ ap (λ (s : ForwardState). with_literals c.args.forward.now s.pushed) (sym c.visit.ensures.front); level_is = c.visit.ensures.level; ready = c.visit.ensures.ready; prefix = c.requires.prefix };
    trying = subst (λ (s : ForwardState). IsTrying c.args.forward.now.instance c.args.walk.now.level c.args.forward.now.pushed (world c.args.fuel.now (g.B.Bound.state c.args.bound.now) (g.H.Shared.state c.args.shared.now) c.args.log.now) c.visit.new.walk.nodes.items s.pushed (world c.visit.new.fuel (g.B.Bound.state c.visit.new.bound) (g.H.Shared.state c.visit.new.shared) c.visit.new.log)) (sym c.visit.ensures.front)
        (opened-trying c.args.forward.now.instance c.args.walk.now.level c.args.forward.now.pushed c.args.walk.now.nodes.items c.visit.new.walk.nodes.items (world c.args.fuel.now (g.B.Bound.state c.args.bound.now) (g.H.Shared.state c.args.shared.now) c.args.log.now) (world c.visit.new.fuel (g.B.Bound.state c.visit.new.bound) (g.H.Shared.state c.visit.new.shared) c.visit.new.log) c.requires.empty
        (subst (λ o. IsVisited {E = AllocError} c.args.forward.now.instance c.args.walk.now.level c.args.forward.now.pushed c.args.walk.now.nodes.items c.visit.new.walk.nodes.items (world c.args.fuel.now (g.B.Bound.state c.args.bound.now) (g.H.Shared.state c.args.shared.now) c.args.log.now) (world c.visit.new.fuel (g.B.Bound.state c.visit.new.bound) (g.H.Shared.state c.visit.new.shared) c.visit.new.log) (Ok o)) c.in_default.is c.in_ok-found.ensures.visited));
  };
}

pub advance-requires-clause-ready : goal.advance-requires-clause-ready
advance-requires-clause-ready g c = ready-here c.args.forward.now c.loop-found.forward c.args.walk.now.level c.loop-found.walk c.loop-found.invariant.exploring.fronted

pub advance-requires-clause-serves : goal.advance-requires-clause-serves
advance-requires-clause-serves g c = subst (λ i. g.H.Shared.serves c.loop-found.shared i) (sym (same-instance c.args.forward.now c.loop-found.forward c.args.walk.now.level c.loop-found.walk c.loop-found.invariant.exploring.fronted)) ((c.loop-found.invariant.serves c.args.forward.now.instance).0 c.requires.serves)

pub advance-requires-clause-trying : goal.advance-requires-clause-trying
advance-requires-clause-trying g c = (c.args.forward.now.pushed, (world c.args.fuel.now (g.B.Bound.state c.args.bound.now) (g.H.Shared.state c.args.shared.now) c.args.log.now), prefix-here c.args.forward.now c.loop-found.forward c.args.walk.now.level c.loop-found.walk c.loop-found.invariant.exploring.fronted, c.loop-found.invariant.exploring.begins, (trying-here c.args.forward.now c.loop-found.forward c.args.walk.now.level c.loop-found.walk c.loop-found.invariant.exploring.fronted (world c.args.fuel.now (g.B.Bound.state c.args.bound.now) (g.H.Shared.state c.args.shared.now) c.args.log.now) (world c.loop-found.fuel (g.B.Bound.state c.loop-found.bound) (g.H.Shared.state c.loop-found.shared) c.loop-found.log) c.loop-found.walk.nodes.items c.loop-found.forward.pushed c.loop-found.invariant.exploring.trying))

pub returns-in_err-found-2-clause-serves : goal.returns-in_err-found-2-clause-serves
returns-in_err-found-2-clause-serves g c = serves-trans (g.H.Shared.serves c.args.shared.now) (g.H.Shared.serves c.loop-found.shared) (g.H.Shared.serves c.advance.new.shared) c.loop-found.invariant.serves c.advance.ensures.serves

pub returns-in_err-found-2-clause-front : goal.returns-in_err-found-2-clause-front
returns-in_err-found-2-clause-front g c = (fronted-on c.args.forward.now c.loop-found.forward c.args.walk.now.level c.loop-found.walk c.loop-found.invariant.exploring.fronted c.advance.new.forward c.advance.ensures.front c.advance.new.walk c.advance.ensures.level c.advance.ensures.ready).front

pub returns-in_err-found-2-clause-searched : goal.returns-in_err-found-2-clause-searched
returns-in_err-found-2-clause-searched g c = searched-err c.args.forward.now.instance c.args.walk.now.level c.args.forward.now.pushed (world c.args.fuel.now (g.B.Bound.state c.args.bound.now) (g.H.Shared.state c.args.shared.now) c.args.log.now) (world c.advance.new.fuel (g.B.Bound.state c.advance.new.bound) (g.H.Shared.state c.advance.new.shared) c.advance.new.log) c.from_residual-in_err-found-2.result c.from_residual-in_err-found-2.ensures.0
    (λ e. searched-back c.args.forward.now c.loop-found.forward c.args.walk.now.level c.loop-found.walk c.loop-found.invariant.exploring.fronted (world c.args.fuel.now (g.B.Bound.state c.args.bound.now) (g.H.Shared.state c.args.shared.now) c.args.log.now) (world c.advance.new.fuel (g.B.Bound.state c.advance.new.bound) (g.H.Shared.state c.advance.new.shared) c.advance.new.log) (Err e) (err-any c.loop-found.forward.instance c.loop-found.walk.level c.args.forward.now.pushed (world c.args.fuel.now (g.B.Bound.state c.args.bound.now) (g.H.Shared.state c.args.shared.now) c.args.log.now) (world c.advance.new.fuel (g.B.Bound.state c.advance.new.bound) (g.H.Shared.state c.advance.new.shared) c.advance.new.log) c.in_err-found-2.field-0.0
    (c.in_err-found-2.ensures.advanced c.args.forward.now.pushed (world c.args.fuel.now (g.B.Bound.state c.args.bound.now) (g.H.Shared.state c.args.shared.now) c.args.log.now) (prefix-here c.args.forward.now c.loop-found.forward c.args.walk.now.level c.loop-found.walk c.loop-found.invariant.exploring.fronted) c.loop-found.invariant.exploring.begins (trying-here c.args.forward.now c.loop-found.forward c.args.walk.now.level c.loop-found.walk c.loop-found.invariant.exploring.fronted (world c.args.fuel.now (g.B.Bound.state c.args.bound.now) (g.H.Shared.state c.args.shared.now) c.args.log.now) (world c.loop-found.fuel (g.B.Bound.state c.loop-found.bound) (g.H.Shared.state c.loop-found.shared) c.loop-found.log) c.loop-found.walk.nodes.items c.loop-found.forward.pushed c.loop-found.invariant.exploring.trying)) e))

pub loop-found-smaller-in_default-2 : goal.loop-found-smaller-in_default-2
loop-found-smaller-in_default-2 g c = subst (λ o. Lightens {E = AllocError} (work_left c.loop-found.fuel c.loop-found.walk.nodes.items) (work_left c.advance.new.fuel c.advance.new.walk.nodes.items) (Ok o)) c.in_default-2.is c.in_ok-found-2.ensures.lighter

pub loop-found-preserved-in_default-2 : goal.loop-found-preserved-in_default-2
loop-found-preserved-in_default-2 g c = record {
  bound = λ was h. c.advance.ensures.bound was (c.loop-found.invariant.bound was h);
  shared = λ was h. c.advance.ensures.shared was (c.loop-found.invariant.shared was h);
  serves = serves-trans (g.H.Shared.serves c.args.shared.now) (g.H.Shared.serves c.loop-found.shared) (g.H.Shared.serves c.advance.new.shared) c.loop-found.invariant.serves c.advance.ensures.serves;
  held = c.advance.ensures.held;
  exploring = record {
    begins = c.advance.ensures.first ∙ c.loop-found.invariant.exploring.begins;
    fronted = (fronted-on c.args.forward.now c.loop-found.forward c.args.walk.now.level c.loop-found.walk c.loop-found.invariant.exploring.fronted c.advance.new.forward c.advance.ensures.front c.advance.new.walk c.advance.ensures.level c.advance.ensures.ready);
    trying = trying-back c.args.forward.now c.loop-found.forward c.args.walk.now.level c.loop-found.walk c.loop-found.invariant.exploring.fronted (world c.args.fuel.now (g.B.Bound.state c.args.bound.now) (g.H.Shared.state c.args.shared.now) c.args.log.now) (world c.advance.new.fuel (g.B.Bound.state c.advance.new.bound) (g.H.Shared.state c.advance.new.shared) c.advance.new.log) c.advance.new.walk.nodes.items c.advance.new.forward.pushed (subst (λ o. IsAdvanced {E = AllocError} c.loop-found.forward.instance c.loop-found.walk.level c.args.forward.now.pushed (world c.args.fuel.now (g.B.Bound.state c.args.bound.now) (g.H.Shared.state c.args.shared.now) c.args.log.now) c.advance.new.walk.nodes.items c.advance.new.forward.pushed (world c.advance.new.fuel (g.B.Bound.state c.advance.new.bound) (g.H.Shared.state c.advance.new.shared) c.advance.new.log) (Ok o)) c.in_default-2.is (c.in_ok-found-2.ensures.advanced c.args.forward.now.pushed (world c.args.fuel.now (g.B.Bound.state c.args.bound.now) (g.H.Shared.state c.args.shared.now) c.args.log.now) (prefix-here c.args.forward.now c.loop-found.forward c.args.walk.now.level c.loop-found.walk c.loop-found.invariant.exploring.fronted) c.loop-found.invariant.exploring.begins (trying-here c.args.forward.now c.loop-found.forward c.args.walk.now.level c.loop-found.walk c.loop-found.invariant.exploring.fronted (world c.args.fuel.now (g.B.Bound.state c.args.bound.now) (g.H.Shared.state c.args.shared.now) c.args.log.now) (world c.loop-found.fuel (g.B.Bound.state c.loop-found.bound) (g.H.Shared.state c.loop-found.shared) c.loop-found.log) c.loop-found.walk.nodes.items c.loop-found.forward.pushed c.loop-found.invariant.exploring.trying)));
  };
}

pub note-requires-clause-ready : goal.note-requires-clause-ready
note-requires-clause-ready g c = ready-here c.args.forward.now c.advance.new.forward c.args.walk.now.level c.advance.new.walk (fronted-on c.args.forward.now c.loop-found.forward c.args.walk.now.level c.loop-found.walk c.loop-found.invariant.exploring.fronted c.advance.new.forward c.advance.ensures.front c.advance.new.walk c.advance.ensures.level c.advance.ensures.ready)

pub note-requires-clause-coming : goal.note-requires-clause-coming
note-requires-clause-coming g c = (c.args.forward.now.pushed, (world c.args.fuel.now (g.B.Bound.state c.args.bound.now) (g.H.Shared.state c.args.shared.now) c.args.log.now), (world c.advance.new.fuel (g.B.Bound.state c.advance.new.bound) (g.H.Shared.state c.advance.new.shared) c.advance.new.log), prefix-here c.args.forward.now c.advance.new.forward c.args.walk.now.level c.advance.new.walk (fronted-on c.args.forward.now c.loop-found.forward c.args.walk.now.level c.loop-found.walk c.loop-found.invariant.exploring.fronted c.advance.new.forward c.advance.ensures.front c.advance.new.walk c.advance.ensures.level c.advance.ensures.ready), (comes-here c.args.forward.now c.advance.new.forward c.args.walk.now.level c.advance.new.walk (fronted-on c.args.forward.now c.loop-found.forward c.args.walk.now.level c.loop-found.walk c.loop-found.invariant.exploring.fronted c.advance.new.forward c.advance.ensures.front c.advance.new.walk c.advance.ensures.level c.advance.ensures.ready) (world c.args.fuel.now (g.B.Bound.state c.args.bound.now) (g.H.Shared.state c.args.shared.now) c.args.log.now) (world c.advance.new.fuel (g.B.Bound.state c.advance.new.bound) (g.H.Shared.state c.advance.new.shared) c.advance.new.log) {E = AllocError} c.advance.new.walk.nodes.items c.advance.new.forward.pushed (Ok c.in-Some-2.found) (comes-back c.args.forward.now c.loop-found.forward c.args.walk.now.level c.loop-found.walk c.loop-found.invariant.exploring.fronted (world c.args.fuel.now (g.B.Bound.state c.args.bound.now) (g.H.Shared.state c.args.shared.now) c.args.log.now) (world c.advance.new.fuel (g.B.Bound.state c.advance.new.bound) (g.H.Shared.state c.advance.new.shared) c.advance.new.log) {E = AllocError} c.advance.new.walk.nodes.items c.advance.new.forward.pushed (Ok c.in-Some-2.found) (subst (λ o. IsAdvanced {E = AllocError} c.loop-found.forward.instance c.loop-found.walk.level c.args.forward.now.pushed (world c.args.fuel.now (g.B.Bound.state c.args.bound.now) (g.H.Shared.state c.args.shared.now) c.args.log.now) c.advance.new.walk.nodes.items c.advance.new.forward.pushed (world c.advance.new.fuel (g.B.Bound.state c.advance.new.bound) (g.H.Shared.state c.advance.new.shared) c.advance.new.log) (Ok o)) c.in-Some-2.is (c.in_ok-found-2.ensures.advanced c.args.forward.now.pushed (world c.args.fuel.now (g.B.Bound.state c.args.bound.now) (g.H.Shared.state c.args.shared.now) c.args.log.now) (prefix-here c.args.forward.now c.loop-found.forward c.args.walk.now.level c.loop-found.walk c.loop-found.invariant.exploring.fronted) c.loop-found.invariant.exploring.begins (trying-here c.args.forward.now c.loop-found.forward c.args.walk.now.level c.loop-found.walk c.loop-found.invariant.exploring.fronted (world c.args.fuel.now (g.B.Bound.state c.args.bound.now) (g.H.Shared.state c.args.shared.now) c.args.log.now) (world c.loop-found.fuel (g.B.Bound.state c.loop-found.bound) (g.H.Shared.state c.loop-found.shared) c.loop-found.log) c.loop-found.walk.nodes.items c.loop-found.forward.pushed c.loop-found.invariant.exploring.trying))))))

pub returns-in_err-end-clause-serves : goal.returns-in_err-end-clause-serves
returns-in_err-end-clause-serves g c = serves-trans (g.H.Shared.serves c.args.shared.now) (g.H.Shared.serves c.loop-found.shared) (g.H.Shared.serves c.advance.new.shared) c.loop-found.invariant.serves c.advance.ensures.serves

pub returns-in_err-end-clause-front : goal.returns-in_err-end-clause-front
returns-in_err-end-clause-front g c = (fronted-on c.args.forward.now c.advance.new.forward c.args.walk.now.level c.advance.new.walk (fronted-on c.args.forward.now c.loop-found.forward c.args.walk.now.level c.loop-found.walk c.loop-found.invariant.exploring.fronted c.advance.new.forward c.advance.ensures.front c.advance.new.walk c.advance.ensures.level c.advance.ensures.ready) c.note.new.forward c.note.ensures.front c.note.new.walk c.note.ensures.level c.note.ensures.ready).front

pub returns-in_err-end-clause-searched : goal.returns-in_err-end-clause-searched
returns-in_err-end-clause-searched g c = searched-err c.args.forward.now.instance c.args.walk.now.level c.args.forward.now.pushed (world c.args.fuel.now (g.B.Bound.state c.args.bound.now) (g.H.Shared.state c.args.shared.now) c.args.log.now) (world c.advance.new.fuel (g.B.Bound.state c.advance.new.bound) (g.H.Shared.state c.advance.new.shared) c.advance.new.log) c.from_residual-in_err-end.result c.from_residual-in_err-end.ensures.0
    (λ e. searched-back c.args.forward.now c.advance.new.forward c.args.walk.now.level c.advance.new.walk (fronted-on c.args.forward.now c.loop-found.forward c.args.walk.now.level c.loop-found.walk c.loop-found.invariant.exploring.fronted c.advance.new.forward c.advance.ensures.front c.advance.new.walk c.advance.ensures.level c.advance.ensures.ready) (world c.args.fuel.now (g.B.Bound.state c.args.bound.now) (g.H.Shared.state c.args.shared.now) c.args.log.now) (world c.advance.new.fuel (g.B.Bound.state c.advance.new.bound) (g.H.Shared.state c.advance.new.shared) c.advance.new.log) (Err e) (err-any c.advance.new.forward.instance c.advance.new.walk.level c.args.forward.now.pushed (world c.args.fuel.now (g.B.Bound.state c.args.bound.now) (g.H.Shared.state c.args.shared.now) c.args.log.now) (world c.advance.new.fuel (g.B.Bound.state c.advance.new.bound) (g.H.Shared.state c.advance.new.shared) c.advance.new.log) c.in_err-end.field-0.0 (c.in_err-end.ensures.noted c.args.forward.now.pushed (world c.args.fuel.now (g.B.Bound.state c.args.bound.now) (g.H.Shared.state c.args.shared.now) c.args.log.now) (world c.advance.new.fuel (g.B.Bound.state c.advance.new.bound) (g.H.Shared.state c.advance.new.shared) c.advance.new.log) (prefix-here c.args.forward.now c.advance.new.forward c.args.walk.now.level c.advance.new.walk (fronted-on c.args.forward.now c.loop-found.forward c.args.walk.now.level c.loop-found.walk c.loop-found.invariant.exploring.fronted c.advance.new.forward c.advance.ensures.front c.advance.new.walk c.advance.ensures.level c.advance.ensures.ready)) (comes-here c.args.forward.now c.advance.new.forward c.args.walk.now.level c.advance.new.walk (fronted-on c.args.forward.now c.loop-found.forward c.args.walk.now.level c.loop-found.walk c.loop-found.invariant.exploring.fronted c.advance.new.forward c.advance.ensures.front c.advance.new.walk c.advance.ensures.level c.advance.ensures.ready) (world c.args.fuel.now (g.B.Bound.state c.args.bound.now) (g.H.Shared.state c.args.shared.now) c.args.log.now) (world c.advance.new.fuel (g.B.Bound.state c.advance.new.bound) (g.H.Shared.state c.advance.new.shared) c.advance.new.log) {E = AllocError} c.advance.new.walk.nodes.items c.advance.new.forward.pushed (Ok c.in-Some-2.found) (comes-back c.args.forward.now c.loop-found.forward c.args.walk.now.level c.loop-found.walk c.loop-found.invariant.exploring.fronted (world c.args.fuel.now (g.B.Bound.state c.args.bound.now) (g.H.Shared.state c.args.shared.now) c.args.log.now) (world c.advance.new.fuel (g.B.Bound.state c.advance.new.bound) (g.H.Shared.state c.advance.new.shared) c.advance.new.log) {E = AllocError} c.advance.new.walk.nodes.items c.advance.new.forward.pushed (Ok c.in-Some-2.found) (subst (λ o. IsAdvanced {E = AllocError} c.loop-found.forward.instance c.loop-found.walk.level c.args.forward.now.pushed (world c.args.fuel.now (g.B.Bound.state c.args.bound.now) (g.H.Shared.state c.args.shared.now) c.args.log.now) c.advance.new.walk.nodes.items c.advance.new.forward.pushed (world c.advance.new.fuel (g.B.Bound.state c.advance.new.bound) (g.H.Shared.state c.advance.new.shared) c.advance.new.log) (Ok o)) c.in-Some-2.is (c.in_ok-found-2.ensures.advanced c.args.forward.now.pushed (world c.args.fuel.now (g.B.Bound.state c.args.bound.now) (g.H.Shared.state c.args.shared.now) c.args.log.now) (prefix-here c.args.forward.now c.loop-found.forward c.args.walk.now.level c.loop-found.walk c.loop-found.invariant.exploring.fronted) c.loop-found.invariant.exploring.begins (trying-here c.args.forward.now c.loop-found.forward c.args.walk.now.level c.loop-found.walk c.loop-found.invariant.exploring.fronted (world c.args.fuel.now (g.B.Bound.state c.args.bound.now) (g.H.Shared.state c.args.shared.now) c.args.log.now) (world c.loop-found.fuel (g.B.Bound.state c.loop-found.bound) (g.H.Shared.state c.loop-found.shared) c.loop-found.log) c.loop-found.walk.nodes.items c.loop-found.forward.pushed c.loop-found.invariant.exploring.trying)))))) e))

pub returns-in-Some-3-clause-serves : goal.returns-in-Some-3-clause-serves
returns-in-Some-3-clause-serves g c = serves-trans (g.H.Shared.serves c.args.shared.now) (g.H.Shared.serves c.loop-found.shared) (g.H.Shared.serves c.advance.new.shared) c.loop-found.invariant.serves c.advance.ensures.serves

pub returns-in-Some-3-clause-front : goal.returns-in-Some-3-clause-front
returns-in-Some-3-clause-front g c = (fronted-on c.args.forward.now c.advance.new.forward c.args.walk.now.level c.advance.new.walk (fronted-on c.args.forward.now c.loop-found.forward c.args.walk.now.level c.loop-found.walk c.loop-found.invariant.exploring.fronted c.advance.new.forward c.advance.ensures.front c.advance.new.walk c.advance.ensures.level c.advance.ensures.ready) c.note.new.forward c.note.ensures.front c.note.new.walk c.note.ensures.level c.note.ensures.ready).front

pub returns-in-Some-3-clause-back : goal.returns-in-Some-3-clause-back
returns-in-Some-3-clause-back g c = (subst (λ o. IsNoted {E = AllocError} c.advance.new.forward.instance c.advance.new.walk.level c.args.forward.now.pushed (world c.args.fuel.now (g.B.Bound.state c.args.bound.now) (g.H.Shared.state c.args.shared.now) c.args.log.now) c.note.new.walk.nodes.items c.note.new.forward.pushed (world c.advance.new.fuel (g.B.Bound.state c.advance.new.bound) (g.H.Shared.state c.advance.new.shared) c.advance.new.log) (Ok o)) c.in-Some-3.is (c.in_ok-end.ensures.noted c.args.forward.now.pushed (world c.args.fuel.now (g.B.Bound.state c.args.bound.now) (g.H.Shared.state c.args.shared.now) c.args.log.now) (world c.advance.new.fuel (g.B.Bound.state c.advance.new.bound) (g.H.Shared.state c.advance.new.shared) c.advance.new.log) (prefix-here c.args.forward.now c.advance.new.forward c.args.walk.now.level c.advance.new.walk (fronted-on c.args.forward.now c.loop-found.forward c.args.walk.now.level c.loop-found.walk c.loop-found.invariant.exploring.fronted c.advance.new.forward c.advance.ensures.front c.advance.new.walk c.advance.ensures.level c.advance.ensures.ready)) (comes-here c.args.forward.now c.advance.new.forward c.args.walk.now.level c.advance.new.walk (fronted-on c.args.forward.now c.loop-found.forward c.args.walk.now.level c.loop-found.walk c.loop-found.invariant.exploring.fronted c.advance.new.forward c.advance.ensures.front c.advance.new.walk c.advance.ensures.level c.advance.ensures.ready) (world c.args.fuel.now (g.B.Bound.state c.args.bound.now) (g.H.Shared.state c.args.shared.now) c.args.log.now) (world c.advance.new.fuel (g.B.Bound.state c.advance.new.bound) (g.H.Shared.state c.advance.new.shared) c.advance.new.log) {E = AllocError} c.advance.new.walk.nodes.items c.advance.new.forward.pushed (Ok c.in-Some-2.found) (comes-back c.args.forward.now c.loop-found.forward c.args.walk.now.level c.loop-found.walk c.loop-found.invariant.exploring.fronted (world c.args.fuel.now (g.B.Bound.state c.args.bound.now) (g.H.Shared.state c.args.shared.now) c.args.log.now) (world c.advance.new.fuel (g.B.Bound.state c.advance.new.bound) (g.H.Shared.state c.advance.new.shared) c.advance.new.log) {E = AllocError} c.advance.new.walk.nodes.items c.advance.new.forward.pushed (Ok c.in-Some-2.found) (subst (λ o. IsAdvanced {E = AllocError} c.loop-found.forward.instance c.loop-found.walk.level c.args.forward.now.pushed (world c.args.fuel.now (g.B.Bound.state c.args.bound.now) (g.H.Shared.state c.args.shared.now) c.args.log.now) c.advance.new.walk.nodes.items c.advance.new.forward.pushed (world c.advance.new.fuel (g.B.Bound.state c.advance.new.bound) (g.H.Shared.state c.advance.new.shared) c.advance.new.log) (Ok o)) c.in-Some-2.is (c.in_ok-found-2.ensures.advanced c.args.forward.now.pushed (world c.args.fuel.now (g.B.Bound.state c.args.bound.now) (g.H.Shared.state c.args.shared.now) c.args.log.now) (prefix-here c.args.forward.now c.loop-found.forward c.args.walk.now.level c.loop-found.walk c.loop-found.invariant.exploring.fronted) c.loop-found.invariant.exploring.begins (trying-here c.args.forward.now c.loop-found.forward c.args.walk.now.level c.loop-found.walk c.loop-found.invariant.exploring.fronted (world c.args.fuel.now (g.B.Bound.state c.args.bound.now) (g.H.Shared.state c.args.shared.now) c.args.log.now) (world c.loop-found.fuel (g.B.Bound.state c.loop-found.bound) (g.H.Shared.state c.loop-found.shared) c.loop-found.log) c.loop-found.walk.nodes.items c.loop-found.forward.pushed c.loop-found.invariant.exploring.trying))))))).1

pub returns-in-Some-3-clause-searched : goal.returns-in-Some-3-clause-searched
returns-in-Some-3-clause-searched g c = searched-back c.args.forward.now c.advance.new.forward c.args.walk.now.level c.advance.new.walk (fronted-on c.args.forward.now c.loop-found.forward c.args.walk.now.level c.loop-found.walk c.loop-found.invariant.exploring.fronted c.advance.new.forward c.advance.ensures.front c.advance.new.walk c.advance.ensures.level c.advance.ensures.ready) (world c.args.fuel.now (g.B.Bound.state c.args.bound.now) (g.H.Shared.state c.args.shared.now) c.args.log.now) (world c.advance.new.fuel (g.B.Bound.state c.advance.new.bound) (g.H.Shared.state c.advance.new.shared) c.advance.new.log) {E = AllocError} (Ok c.in-Some-3.end) (subst (λ o. IsNoted {E = AllocError} c.advance.new.forward.instance c.advance.new.walk.level c.args.forward.now.pushed (world c.args.fuel.now (g.B.Bound.state c.args.bound.now) (g.H.Shared.state c.args.shared.now) c.args.log.now) c.note.new.walk.nodes.items c.note.new.forward.pushed (world c.advance.new.fuel (g.B.Bound.state c.advance.new.bound) (g.H.Shared.state c.advance.new.shared) c.advance.new.log) (Ok o)) c.in-Some-3.is (c.in_ok-end.ensures.noted c.args.forward.now.pushed (world c.args.fuel.now (g.B.Bound.state c.args.bound.now) (g.H.Shared.state c.args.shared.now) c.args.log.now) (world c.advance.new.fuel (g.B.Bound.state c.advance.new.bound) (g.H.Shared.state c.advance.new.shared) c.advance.new.log) (prefix-here c.args.forward.now c.advance.new.forward c.args.walk.now.level c.advance.new.walk (fronted-on c.args.forward.now c.loop-found.forward c.args.walk.now.level c.loop-found.walk c.loop-found.invariant.exploring.fronted c.advance.new.forward c.advance.ensures.front c.advance.new.walk c.advance.ensures.level c.advance.ensures.ready)) (comes-here c.args.forward.now c.advance.new.forward c.args.walk.now.level c.advance.new.walk (fronted-on c.args.forward.now c.loop-found.forward c.args.walk.now.level c.loop-found.walk c.loop-found.invariant.exploring.fronted c.advance.new.forward c.advance.ensures.front c.advance.new.walk c.advance.ensures.level c.advance.ensures.ready) (world c.args.fuel.now (g.B.Bound.state c.args.bound.now) (g.H.Shared.state c.args.shared.now) c.args.log.now) (world c.advance.new.fuel (g.B.Bound.state c.advance.new.bound) (g.H.Shared.state c.advance.new.shared) c.advance.new.log) {E = AllocError} c.advance.new.walk.nodes.items c.advance.new.forward.pushed (Ok c.in-Some-2.found) (comes-back c.args.forward.now c.loop-found.forward c.args.walk.now.level c.loop-found.walk c.loop-found.invariant.exploring.fronted (world c.args.fuel.now (g.B.Bound.state c.args.bound.now) (g.H.Shared.state c.args.shared.now) c.args.log.now) (world c.advance.new.fuel (g.B.Bound.state c.advance.new.bound) (g.H.Shared.state c.advance.new.shared) c.advance.new.log) {E = AllocError} c.advance.new.walk.nodes.items c.advance.new.forward.pushed (Ok c.in-Some-2.found) (subst (λ o. IsAdvanced {E = AllocError} c.loop-found.forward.instance c.loop-found.walk.level c.args.forward.now.pushed (world c.args.fuel.now (g.B.Bound.state c.args.bound.now) (g.H.Shared.state c.args.shared.now) c.args.log.now) c.advance.new.walk.nodes.items c.advance.new.forward.pushed (world c.advance.new.fuel (g.B.Bound.state c.advance.new.bound) (g.H.Shared.state c.advance.new.shared) c.advance.new.log) (Ok o)) c.in-Some-2.is (c.in_ok-found-2.ensures.advanced c.args.forward.now.pushed (world c.args.fuel.now (g.B.Bound.state c.args.bound.now) (g.H.Shared.state c.args.shared.now) c.args.log.now) (prefix-here c.args.forward.now c.loop-found.forward c.args.walk.now.level c.loop-found.walk c.loop-found.invariant.exploring.fronted) c.loop-found.invariant.exploring.begins (trying-here c.args.forward.now c.loop-found.forward c.args.walk.now.level c.loop-found.walk c.loop-found.invariant.exploring.fronted (world c.args.fuel.now (g.B.Bound.state c.args.bound.now) (g.H.Shared.state c.args.shared.now) c.args.log.now) (world c.loop-found.fuel (g.B.Bound.state c.loop-found.bound) (g.H.Shared.state c.loop-found.shared) c.loop-found.log) c.loop-found.walk.nodes.items c.loop-found.forward.pushed c.loop-found.invariant.exploring.trying))))))).0

pub loop-found-smaller : goal.loop-found-smaller
loop-found-smaller g c =
    let first : work_left c.advance.new.fuel c.advance.new.walk.nodes.items ≤ work_left c.loop-found.fuel c.loop-found.walk.nodes.items = subst (λ o. Lightens {E = AllocError} (work_left c.loop-found.fuel c.loop-found.walk.nodes.items) (work_left c.advance.new.fuel c.advance.new.walk.nodes.items) (Ok o)) c.in-Some-2.is c.in_ok-found-2.ensures.lighter in
    let then : work_left c.advance.new.fuel c.note.new.walk.nodes.items < work_left c.advance.new.fuel c.advance.new.walk.nodes.items = (subst (λ o. NotesLess {E = AllocError} c.advance.new.walk.nodes.items c.note.new.walk.nodes.items (Ok o)) c.in_default-3.is c.in_ok-end.ensures.lighter) c.advance.new.fuel in
    omega (arith, first, then)

pub loop-found-preserved : goal.loop-found-preserved
loop-found-preserved g c = record {
  bound = λ was h. c.advance.ensures.bound was (c.loop-found.invariant.bound was h);
  shared = λ was h. c.advance.ensures.shared was (c.loop-found.invariant.shared was h);
  serves = serves-trans (g.H.Shared.serves c.args.shared.now) (g.H.Shared.serves c.loop-found.shared) (g.H.Shared.serves c.advance.new.shared) c.loop-found.invariant.serves c.advance.ensures.serves;
  held = subst (λ (seen : SeenRows). AreCitesCopied (g.H.Shared.state c.advance.new.shared).copied seen.cites.items) (sym c.note.ensures.seen) c.advance.ensures.held;
  exploring = record {
    begins = c.note.ensures.first ∙ (c.advance.ensures.first ∙ c.loop-found.invariant.exploring.begins);
    fronted = fronted-on c.args.forward.now c.advance.new.forward c.args.walk.now.level c.advance.new.walk (fronted-on c.args.forward.now c.loop-found.forward c.args.walk.now.level c.loop-found.walk c.loop-found.invariant.exploring.fronted c.advance.new.forward c.advance.ensures.front c.advance.new.walk c.advance.ensures.level c.advance.ensures.ready) c.note.new.forward c.note.ensures.front c.note.new.walk c.note.ensures.level c.note.ensures.ready;
    trying = trying-back c.args.forward.now c.advance.new.forward c.args.walk.now.level c.advance.new.walk (fronted-on c.args.forward.now c.loop-found.forward c.args.walk.now.level c.loop-found.walk c.loop-found.invariant.exploring.fronted c.advance.new.forward c.advance.ensures.front c.advance.new.walk c.advance.ensures.level c.advance.ensures.ready) (world c.args.fuel.now (g.B.Bound.state c.args.bound.now) (g.H.Shared.state c.args.shared.now) c.args.log.now) (world c.advance.new.fuel (g.B.Bound.state c.advance.new.bound) (g.H.Shared.state c.advance.new.shared) c.advance.new.log) c.note.new.walk.nodes.items c.note.new.forward.pushed (subst (λ o. IsNoted {E = AllocError} c.advance.new.forward.instance c.advance.new.walk.level c.args.forward.now.pushed (world c.args.fuel.now (g.B.Bound.state c.args.bound.now) (g.H.Shared.state c.args.shared.now) c.args.log.now) c.note.new.walk.nodes.items c.note.new.forward.pushed (world c.advance.new.fuel (g.B.Bound.state c.advance.new.bound) (g.H.Shared.state c.advance.new.shared) c.advance.new.log) (Ok o)) c.in_default-3.is (c.in_ok-end.ensures.noted c.args.forward.now.pushed (world c.args.fuel.now (g.B.Bound.state c.args.bound.now) (g.H.Shared.state c.args.shared.now) c.args.log.now) (world c.advance.new.fuel (g.B.Bound.state c.advance.new.bound) (g.H.Shared.state c.advance.new.shared) c.advance.new.log) (prefix-here c.args.forward.now c.advance.new.forward c.args.walk.now.level c.advance.new.walk (fronted-on c.args.forward.now c.loop-found.forward c.args.walk.now.level c.loop-found.walk c.loop-found.invariant.exploring.fronted c.advance.new.forward c.advance.ensures.front c.advance.new.walk c.advance.ensures.level c.advance.ensures.ready)) (comes-here c.args.forward.now c.advance.new.forward c.args.walk.now.level c.advance.new.walk (fronted-on c.args.forward.now c.loop-found.forward c.args.walk.now.level c.loop-found.walk c.loop-found.invariant.exploring.fronted c.advance.new.forward c.advance.ensures.front c.advance.new.walk c.advance.ensures.level c.advance.ensures.ready) (world c.args.fuel.now (g.B.Bound.state c.args.bound.now) (g.H.Shared.state c.args.shared.now) c.args.log.now) (world c.advance.new.fuel (g.B.Bound.state c.advance.new.bound) (g.H.Shared.state c.advance.new.shared) c.advance.new.log) {E = AllocError} c.advance.new.walk.nodes.items c.advance.new.forward.pushed (Ok c.in-Some-2.found) (comes-back c.args.forward.now c.loop-found.forward c.args.walk.now.level c.loop-found.walk c.loop-found.invariant.exploring.fronted (world c.args.fuel.now (g.B.Bound.state c.args.bound.now) (g.H.Shared.state c.args.shared.now) c.args.log.now) (world c.advance.new.fuel (g.B.Bound.state c.advance.new.bound) (g.H.Shared.state c.advance.new.shared) c.advance.new.log) {E = AllocError} c.advance.new.walk.nodes.items c.advance.new.forward.pushed (Ok c.in-Some-2.found) (subst (λ o. IsAdvanced {E = AllocError} c.loop-found.forward.instance c.loop-found.walk.level c.args.forward.now.pushed (world c.args.fuel.now (g.B.Bound.state c.args.bound.now) (g.H.Shared.state c.args.shared.now) c.args.log.now) c.advance.new.walk.nodes.items c.advance.new.forward.pushed (world c.advance.new.fuel (g.B.Bound.state c.advance.new.bound) (g.H.Shared.state c.advance.new.shared) c.advance.new.log) (Ok o)) c.in-Some-2.is (c.in_ok-found-2.ensures.advanced c.args.forward.now.pushed (world c.args.fuel.now (g.B.Bound.state c.args.bound.now) (g.H.Shared.state c.args.shared.now) c.args.log.now) (prefix-here c.args.forward.now c.loop-found.forward c.args.walk.now.level c.loop-found.walk c.loop-found.invariant.exploring.fronted) c.loop-found.invariant.exploring.begins (trying-here c.args.forward.now c.loop-found.forward c.args.walk.now.level c.loop-found.walk c.loop-found.invariant.exploring.fronted (world c.args.fuel.now (g.B.Bound.state c.args.bound.now) (g.H.Shared.state c.args.shared.now) c.args.log.now) (world c.loop-found.fuel (g.B.Bound.state c.loop-found.bound) (g.H.Shared.state c.loop-found.shared) c.loop-found.log) c.loop-found.walk.nodes.items c.loop-found.forward.pushed c.loop-found.invariant.exploring.trying)))))));
  };
}
