use Rattle.std.proofs.Common.{◌≡◌, Ok, Err, ⊎_elim, sym, subst}
use Rattle.std.specs.declared.alloc.AllocError.{AllocError}
use Rattle.search_log.specs.declared.line.Ref.{Ref}
use Rattle.search_log.specs.declared.line.Ref.TheVariants.{Own, Row}
use Rattle.search_log.specs.declared.job.Outcome.TheVariants.{Refuted}
use Rattle.settle_laws.specs.declared.found.Found.TheVariants.{Settled, Moot, Spent}
use Rattle.settle_laws.specs.Lined.{Lined}
use Rattle.settle_laws.specs.Settling.{Settles}
use Rattle.settle_laws.specs.Worlds.{world}
use Rattle.settle_laws.proofs.Settling.{err-settles, got-settles, moot-settles, none-settles, offerable, row-settles, spent-settles, unkept-settles}
use Rattle.std.proofs.lemmas.Bool.{false≢true}
use Rattle.subtree_search.proofs.Closing.{found-as, settled-as}
use Rattle.subtree_search.proofs.job.finish.Goals as goal

pub returns-in-Err-clause-settled : goal.returns-in-Err-clause-settled
returns-in-Err-clause-settled g c = λ instance level literals old fuel bound k.
    let mid = world fuel bound (g.H.Shared.state c.args.shared.now) c.args.log.now in
    err-settles instance level literals old mid c.cut.new.self c.args.from k.from_is k.behind c.cut.ensures c.in-Err.field-0 (record {}) (subst (λ f. Lined instance level literals old mid f) c.in-Err.is k.lined)

pub publish-requires-clause-offerable : goal.publish-requires-clause-offerable
publish-requires-clause-offerable g c =
    let k = c.requires.closing in
    let e : c.args.found ≡ Ok (Settled (Own c.in-Own.place) c.in-Settled.tag) = settled-as c.args.found c.in-Ok.found c.in-Settled.line (Own c.in-Own.place) c.in-Settled.tag c.in-Ok.is c.in-Settled.is c.in-Own.is in
    let mid = world k.4 k.5 (g.H.Shared.state c.args.shared.now) c.args.log.now in
    (k.0, k.6, offerable {E = AllocError} k.0 k.1 k.2 k.3 mid c.in-Own.place c.in-Settled.tag (subst (λ f. Lined k.0 k.1 k.2 k.3 mid f) e k.7.lined))

pub returns-in-Row-clause-settled : goal.returns-in-Row-clause-settled
returns-in-Row-clause-settled g c = λ instance level literals old fuel bound k.
    let e : c.args.found ≡ Ok (Settled (Row c.in-Row.field-0) c.in-Settled.tag) = settled-as c.args.found c.in-Ok.found c.in-Settled.line (Row c.in-Row.field-0) c.in-Settled.tag c.in-Ok.is c.in-Settled.is c.in-Row.is in
    let mid = world fuel bound (g.H.Shared.state c.args.shared.now) c.args.log.now in
    subst (λ (r : Ref). Settles {E = AllocError} instance level literals old mid (Ok (Refuted r c.in-Settled.tag))) (sym c.in-Row.is)
    (row-settles instance level literals old mid c.in-Row.field-0 c.in-Settled.tag (subst (λ f. Lined instance level literals old mid f) e k.lined))

pub returns-in-Ok-publish-clause-settled : goal.returns-in-Ok-publish-clause-settled
returns-in-Ok-publish-clause-settled g c = λ instance level literals old fuel bound k.
    let e : c.args.found ≡ Ok (Settled (Own c.in-Own.place) c.in-Settled.tag) = settled-as c.args.found c.in-Ok.found c.in-Settled.line (Own c.in-Own.place) c.in-Settled.tag c.in-Ok.is c.in-Settled.is c.in-Own.is in
    let mid = world fuel bound (g.H.Shared.state c.args.shared.now) c.args.log.now in
    let l : Lined {E = AllocError} instance level literals old mid (Ok (Settled (Own c.in-Own.place) c.in-Settled.tag)) = subst (λ f. Lined instance level literals old mid f) e k.lined in
    let p = c.in-Ok-publish.ensures.published in
    ⊎_elim
    (λ got. got-settles instance level literals old mid c.in-Own.place c.in-Settled.tag l k.behind (g.H.Shared.state c.publish.new.shared) p.copied p.takes p.refusals c.publish.new.log (Ok c.in-Ok-publish.field-0) got AllocError got.ends)
    (λ none. none-settles instance level literals old mid c.in-Own.place c.in-Settled.tag l k.behind (g.H.Shared.state c.publish.new.shared) p.copied p.takes p.refusals c.publish.new.log (Ok c.in-Ok-publish.field-0) none AllocError)
    p.got

pub returns-in-Err-publish-clause-settled : goal.returns-in-Err-publish-clause-settled
returns-in-Err-publish-clause-settled g c = λ instance level literals old fuel bound k.
    let e : c.args.found ≡ Ok (Settled (Own c.in-Own.place) c.in-Settled.tag) = settled-as c.args.found c.in-Ok.found c.in-Settled.line (Own c.in-Own.place) c.in-Settled.tag c.in-Ok.is c.in-Settled.is c.in-Own.is in
    let mid = world fuel bound (g.H.Shared.state c.args.shared.now) c.args.log.now in
    let l : Lined {E = AllocError} instance level literals old mid (Ok (Settled (Own c.in-Own.place) c.in-Settled.tag)) = subst (λ f. Lined instance level literals old mid f) e k.lined in
    let p = c.in-Err-publish.ensures.published in
    ⊎_elim
    (λ got. unkept-settles instance level literals old mid c.in-Own.place c.in-Settled.tag l k.behind (g.H.Shared.state c.publish.new.shared) p.copied p.takes p.refusals c.publish.new.log (Err c.in-Err-publish.field-0) got (record {}) c.args.from k.from_is c.cut-in-Err-publish.new.self got.ends c.cut-in-Err-publish.ensures)
    (λ none. absurd (false≢true none.went))
    p.got

pub returns-in-Moot-clause-settled : goal.returns-in-Moot-clause-settled
returns-in-Moot-clause-settled g c = λ instance level literals old fuel bound k.
    let e : c.args.found ≡ Ok (Moot c.in-Moot.seen) = found-as c.args.found c.in-Ok.found (Moot c.in-Moot.seen) c.in-Ok.is c.in-Moot.is in
    let mid = world fuel bound (g.H.Shared.state c.args.shared.now) c.args.log.now in
    moot-settles instance level literals old mid c.cut-in-Moot.new.self c.args.from k.from_is k.behind c.cut-in-Moot.ensures c.in-Moot.seen (subst (λ f. Lined instance level literals old mid f) e k.lined)

pub returns-in-Spent-clause-settled : goal.returns-in-Spent-clause-settled
returns-in-Spent-clause-settled g c = λ instance level literals old fuel bound k.
    let e : c.args.found ≡ Ok Spent = found-as c.args.found c.in-Ok.found Spent c.in-Ok.is c.in-Spent.is in
    let mid = world fuel bound (g.H.Shared.state c.args.shared.now) c.args.log.now in
    spent-settles instance level literals old mid c.cut-in-Spent.new.self c.args.from k.from_is k.behind c.cut-in-Spent.ensures k.valid k.within k.prefix (subst (λ f. Lined instance level literals old mid f) e k.lined)
