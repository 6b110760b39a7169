use Rattle.std.proofs.Common.{◌≡◌, ◌+◌, ◌*◌, ◌<◌, ◌≤◌, ap, subst, ◌∙◌, arith}
use Rattle.std.proofs.lemmas.Bool.{leb-true}
use Rattle.fapp_model.specs.declared.triple.Triple.{Triple}
use Rattle.fapp_model.specs.Tags.{triple_from}
use Rattle.fapp_model.specs.search.Pairs.{limit_of}
use Rattle.fapp_model.specs.search.Partials.{literal}
use Rattle.fapp_tables.specs.Measures.{pair_code}
use Rattle.subtree_search.proofs.SumDead.{over-sum}
use Rattle.subtree_search.proofs.explain.is_over.Goals as goal

pub returns : goal.returns
returns c = λ t.
    let v : c.triple_of-triple.result.v ≡ (triple_from c.args.tag.code).v = ap (λ (u : Triple). u.v) c.triple_of-triple.ensures in
    let limit : c.limit_code.result ≡ pair_code (limit_of (triple_from c.args.tag.code)) = c.limit_code.ensures ∙ ap (λ (u : Triple). pair_code (limit_of u)) c.triple_of-triple.ensures in
    let low-high : c.in-Some-checked_add.low ≤ c.in-Some-checked_add-2.high = leb-true c.in-Some-checked_add.low c.in-Some-checked_add-2.high t in
    over-sum c.args.forward.now.instance c.requires.valid c.args.tag.code c.requires.tag c.args.forward.now.level c.requires.level (omega (arith, v, c.if-triple-eq0.false))
    c.args.forward.now.pushed c.requires.own (literal c.args.path c.args.choice) c.requires.partial c.sum.result c.sum.ensures c.in-Some.least c.in-Some.ensures c.sum_at.result c.sum_at.ensures
    (omega (arith, low-high, c.in-Some-checked_add.ensures.1, c.in-Some-checked_add-2.ensures.1, limit))
