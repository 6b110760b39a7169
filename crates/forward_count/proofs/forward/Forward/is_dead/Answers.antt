use Rattle.std.proofs.Common.{◌<◌, ◌∙◌, ap, refl, subst, sym, ℕ}
use Rattle.std.proofs.lemmas.Bool.{both_ways}
use Rattle.fapp_model.specs.declared.triple.Triple.{Triple}
use Rattle.fapp_model.specs.Tags.{mode_level, triple_from}
use Rattle.fapp_model.specs.search.Pairs.{limit_of}
use Rattle.fapp_tables.specs.Measures.{pair_code}
use Rattle.choice_counts.specs.CountedSums.{IsCountedSum, IsCalm}
use Rattle.forward_count.proofs.DeadLaws.{dead_free, dead_over, dead_restless, seen}
use Rattle.forward_count.proofs.forward.Forward.is_dead.Goals as goal

pub returns-then-not-is_calm : goal.returns-then-not-is_calm
returns-then-not-is_calm c =
    let st = c.args.self.now in
    let f = (seen c.self.inside.tables.now c.self.inside.level c.self.inside.pushed.items c.self.inside.partial c.self.inside.rows.items c.self.inside.totals c.self.inside.pushed.cap c.self.invariant.1 c.args.self.now c.self.view_is) in
    let restless = λ (calm : IsCalm st.instance (mode_level (triple_from c.args.tag.code)) st.pushed).
    both_ways c.is_calm.result c.if-not-is_calm.true (c.is_calm.ensures.1 (subst (λ (k : ℕ). IsCalm st.instance k st.pushed) (sym c.level_of-level.ensures) calm)) in
    (λ _. dead_restless st.instance c.args.tag.code st.pushed f.valid c.requires f.partial restless, λ _. refl)

pub returns-then-triple-gt0 : goal.returns-then-triple-gt0
returns-then-triple-gt0 c =
    let st = c.args.self.now in
    let f = (seen c.self.inside.tables.now c.self.inside.level c.self.inside.pushed.items c.self.inside.partial c.self.inside.rows.items c.self.inside.totals c.self.inside.pushed.cap c.self.invariant.1 c.args.self.now c.self.view_is) in
    let calm = subst (λ (k : ℕ). IsCalm st.instance k st.pushed) c.level_of-level.ensures (c.is_calm.ensures.0 c.if-not-is_calm.false) in
    let bound = subst (λ (k : ℕ). IsCountedSum st.instance k st.pushed c.bound.result) c.level_of-level.ensures c.bound.ensures in
    dead_over st.instance c.args.tag.code st.pushed f.valid c.requires f.partial c.if-tag-eq0.false c.bound.result calm bound c.limit_code.result
    (c.limit_code.ensures ∙ ap (λ (t : Triple). pair_code (limit_of t)) c.triple_of-triple.ensures) (subst (λ (t : Triple). 0 < t.v) c.triple_of-triple.ensures c.if-triple-gt0.true)

pub returns-else-triple-gt0 : goal.returns-else-triple-gt0
returns-else-triple-gt0 c =
    let st = c.args.self.now in
    let f = (seen c.self.inside.tables.now c.self.inside.level c.self.inside.pushed.items c.self.inside.partial c.self.inside.rows.items c.self.inside.totals c.self.inside.pushed.cap c.self.invariant.1 c.args.self.now c.self.view_is) in
    let calm = subst (λ (k : ℕ). IsCalm st.instance k st.pushed) c.level_of-level.ensures (c.is_calm.ensures.0 c.if-not-is_calm.false) in
    dead_free st.instance c.args.tag.code st.pushed f.valid c.requires f.partial c.if-tag-eq0.false calm c.triple_of-triple.result.v (ap (λ (t : Triple). t.v) c.triple_of-triple.ensures) c.if-triple-gt0.false
