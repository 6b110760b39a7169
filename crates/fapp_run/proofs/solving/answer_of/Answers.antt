use Rattle.std.proofs.Common.{List, sym, subst, ◌∙◌}
use Rattle.fapp_model.specs.declared.choice.Choice.{Choice}
use Rattle.fapp_model.specs.Instances.{IsInstance}
use Rattle.fapp_model.specs.Tags.{triple_from}
use Rattle.arc_levels.specs.Outside.{IsRootTag}
use Rattle.cert_lines.specs.declared.answer.Line.{Line}
use Rattle.search_log.specs.LogStates.{LogState}
use Rattle.fapp_workers.proofs.LeastWords.{word-shown}
use Rattle.fapp_run.specs.Solving.{IsAnswerFor, IsKeptPlan}
use Rattle.fapp_run.proofs.Joining.{mergeable, tags-for}
use Rattle.fapp_run.proofs.Solved.{answer-for}
use Rattle.fapp_run.proofs.solving.answer_of.Goals as goal

pub verdict-requires-clause-outcomes : goal.verdict-requires-clause-outcomes
verdict-requires-clause-outcomes c =
    tags-for c.args.plan.now c.args.fuel c.requires.gathered.rows c.args.gathered.logs.items c.args.gathered.word.code c.args.gathered.collected c.requires.gathered.settled

pub verdict-requires-clause-word : goal.verdict-requires-clause-word
verdict-requires-clause-word c =
    word-shown c.args.plan.now.instance c.args.gathered.logs.items c.args.gathered.word.code (subst IsInstance (sym c.requires.plan) c.requires.valid) c.requires.gathered.word

pub merge-requires-clause-mergeable : goal.merge-requires-clause-mergeable
merge-requires-clause-mergeable c =
    let g = c.requires.gathered in
    let here = c.requires.arcs ∙ sym c.requires.plan in (
      c.args.gathered.word.code,
      mergeable c.args.plan.now c.args.fuel g.rows c.args.gathered.logs.items c.args.gathered.word.code c.root_tag.result.code c.args.gathered.collected c.in_ok-verdict.verdict
          (subst IsInstance (sym c.requires.plan) c.requires.valid) g.logs g.settled g.word (subst (λ i. IsRootTag i (triple_from c.root_tag.result.code)) here c.root_tag.ensures) c.in_ok-verdict.ensures.rule,
    )

pub returns : goal.returns
returns c =
    let g = c.requires.gathered in
    let instance = c.args.plan.now.instance in
    let split = c.args.plan.now.split in
    let logs = c.args.gathered.logs.items in
    let word = c.args.gathered.word.code in
    let verdict = c.in_ok-verdict.verdict in
    let choices = c.in_ok-choices.choices.items in
    let lines = c.in_ok-lines.lines.items in
    let kept : IsKeptPlan instance logs (triple_from word) choices =
    subst (λ i. IsKeptPlan i logs (triple_from word) choices) (sym c.requires.plan)
    (subst (λ t. IsKeptPlan c.args.instance.now logs t choices) c.triple_of.ensures (subst (λ (ls : List LogState). IsKeptPlan c.args.instance.now ls c.triple_of.result choices) c.deref.ensures.value c.in_ok-choices.ensures)) in
    let whole = answer-for instance split c.args.fuel g.rows logs word c.root_tag.result.code c.args.gathered.collected verdict choices lines c.args.gathered.ticks.items
    (subst IsInstance (sym c.requires.plan) c.requires.valid) g.settled g.word kept c.in_ok-verdict.ensures.rule c.in_ok-verdict.ensures.formed c.in_ok-lines.ensures.accepted g.counted g.ticks g.branches in
    subst (λ i. IsAnswerFor i split c.args.fuel (record { plan = c.from_vec.result; verdict = verdict; version = 1; lines = c.from_vec-2.result })) c.requires.plan
    (subst (λ (ls : List Line). IsAnswerFor instance split c.args.fuel (record { plan = c.from_vec.result; verdict = verdict; version = 1; lines = ls })) (sym c.from_vec-2.ensures)
    (subst (λ (cs : List Choice). IsAnswerFor instance split c.args.fuel (record { plan = cs; verdict = verdict; version = 1; lines = lines })) (sym c.from_vec.ensures) whole))
