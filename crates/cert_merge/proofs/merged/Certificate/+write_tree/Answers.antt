use Rattle.std.proofs.Common.{◌+◌, ◌-◌, arith}
use Rattle.fapp_model.specs.search.Jobs.{prefixes}
use Rattle.merge_laws.specs.Refuted.{prefix_number}
use Rattle.cert_merge.specs.Growth.{step_paths}
use Rattle.cert_merge.proofs.Trees.{all-apart, deep-differ, deep-inside, level-few, longer-deepest, longer-is, step-head, tree-whole}
use Rattle.cert_merge.proofs.merged.Certificate.+write_tree.Goals as goal

pub write_prefixes-requires-clause-apart : goal.write_prefixes-requires-clause-apart
write_prefixes-requires-clause-apart t c = all-apart (step_paths c.args.steps.now) c.args.lists.now c.requires.apart

pub longer-requires : goal.longer-requires
longer-requires t c = (step-head c.args.plan.now.instance c.args.steps.now c.in-Some.rest.now c.in-Some.step.now c.in-Some.ensures.cases.0 c.requires.steps).0.1

pub write_tree-requires : goal.write_tree-requires
write_tree-requires t c =
    let instance = c.args.plan.now.instance in
    let deep = longer-is instance c.args.steps.now c.in-Some.rest.now c.in-Some.step.now c.args.lists.now c.deref.result.now c.in_ok-longer.longer.items c.in-Some.ensures.cases.0 c.requires.steps c.deref.ensures.value c.in_ok-longer.ensures in
    let is = c.in-Some.ensures.cases.0 in (
      omega (arith, c.in-Some.ensures.cases.1, c.decreases),
      (
        c.requires.planned,
        (
          (step-head instance c.args.steps.now c.in-Some.rest.now c.in-Some.step.now is c.requires.steps).1,
          (
            deep-differ instance c.args.steps.now c.in-Some.rest.now c.in-Some.step.now c.args.lists.now c.deref.result.now is deep c.requires.apart,
            longer-deepest instance c.args.steps.now c.in-Some.rest.now c.in-Some.step.now c.args.lists.now c.deref.result.now (prefixes instance c.args.plan.now.split) is deep c.requires.prefixes,
          ),
        ),
      ),
    )

pub overflow_cast-first : goal.overflow_cast-first
overflow_cast-first t c =
    let instance = c.args.plan.now.instance in
    let deep = longer-is instance c.args.steps.now c.in-Some.rest.now c.in-Some.step.now c.args.lists.now c.deref.result.now c.in_ok-longer.longer.items c.in-Some.ensures.cases.0 c.requires.steps c.deref.ensures.value c.in_ok-longer.ensures in
    let few = deep-inside instance c.args.tag (prefix_number instance c.args.collected.now c.args.tag.code c.args.self.now) c.args.steps.now c.in-Some.rest.now c.in-Some.step.now c.args.lists.now c.deref.result.now
    c.args.self.now c.write_tree.new.self c.in-Some.ensures.cases.0 c.requires.steps deep c.in_ok-write_tree.ensures in
    omega (arith, few, c.len.ensures.count, c.len.ensures.few, c.len-2.ensures, c.deref.ensures.len)

pub overflow_sub-first : goal.overflow_sub-first
overflow_sub-first t c =
    let instance = c.args.plan.now.instance in
    let deep = longer-is instance c.args.steps.now c.in-Some.rest.now c.in-Some.step.now c.args.lists.now c.deref.result.now c.in_ok-longer.longer.items c.in-Some.ensures.cases.0 c.requires.steps c.deref.ensures.value c.in_ok-longer.ensures in
    let few = deep-inside instance c.args.tag (prefix_number instance c.args.collected.now c.args.tag.code c.args.self.now) c.args.steps.now c.in-Some.rest.now c.in-Some.step.now c.args.lists.now c.deref.result.now
    c.args.self.now c.write_tree.new.self c.in-Some.ensures.cases.0 c.requires.steps deep c.in_ok-write_tree.ensures in
    omega (arith, few, c.len.ensures.count, c.len-2.ensures, c.deref.ensures.len)

pub write_level-requires-clause-numbers : goal.write_level-requires-clause-numbers
write_level-requires-clause-numbers t c =
    let instance = c.args.plan.now.instance in
    let deep = longer-is instance c.args.steps.now c.in-Some.rest.now c.in-Some.step.now c.args.lists.now c.deref.result.now c.in_ok-longer.longer.items c.in-Some.ensures.cases.0 c.requires.steps c.deref.ensures.value c.in_ok-longer.ensures in
    level-few instance c.args.tag (prefix_number instance c.args.collected.now c.args.tag.code c.args.self.now) c.args.steps.now c.in-Some.rest.now c.in-Some.step.now c.args.lists.now c.deref.result.now
    c.args.self.now c.write_tree.new.self c.in-Some.ensures.cases.0 c.requires.steps deep c.in_ok-write_tree.ensures 1000000000 (c.len.result + 1 - c.len-2.result)
    (omega (arith, c.len.ensures.count, c.len.ensures.few)) (omega (arith, c.len.ensures.count, c.len-2.ensures, c.deref.ensures.len))

pub returns : goal.returns
returns t c =
    let instance = c.args.plan.now.instance in
    let deep = longer-is instance c.args.steps.now c.in-Some.rest.now c.in-Some.step.now c.args.lists.now c.deref.result.now c.in_ok-longer.longer.items c.in-Some.ensures.cases.0 c.requires.steps c.deref.ensures.value c.in_ok-longer.ensures in
    tree-whole instance c.args.tag (prefix_number instance c.args.collected.now c.args.tag.code c.args.self.now) c.args.steps.now c.in-Some.rest.now c.in-Some.step.now c.args.lists.now c.deref.result.now
    c.args.self.now c.write_tree.new.self c.in-Some.ensures.cases.0 c.requires.steps deep c.in_ok-write_tree.ensures (c.len.result + 1 - c.len-2.result) c.write_level.new.self
    (omega (arith, c.len.ensures.count, c.len-2.ensures, c.deref.ensures.len))
    (c.in_ok-write_level.ensures instance (step-head instance c.args.steps.now c.in-Some.rest.now c.in-Some.step.now c.in-Some.ensures.cases.0 c.requires.steps).0.0)

pub write_level-requires-clause-apart : goal.write_level-requires-clause-apart
write_level-requires-clause-apart t c = all-apart (step_paths c.args.steps.now) c.args.lists.now c.requires.apart

pub write_level-requires-clause-choices : goal.write_level-requires-clause-choices
write_level-requires-clause-choices t c = (step-head c.args.plan.now.instance c.args.steps.now c.in-Some.rest.now c.in-Some.step.now c.in-Some.ensures.cases.0 c.requires.steps).0.1
