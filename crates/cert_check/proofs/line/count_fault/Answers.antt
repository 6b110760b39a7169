use Rattle.std.proofs.Common.{sym, ◌∙◌}
use Rattle.cert_lines.specs.acceptance.Contained.{has_all_but_one}
use Rattle.cert_check.proofs.LineParts.{good-cites}
use Rattle.cert_check.proofs.line.count_fault.Goals as goal

pub is_dead-requires-clause-scene : goal.is_dead-requires-clause-scene
is_dead-requires-clause-scene c =
    let scene = c.requires.scene in
    record {
      instance = scene.instance;
      marks = scene.marks;
      entries = scene.entries;
      n = scene.n;
      cites = good-cites c.args.scene.lines.now c.args.scene.n c.args.scene.tag (has_all_but_one c.args.literals.now) c.args.cites.now scene.n (sym c.cites_fault.ensures ∙ c.in_default.is);
      level = scene.level;
    }
