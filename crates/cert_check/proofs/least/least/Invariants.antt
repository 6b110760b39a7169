use Rattle.std.proofs.Common.{◌≡◌, ◌≤◌, None, IfSome, fold}
use Rattle.std.specs.List.{range_with_len}
use Rattle.std.specs.Option.{option_map}
use Rattle.cert_lines.specs.acceptance.Judged.{with_choice}
use Rattle.cert_check.specs.Scenes.{excluded_by}
use Rattle.cert_check.specs.Weights.{added_most, pair_of}
use Rattle.cert_check.proofs.least.least.Given as goal

-- the choices so far
abbrev pub invariant-loop-index : goal.invariant-loop-index
invariant-loop-index l = record {
  pair : option_map pair_of l.found ≡ fold (with_choice (excluded_by l.scene l.literals) l.scene.instance.now l.scene.level l.literals l.path) None (range_with_len 0 l.index);
  small : IfSome l.found (λ w. (w.v ≤ added_most) × (w.s ≤ added_most));
}
