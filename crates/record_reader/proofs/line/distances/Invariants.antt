use Rattle.std.proofs.Common.{◌≡◌, ◌+◌, ◌-◌, length, take, drop, replicate, map}
use Rattle.fapp_model.specs.declared.level.TheConstants.{MAX_LEVELS}
use Rattle.record_reader.specs.Fields.{numbers}
use Rattle.record_reader.proofs.Distances.{after}
use Rattle.record_reader.proofs.line.distances.Given as goal

abbrev pub invariant-loop-level : goal.invariant-loop-level
invariant-loop-level l =
    (length l.dist ≡ MAX_LEVELS)
    × (drop l.level l.dist ≡ replicate (MAX_LEVELS - l.level) 0)
    × (after (take l.level l.dist) (numbers (drop (l.level + 3) (map (λ x. x.now) l.fields))) ≡ numbers (drop 3 (map (λ x. x.now) l.fields)))
