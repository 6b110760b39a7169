use Rattle.std.proofs.Common.{◌<◌, ◌≤◌, All, take}
use Rattle.fapp_tables.specs.Indexes.{record_at}
use Rattle.choice_counts.specs.declared.breaks.TheConstants.{NO_REACH}
use Rattle.choice_counts.specs.Breaks.{IsSteady}
use Rattle.choice_counts.proofs.breaks.next_reach.Given as goal

abbrev pub invariant-loop-position : goal.invariant-loop-position
invariant-loop-position l = record {
  above : l.distance < l.reach;
  within : l.reach ≤ NO_REACH;
  steady : All (λ k. IsSteady (record_at l.instance k) l.distance l.reach) (take l.position-index l.positions);
}
