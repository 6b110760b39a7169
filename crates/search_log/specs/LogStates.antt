-- What a log holds.
use Rattle.std.specs.Prelude.{List, Option}
use Rattle.search_log.specs.declared.line.LogLine.{LogLine}
use Rattle.search_log.specs.declared.line.Segment.{Segment}
use Rattle.search_log.specs.declared.log.KeptPlan.{KeptPlan}

-- lines and segments in order, and the best assignment, if one was kept
pub record LogState : Type 0 where
  pub lines : List LogLine
  pub segments : List Segment
  pub best : Option KeptPlan
