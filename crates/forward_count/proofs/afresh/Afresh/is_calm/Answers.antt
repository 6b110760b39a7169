use Rattle.std.proofs.lemmas.Bool.{both_ways}
use Rattle.forward_count.proofs.AfreshLaws.{calm_both, calm_left, calm_stand}
use Rattle.forward_count.proofs.afresh.Afresh.is_calm.Goals as goal

pub returns-then-all_stand : goal.returns-then-all_stand
returns-then-all_stand c = (
  λ h. calm_both c.args.self.now.instance c.args.self.now.level c.args.self.now.pushed (c.all_stand.ensures.0 c.if-all_stand.true) (c.all_have_left.ensures.0 h),
  λ calm. c.all_have_left.ensures.1 (calm_left c.args.self.now.instance c.args.self.now.level c.args.self.now.pushed calm),
)

pub returns-else-all_stand : goal.returns-else-all_stand
returns-else-all_stand c = (
  λ h. absurd (both_ways c.all_stand.result c.if-all_stand.false h),
  λ calm. c.all_stand.ensures.1 (calm_stand c.args.self.now.instance c.args.self.now.level c.args.self.now.pushed calm),
)
