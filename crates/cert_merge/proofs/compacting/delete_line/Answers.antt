use Rattle.std.proofs.Common.{ap, map, refl}
use Rattle.cert_lines.specs.declared.answer.Rule.TheVariants.{Delete}
use Rattle.cert_lines.specs.Renumbering.{number_in}
use Rattle.cert_merge.proofs.CompactSteps.{delete-made}
use Rattle.cert_merge.proofs.compacting.delete_line.Goals as goal

pub returns : goal.returns
returns c = delete-made _ (map (number_in c.args.numbers.now) c.args.ended.now) refl c.new.ensures (ap Delete c.in_ok-renumbered_cites.ensures)
