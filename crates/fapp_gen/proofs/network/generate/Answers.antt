use Rattle.fapp_gen.proofs.Texts.{network_pushed}
use Rattle.fapp_gen.proofs.network.generate.Goals as goal

pub returns : goal.returns
returns c =
    network_pushed c.args.number c.args.paths _ _ _ _ _ _ _ c.new-out.ensures.items c.in_ok-push_domain.ensures c.in_ok-push_domain-2.ensures (rw c.from.ensures at c.in_ok-push_paths.ensures) c.in_ok-push_distances.ensures c.in_ok-push_distances-2.ensures (rw (c.from-2.ensures, c.from-3.ensures) at c.in_ok-push_records.ensures)
