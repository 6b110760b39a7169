use Rattle.std.proofs.Common.{refl}
use Rattle.fapp_gen.proofs.Texts.{records_pushed}
use Rattle.fapp_gen.proofs.network.push_path_records.Goals as goal

pub returns : goal.returns
returns c =
    records_pushed c.args.number c.args.path c.fixed_by.result c.disturbed_by.result _ _ _ _ _ _ _ c.fixed_by.ensures c.disturbed_by.ensures refl refl c.in_ok-push_imperative.ensures c.in_ok-push_imperative-2.ensures c.in_ok-push_distances.ensures c.in_ok-push_distances-2.ensures
