use Rattle.fapp_gen.proofs.Texts.{paths_pushed}
use Rattle.fapp_gen.proofs.network.push_paths.Goals as goal

pub returns : goal.returns
returns c =
    paths_pushed _ _ _ _ _ c.in_ok-push_path.ensures c.in_ok-push_path-2.ensures c.in_ok-push_further_paths.ensures
