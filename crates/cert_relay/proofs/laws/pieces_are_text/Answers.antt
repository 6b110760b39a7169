use Rattle.cert_relay.proofs.Texts.{whole_text}
use Rattle.cert_relay.proofs.laws.pieces_are_text.Goals as goal

pub returns : goal.returns
returns c = whole_text
