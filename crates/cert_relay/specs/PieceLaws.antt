-- How the pieces of an answer make up its text.
use Rattle.std.specs.Prelude.{◌≡◌}
use Rattle.fapp_model.specs.declared.instance.Instance.{Instance}
use Rattle.cert_lines.specs.declared.answer.Answer.{Answer}
use Rattle.cert_lines.specs.Spelling.{answer_text}
use Rattle.cert_relay.specs.Pieces.{piece_count, text_before}

-- all pieces, in order, are the text of the answer
abbrev pub PiecesAreText : Type 0
PiecesAreText =
    (instance : Instance) (answer : Answer) →
    text_before instance answer (piece_count answer) ≡ answer_text instance answer
