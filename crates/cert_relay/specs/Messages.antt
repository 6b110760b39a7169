-- What senders hand to the writer.
use Rattle.std.specs.Prelude.{◌≡◌, ℕ, ◌%◌, ◌==◌, List, None, IfSome, map, filter, Any, count_by}
use Rattle.fapp_model.specs.declared.instance.Instance.{Instance}
use Rattle.cert_lines.specs.declared.answer.Answer.{Answer}
use Rattle.cert_relay.specs.declared.message.Message.{Message}
use Rattle.cert_relay.specs.Pieces.{piece_text}

-- their numbers, in order
abbrev pub numbers : List Message → List ℕ
numbers messages = map (λ message. message.number) messages

-- how often a number stands among some
abbrev pub times : ℕ → List ℕ → ℕ
times number all = count_by (λ n. number == n) all

-- the numbers of one sender among some: a sender has those that leave its own when divided by the
-- number of senders
abbrev pub those_of : ℕ → ℕ → List ℕ → List ℕ
those_of senders sender all = filter (λ n. n % senders == sender) all

-- where a message has a text, it is that of the piece of its number
abbrev pub IsRightMessage : Instance → Answer → Message → Type 0
IsRightMessage instance answer message =
    IfSome message.text (λ text. text ≡ piece_text instance answer message.number)

-- a message of this number has no text
abbrev pub LacksText : List Message → ℕ → Type 0
LacksText messages number =
    Any (λ message. (message.number ≡ number) × (message.text ≡ None)) messages
