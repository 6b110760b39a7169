-- What holds of lines without the Delete lines.
use Rattle.std.specs.Prelude.{List, All}
use Rattle.fapp_model.specs.declared.instance.Instance.{Instance}
use Rattle.cert_lines.specs.declared.answer.Line.{Line}
use Rattle.cert_lines.specs.Stripping.{stripped}
use Rattle.cert_lines.specs.WellFormed.{IsLineOrDelete, IsLine}
use Rattle.accept_laws.specs.Lines.{AreGood}

-- Without the Delete lines good lines stay good.
abbrev pub StrippedLinesAreGood : Type 0
StrippedLinesAreGood =
    (instance : Instance) (lines : List Line) → All (IsLineOrDelete instance) lines →
    AreGood instance lines → AreGood instance (stripped lines)

-- They stay well formed.
abbrev pub StrippedLinesAreFormed : Type 0
StrippedLinesAreFormed =
    (instance : Instance) (lines : List Line) → All (IsLineOrDelete instance) lines →
    AreGood instance lines → All (IsLine instance) (stripped lines)
