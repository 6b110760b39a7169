-- Lines that stand behind others.
use Rattle.std.specs.Prelude.{ℕ, ◌+◌, List, ◌++◌, length, map, All}
use Rattle.fapp_model.specs.declared.instance.Instance.{Instance}
use Rattle.cert_lines.specs.declared.answer.Line.{Line}
use Rattle.cert_lines.specs.Renumbering.{renumbered}
use Rattle.cert_lines.specs.WellFormed.{IsLine}
use Rattle.accept_laws.specs.Lines.{AreGood}

-- a line behind so many others
abbrev pub shifted : ℕ → Line → Line
shifted count line = renumbered (λ n. count + n) line

-- Good lines stay good behind others, where their cites count these.
abbrev pub GoodBehindOthers : Type 0
GoodBehindOthers =
    (instance : Instance) (others lines : List Line) → All (IsLine instance) others →
    All (IsLine instance) lines → AreGood instance others → AreGood instance lines →
    AreGood instance (others ++ map (shifted (length others)) lines)
