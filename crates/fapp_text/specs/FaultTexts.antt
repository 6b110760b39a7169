-- How faults are printed.
use Rattle.std.specs.Prelude.{ℕ, List, ◌++◌, Option, Some, None, decimal, codes}
use Rattle.fapp_text.specs.declared.failure.Failure.{Failure}
use Rattle.fapp_text.specs.declared.failure.Failure.TheVariants.{Bad, NoMemory}
use Rattle.fapp_text.specs.declared.numeral.TheConstants.{MAX_NUMBER}
use Rattle.fapp_text.specs.declared.numeral.NumFault.{NumFault}
use Rattle.fapp_text.specs.declared.numeral.NumFault.TheVariants.{NotDigits, TooLarge}

-- the fault of a line, where its cause is printed so
abbrev pub fault_text : ℕ → Option (List ℕ) → Option (List ℕ)
fault_text line None = None
fault_text line (Some cause) = Some (codes "line " ++ decimal line ++ codes ": " ++ cause)

-- a failure, where its fault is printed by text
abbrev pub failure_text : {F : Type 0} → (F → Option (List ℕ)) → Failure F → Option (List ℕ)
failure_text text (Bad fault) = text fault
failure_text text NoMemory = Some (codes "no memory")

abbrev pub num_fault_text : NumFault → List ℕ
num_fault_text NotDigits = codes "not digits"
num_fault_text TooLarge = codes "above " ++ decimal MAX_NUMBER
