-- The numbers of the refusals.
use Rattle.std.specs.Prelude.{ℕ}
use Rattle.fapp_io.specs.declared.whole.ReadEnd.{ReadEnd}
use Rattle.fapp_io.specs.declared.whole.ReadEnd.TheVariants.{ReadFault, TooLong, NoMemory}
use Rattle.fapp_io.specs.declared.whole.WriteEnd.{WriteEnd}
use Rattle.fapp_io.specs.declared.whole.WriteEnd.TheVariants.{WriteFault}

-- the number of a refusal to read
abbrev pub read_end_number : ReadEnd → ℕ
read_end_number ReadFault = 1
read_end_number TooLong = 2
read_end_number NoMemory = 3

-- the number of a refusal to write
abbrev pub write_end_number : WriteEnd → ℕ
write_end_number WriteFault = 1
