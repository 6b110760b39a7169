-- The exit status of each way to end.
use Rattle.std.specs.Prelude.{ℕ}
use Rattle.answer_writer.specs.declared.status.Status.{Status}
use Rattle.answer_writer.specs.declared.status.Status.TheVariants.{Best, NoneFeasible, Open, Accepted, Written, Rejected, Usage, BadInput, BadAnswer, TooLong, NoAnswer, ReadFault, WriteFault, NoMemory}

abbrev pub exit_code_of : Status → ℕ
exit_code_of Best = 0
exit_code_of Accepted = 0
exit_code_of Written = 0
exit_code_of NoneFeasible = 1
exit_code_of Open = 2
exit_code_of (Rejected fault) = 3
exit_code_of Usage = 64
exit_code_of (BadInput bad) = 65
exit_code_of (BadAnswer bad) = 65
exit_code_of TooLong = 65
exit_code_of NoAnswer = 65
exit_code_of ReadFault = 66
exit_code_of WriteFault = 67
exit_code_of NoMemory = 68
