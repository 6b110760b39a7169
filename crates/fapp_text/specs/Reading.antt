-- Reading in steps, with the first fault that is met.
use Rattle.std.specs.Prelude.{◌≡◌, ℕ, Bool, Option, Some, None, Result, Ok, Err, if◌then◌else◌}
use Rattle.fapp_text.specs.declared.failure.LineFault.{LineFault}
use Rattle.fapp_text.specs.declared.failure.Failure.{Failure}
use Rattle.fapp_text.specs.declared.failure.Failure.TheVariants.{Bad, NoMemory}

-- a step after another one, which goes by the value of the first
infixl 10 ◌>>=◌
abbrev pub ◌>>=◌ : {E A B : Type 0} → Result A E → (A → Result B E) → Result B E
(Ok x) >>= f = f x
(Err e) >>= f = Err e

-- the value, where there is no fault
abbrev pub unless : {E A : Type 0} → Option E → A → Result A E
unless (Some e) x = Err e
unless None x = Ok x

-- a value that passes a test, or a fault
abbrev pub allowed : {E A : Type 0} → Bool → E → A → Result A E
allowed test e x = if test then Ok x else Err e

-- one fault in place of every other
abbrev pub or_fault : {E F A : Type 0} → F → Result A E → Result A F
or_fault fault (Ok x) = Ok x
or_fault fault (Err e) = Err fault

-- a cause as the fault of a line
abbrev pub fault : {C : Type 0} → ℕ → C → LineFault C
fault line cause = record { line = line; cause = cause }

-- what is read at a line
abbrev pub at_line : {A C : Type 0} → ℕ → Result A C → Result A (LineFault C)
at_line line (Ok x) = Ok x
at_line line (Err cause) = Err (fault line cause)

-- what fails at a line
abbrev pub failure_at : {C : Type 0} → ℕ → Failure C → Failure (LineFault C)
failure_at line (Bad cause) = Bad (fault line cause)
failure_at line NoMemory = NoMemory

-- A failure is the fault that reading has. Want of memory says nothing.
abbrev pub Fails : {F Y : Type 0} → Failure F → Result Y F → Type 0
Fails (Bad e) read = read ≡ Err e
Fails NoMemory read = Unit {0}

-- A result is what reading gives: its value, as view shows it, or its fault.
abbrev pub Gives : {F X Y : Type 0} → (X → Y) → Result X (Failure F) → Result Y F → Type 0
Gives view (Ok x) read = read ≡ Ok (view x)
Gives view (Err failure) read = Fails failure read
