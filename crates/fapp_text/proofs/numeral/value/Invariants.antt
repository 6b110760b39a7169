use Rattle.std.proofs.Common.{◌≡◌, ◌≤◌, take}
use Rattle.std.specs.Str.Parse.{digits_value}
use Rattle.fapp_text.specs.declared.numeral.TheConstants.{MAX_NUMBER}
use Rattle.fapp_text.proofs.numeral.value.Given as goal

abbrev pub invariant-loop-digit : goal.invariant-loop-digit
invariant-loop-digit l = (l.value ≡ digits_value 10 (take l.digit-index l.digits)) × (l.value ≤ MAX_NUMBER)
