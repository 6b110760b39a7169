-- What holds of two choices holds of them turned.
use Rattle.std.proofs.Common.{◌≡◌, ℕ, arith, List, refl}
use Rattle.std.specs.Int.{abs_diff}
use Rattle.std.proofs.lemmas.Cmp.{int_eq_equiv}
use Rattle.fapp_model.specs.declared.choice.Choice.{Choice}
use Rattle.fapp_model.specs.Records.{same_polarization, is_closer}

pub far_turned : (x y : ℕ) → abs_diff x y ≡ abs_diff y x
far_turned x y = omega arith

pub same_turned : (a b : Choice) → same_polarization a b ≡ same_polarization b a
same_turned a b = int_eq_equiv.symm a.pol b.pol

pub closer_turned : (level : ℕ) (dist : List ℕ) (a b : Choice) → is_closer level dist a b ≡ is_closer level dist b a
closer_turned level dist a b = rw (far_turned a.freq b.freq) refl
