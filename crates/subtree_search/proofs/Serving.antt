-- The instances that rows serve, call after call.
use Rattle.std.proofs.Common.{◌↔◌}
use Rattle.fapp_model.specs.declared.instance.Instance.{Instance}

pub serves-trans : (P Q R : Instance → Type 0) → ((i : Instance) → P i ↔ Q i) → ((i : Instance) → Q i ↔ R i) → (i : Instance) → P i ↔ R i
serves-trans P Q R h k i = ((λ p. (k i).0 ((h i).0 p)), (λ r. (h i).1 ((k i).1 r)))
