-- What the tables of an instance keep.
use Rattle.std.specs.Prelude.{◌≡◌, ℕ, List}
use Rattle.fapp_model.specs.declared.instance.Instance.{Instance}
use Rattle.fapp_model.specs.Instances.{IsInstance}
use Rattle.fapp_model.specs.search.WorkOrder.{work_order}
use Rattle.fapp_tables.specs.Parts.{AreIndexes}

pub record IsTables (instance : Instance)
    (order starts neighbours firsts positions : List ℕ) : Type 0 where
  pub valid : IsInstance instance
  pub ordered : order ≡ work_order instance
  pub indexed : AreIndexes instance starts neighbours firsts positions
