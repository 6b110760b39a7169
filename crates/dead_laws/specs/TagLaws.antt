-- What holds of tags.
use Rattle.std.specs.Prelude.{◌↔◌, ℕ, List}
use Rattle.fapp_model.specs.declared.instance.Instance.{Instance}
use Rattle.fapp_model.specs.declared.triple.Triple.{Triple}
use Rattle.fapp_model.specs.Assignments.{IsAssignment}
use Rattle.fapp_model.specs.Costs.{cost}
use Rattle.fapp_model.specs.Instances.{IsInstance}
use Rattle.fapp_model.specs.Least.{IsFeasible}
use Rattle.fapp_model.specs.search.Modes.{IsWithin}
use Rattle.fapp_model.specs.Tags.{IsTagOf, least_tag}
use Rattle.fapp_model.specs.Triples.{IsBelow}

-- What an assignment costs is a tag.
abbrev pub CostsAreTags : Type 0
CostsAreTags =
    (instance : Instance) (plan : List ℕ) → IsInstance instance → IsAssignment instance plan →
    IsTagOf instance (cost instance plan)

-- What a tag above (0, 0, 0) asks. A feasible assignment costs less exactly where it has no
-- violation at the tag's level and, where the tag has a limit, its violations one level below and
-- further below are below that.
abbrev pub CostAgainstMode : Type 0
CostAgainstMode =
    (instance : Instance) (t : Triple) (plan : List ℕ) → IsInstance instance → IsTagOf instance t →
    IsBelow least_tag t → IsFeasible instance plan →
    IsBelow (cost instance plan) t ↔ IsWithin instance t plan
