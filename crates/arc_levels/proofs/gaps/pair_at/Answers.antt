use Rattle.std.proofs.Common.{ℕ, List, refl, ap, subst, get_or}
use Rattle.fapp_model.specs.Instances.{IsInstance}
use Rattle.arc_levels.proofs.GapLaws.{is_pair}
use Rattle.arc_levels.proofs.gaps.pair_at.Goals as goal

pub returns-clause-pair : goal.returns-clause-pair
returns-clause-pair c =
    is_pair c.args.tables.now c.args.level c.args.other c.args.place _ (subst IsInstance c.instance.ensures.value c.instance.ensures.valid) c.requires.level c.requires.other c.requires.place
    (record {
      instance_is = c.instance.ensures.value;
      level_is = refl;
      path_is = ap (λ (xs : List ℕ). get_or xs c.args.place 0) c.neighbours.ensures;
      other_is = refl;
    })
    c.records_at.ensures
