use Rattle.std.proofs.Common.{◌≡◌, ℕ, sym, ap, ◌∙◌, subst}
use Rattle.std.proofs.lemmas.Bool.{not-true, not-false}
use Rattle.fapp_model.specs.declared.choice.Choice.{Choice}
use Rattle.fapp_model.specs.declared.instance.Instance.{Instance}
use Rattle.fapp_model.specs.declared.instance.Path.{Path}
use Rattle.fapp_model.specs.Assignments.{path_at}
use Rattle.fapp_model.specs.Choices.{choice}
use Rattle.fapp_model.specs.Instances.{IsNumber}
use Rattle.fapp_model.specs.search.Partials.{choice_of, literal}
use Rattle.arc_levels.specs.Left.{has_partner}
use Rattle.arc_levels.proofs.LeftLaws.{lonely_left, minus_rising, own_number, partner_left, plus_rising}
use Rattle.arc_levels.proofs.left.is_lonely.Goals as goal

-- the choice of the literal
chosen : (owner : Path) (instance : Instance) (path index n : ℕ) (c : Choice) → c ≡ choice owner n → owner ≡ path_at instance path → n ≡ index → c ≡ choice_of instance (literal path index)
chosen owner instance path index n c made owned same = made ∙ (ap (λ (p : Path). choice p n) owned ∙ ap (λ k. choice (path_at instance path) k) same)

pub has_partner-requires-clause-first : goal.has_partner-requires-clause-first
has_partner-requires-clause-first c = subst (λ (x : Choice). IsNumber x.freq) (sym (chosen c.path_at.result.now c.args.pair.now.instance.now c.args.pair.now.path c.args.choice c.from.result c.choice_at-first.result c.choice_at-first.ensures c.path_at.ensures.path c.from.ensures)) (own_number c.args.pair.now.instance.now c.requires.pair.valid c.args.pair.now.path c.args.choice c.requires.pair.path c.requires.choice)

pub has_partner-requires-clause-minus : goal.has_partner-requires-clause-minus
has_partner-requires-clause-minus c = minus_rising c.args.pair.now.instance.now c.args.pair.now.level c.args.removals.now.rows.items c.args.pair.now.other c.args.left.now c.requires.pair.valid c.requires.pair.other c.requires.left

pub has_partner-requires-clause-plus : goal.has_partner-requires-clause-plus
has_partner-requires-clause-plus c = plus_rising c.args.pair.now.instance.now c.args.pair.now.level c.args.removals.now.rows.items c.args.pair.now.other c.args.left.now c.requires.pair.valid c.requires.pair.other c.requires.left

pub returns-then-is_in-clause-yes : goal.returns-then-is_in-clause-yes
returns-then-is_in-clause-yes c holds = record {
  within = sym c.is_in.ensures ∙ c.if-is_in.true;
  alone = lonely_left c.args.pair.now c.requires.pair c.args.removals.now.rows.items c.args.left.now c.args.choice c.requires.left
      (ap (λ (x : Choice). has_partner c.args.pair.now x c.args.left.now) (sym (chosen c.path_at.result.now c.args.pair.now.instance.now c.args.pair.now.path c.args.choice c.from.result c.choice_at-first.result c.choice_at-first.ensures c.path_at.ensures.path c.from.ensures)) ∙ (sym c.has_partner.ensures ∙ not-true _ holds));
}

pub returns-then-is_in-clause-no : goal.returns-then-is_in-clause-no
returns-then-is_in-clause-no c fails within =
    partner_left c.args.pair.now c.requires.pair c.args.removals.now.rows.items c.args.left.now c.args.choice c.requires.left
    (ap (λ (x : Choice). has_partner c.args.pair.now x c.args.left.now) (sym (chosen c.path_at.result.now c.args.pair.now.instance.now c.args.pair.now.path c.args.choice c.from.result c.choice_at-first.result c.choice_at-first.ensures c.path_at.ensures.path c.from.ensures)) ∙ (sym c.has_partner.ensures ∙ not-false _ fails))
