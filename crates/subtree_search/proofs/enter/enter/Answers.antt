use Rattle.std.proofs.Common.{◌≡◌, ◌+◌, ◌<◌, true, false, min, sym, ap, ◌∙◌, subst, arith}
use Rattle.std.proofs.lemmas.Bool.{true≢false}
use Rattle.fapp_model.specs.Tags.{triple_from}
use Rattle.fapp_model.specs.search.Dead.{Dead}
use Rattle.fapp_model.proofs.LevelNumbers.{levels-few}
use Rattle.search_log.specs.Fuels.{TakesTick}
use Rattle.search_log.specs.Shares.{IsCiteOf, LooksUp}
use Rattle.settle_laws.specs.Levels.{level_code}
use Rattle.settle_laws.proofs.Entering.{dead-found, is-ticked, moot-found, row-found, spent-found}
use Rattle.settle_laws.proofs.Fewer.{copied-more}
use Rattle.settle_laws.proofs.TagCodes.{tag-small}
use Rattle.subtree_search.proofs.Comparing.{above-by, at-most-by}
use Rattle.subtree_search.proofs.enter.enter.Goals as goal

pub level_tag-requires : goal.level_tag-requires
level_tag-requires g c = omega (arith, (levels-few c.args.forward.now.instance).1)

pub level_tag-requires-2 : goal.level_tag-requires-2
level_tag-requires-2 g c = omega (arith, (levels-few c.args.forward.now.instance).1)

pub returns-then-le-clause-entry : goal.returns-then-le-clause-entry
returns-then-le-clause-entry g c = λ log. moot-found c.args.forward.now.instance c.args.level c.args.forward.now.pushed c.args.fuel.now (g.B.Bound.state c.args.bound.now) (g.B.Bound.state c.now-seen.new.self) (g.H.Shared.state c.args.shared.now) c.now-seen.result c.now-seen.ensures.tells log
    (omega (arith, at-most-by c.le.result c.now-seen.result.code c.level_tag.result.code c.le.ensures c.if-le.true, c.level_tag.ensures))

pub returns-in-Some-clause-entry : goal.returns-in-Some-clause-entry
returns-in-Some-clause-entry g c =
    let f = c.args.forward.now in
    let low : level_code c.args.level < c.now-seen.result.code = omega (arith, above-by c.le.result c.now-seen.result.code c.level_tag.result.code c.le.ensures c.if-le.false, c.level_tag.ensures) in
    let at_is : c.lesser-target.result.code ≡ min c.now-seen.result.code (level_code (c.args.level + 1)) = c.lesser-target.ensures ∙ ap (λ n. min c.now-seen.result.code n) c.level_tag-2.ensures in
    let looks = subst (λ o. LooksUp (g.H.Shared.state c.args.shared.now) (g.H.Shared.state c.lookup.new.self) c.partial.result.now c.lesser-target.result.code o) c.in-Some.is c.lookup.ensures.looks in
    λ log. (
      row-found f.instance c.args.level f.pushed c.args.fuel.now (g.B.Bound.state c.args.bound.now) (g.B.Bound.state c.now-seen.new.self) (g.H.Shared.state c.args.shared.now) c.now-seen.result c.now-seen.ensures.tells log
          low c.lesser-target.result at_is c.partial.result.now (g.H.Shared.state c.lookup.new.self) (λ a. (c.partial.ensures.given a).0) c.in-Some.cite
          looks
          (subst (λ o. IsCiteOf f.instance o) c.in-Some.is (c.lookup.ensures.implied f.instance c.requires.serves)),
      looks.finds.0,
    )

pub is_dead-requires : goal.is_dead-requires
is_dead-requires g c = tag-small c.args.forward.now.instance c.args.level c.lesser-target.result c.requires.level
    (omega (arith, c.lesser-target.ensures, c.level_tag-2.ensures))

pub returns-then-is_dead-clause-entry : goal.returns-then-is_dead-clause-entry
returns-then-is_dead-clause-entry g c =
    let f = c.args.forward.now in
    let low : level_code c.args.level < c.now-seen.result.code = omega (arith, above-by c.le.result c.now-seen.result.code c.level_tag.result.code c.le.ensures c.if-le.false, c.level_tag.ensures) in
    let at_is : c.lesser-target.result.code ≡ min c.now-seen.result.code (level_code (c.args.level + 1)) = c.lesser-target.ensures ∙ ap (λ n. min c.now-seen.result.code n) c.level_tag-2.ensures in
    λ log. dead-found f.instance c.args.level f.pushed c.args.fuel.now (g.B.Bound.state c.args.bound.now) (g.B.Bound.state c.now-seen.new.self) (g.H.Shared.state c.args.shared.now) c.now-seen.result c.now-seen.ensures.tells log
    low c.lesser-target.result at_is c.partial.result.now (g.H.Shared.state c.lookup.new.self)
    (subst (λ o. LooksUp (g.H.Shared.state c.args.shared.now) (g.H.Shared.state c.lookup.new.self) c.partial.result.now c.lesser-target.result.code o) c.in_default.is c.lookup.ensures.looks)
    (λ a. (c.partial.ensures.given a).1) (c.is_dead.ensures.0 c.if-is_dead.true)

pub returns-then-not-take-clause-entry : goal.returns-then-not-take-clause-entry
returns-then-not-take-clause-entry g c =
    let f = c.args.forward.now in
    let low : level_code c.args.level < c.now-seen.result.code = omega (arith, above-by c.le.result c.now-seen.result.code c.level_tag.result.code c.le.ensures c.if-le.false, c.level_tag.ensures) in
    let at_is : c.lesser-target.result.code ≡ min c.now-seen.result.code (level_code (c.args.level + 1)) = c.lesser-target.ensures ∙ ap (λ n. min c.now-seen.result.code n) c.level_tag-2.ensures in
    let alive : Dead f.instance (triple_from c.lesser-target.result.code) f.pushed → ⊥ = λ dead. true≢false (sym (c.is_dead.ensures.1 dead) ∙ c.if-is_dead.false) in
    let taken : TakesTick c.args.fuel.now c.take.new.self false = subst (λ b. TakesTick c.args.fuel.now c.take.new.self b) c.if-not-take.true c.take.ensures in
    λ log. spent-found f.instance c.args.level f.pushed c.args.fuel.now (g.B.Bound.state c.args.bound.now) (g.B.Bound.state c.now-seen.new.self) (g.H.Shared.state c.args.shared.now) c.now-seen.result c.now-seen.ensures.tells log
    low c.lesser-target.result at_is c.partial.result.now (g.H.Shared.state c.lookup.new.self)
    (subst (λ o. LooksUp (g.H.Shared.state c.args.shared.now) (g.H.Shared.state c.lookup.new.self) c.partial.result.now c.lesser-target.result.code o) c.in_default.is c.lookup.ensures.looks)
    (λ a. (c.partial.ensures.given a).1) c.requires.valid c.requires.level alive c.requires.prefix c.take.new.self taken.0 taken.1

pub returns-clause-entry : goal.returns-clause-entry
returns-clause-entry g c =
    let f = c.args.forward.now in
    let low : level_code c.args.level < c.now-seen.result.code = omega (arith, above-by c.le.result c.now-seen.result.code c.level_tag.result.code c.le.ensures c.if-le.false, c.level_tag.ensures) in
    let at_is : c.lesser-target.result.code ≡ min c.now-seen.result.code (level_code (c.args.level + 1)) = c.lesser-target.ensures ∙ ap (λ n. min c.now-seen.result.code n) c.level_tag-2.ensures in
    let alive : Dead f.instance (triple_from c.lesser-target.result.code) f.pushed → ⊥ = λ dead. true≢false (sym (c.is_dead.ensures.1 dead) ∙ c.if-is_dead.false) in
    let taken : TakesTick c.args.fuel.now c.take.new.self true = subst (λ b. TakesTick c.args.fuel.now c.take.new.self b) c.if-not-take.false c.take.ensures in
    λ log. is-ticked f.instance c.args.level f.pushed c.args.fuel.now (g.B.Bound.state c.args.bound.now) (g.B.Bound.state c.now-seen.new.self) (g.H.Shared.state c.args.shared.now) c.now-seen.result c.now-seen.ensures.tells log
    low c.lesser-target.result at_is c.partial.result.now (g.H.Shared.state c.lookup.new.self)
    (subst (λ o. LooksUp (g.H.Shared.state c.args.shared.now) (g.H.Shared.state c.lookup.new.self) c.partial.result.now c.lesser-target.result.code o) c.in_default.is c.lookup.ensures.looks)
    (λ a. (c.partial.ensures.given a).1) c.requires.valid c.requires.level alive c.take.new.self taken

pub returns-in-Some-clause-copied : goal.returns-in-Some-clause-copied
returns-in-Some-clause-copied g c = λ cites held. copied-more (g.H.Shared.state c.args.shared.now).copied (g.H.Shared.state c.lookup.new.self).copied cites c.lookup.ensures.looks.kept held

pub returns-then-is_dead-clause-copied : goal.returns-then-is_dead-clause-copied
returns-then-is_dead-clause-copied g c = λ cites held. copied-more (g.H.Shared.state c.args.shared.now).copied (g.H.Shared.state c.lookup.new.self).copied cites c.lookup.ensures.looks.kept held

pub returns-then-not-take-clause-copied : goal.returns-then-not-take-clause-copied
returns-then-not-take-clause-copied g c = λ cites held. copied-more (g.H.Shared.state c.args.shared.now).copied (g.H.Shared.state c.lookup.new.self).copied cites c.lookup.ensures.looks.kept held

pub returns-clause-copied : goal.returns-clause-copied
returns-clause-copied g c = λ cites held. copied-more (g.H.Shared.state c.args.shared.now).copied (g.H.Shared.state c.lookup.new.self).copied cites c.lookup.ensures.looks.kept held
