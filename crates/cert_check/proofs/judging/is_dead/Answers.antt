use Rattle.std.proofs.Common.{◌≡◌, ◌&&◌, Bool, false, length, sym, ◌∙◌, ap, subst, arith}
use Rattle.std.specs.List.{list_any, range_with_len}
use Rattle.std.proofs.lemmas.Bool.{le-ltb}
use Rattle.fapp_model.specs.declared.triple.Triple.{Triple}
use Rattle.fapp_model.specs.search.Pairs.{Pair, limit_of}
use Rattle.fapp_model.specs.Tags.{has_limit, triple_from}
use Rattle.cert_lines.specs.acceptance.Judged.{is_pair_at_most, judged_dead}
use Rattle.cert_check.specs.Weighed.{IsOwn, IsWeighed, far_stuck, stuck_by}
use Rattle.cert_check.specs.Scenes.{excluded_by}
use Rattle.cert_check.proofs.Deciding.{by-clash, by-excluded, by-stuck, by-near, by-over, by-far, whole-pair}
use Rattle.cert_check.proofs.LineParts.{if_ok}
use Rattle.cert_check.proofs.judging.is_dead.Goals as goal

pub returns-in_default : goal.returns-in_default
returns-in_default c =
    let own = subst (IsOwn c.args.scene.instance.now c.args.scene.level c.args.literals.now) c.in_default.is c.in_ok-own.ensures in
    by-clash c.args.scene c.args.literals.now c.requires.level own

pub returns-then-any_excluded : goal.returns-then-any_excluded
returns-then-any_excluded c =
    by-excluded c.args.scene c.args.literals.now c.requires.level (sym c.any_excluded.ensures ∙ c.if-any_excluded.true)

pub returns-then-triple_of-eq0 : goal.returns-then-triple_of-eq0
returns-then-triple_of-eq0 c =
    let scene = c.args.scene in
    let literals = c.args.literals.now in
    let own = subst (IsOwn scene.instance.now scene.level literals) c.in-Some.is c.in_ok-own.ensures in
    let none : has_limit (triple_from scene.tag.code) ≡ false = le-ltb 0 (triple_from scene.tag.code).v (omega (arith, ap (λ (t : Triple). t.v) c.triple_of.ensures, c.if-triple_of-eq0.true)) in
    let same = by-stuck scene literals c.requires.level own.0 (sym c.any_excluded.ensures ∙ c.if-any_excluded.false) none in
    if_ok (λ (stuck : Bool). stuck ≡ list_any (stuck_by scene literals) (range_with_len 0 (length scene.instance.now.paths)))
    (λ (dead : Bool). dead ≡ judged_dead (excluded_by scene literals) scene.instance.now (triple_from scene.tag.code) literals) c.any_stuck.result
    (λ stuck e. e ∙ same) c.any_stuck.ensures

pub returns-in_default-2 : goal.returns-in_default-2
returns-in_default-2 c =
    let own = subst (IsOwn c.args.scene.instance.now c.args.scene.level c.args.literals.now) c.in-Some.is c.in_ok-own.ensures in
    let weighed = subst (IsWeighed c.args.scene c.args.literals.now c.as_slice-2.result.now) c.in_default-2.is c.in_ok-more.ensures in
    by-near c.args.scene c.args.literals.now c.requires.level own.0 (sym c.any_excluded.ensures ∙ c.if-any_excluded.false) c.as_slice-2.result.now weighed

pub returns-then-is_over : goal.returns-then-is_over
returns-then-is_over c =
    let scene = c.args.scene in
    let literals = c.args.literals.now in
    let own = subst (IsOwn scene.instance.now scene.level literals) c.in-Some.is c.in_ok-own.ensures in
    let weighed = subst (IsWeighed scene literals c.as_slice-2.result.now) c.in-Some-2.is c.in_ok-more.ensures in
    let pair = whole-pair scene literals c.in-Some.own c.in-Some-2.more own.1 own.2 weighed.1 weighed.2 in
    let over = ap (λ (p : Pair). has_limit (triple_from scene.tag.code) && is_pair_at_most (limit_of (triple_from scene.tag.code)) p) pair in
    by-over scene literals c.requires.level own.0 (sym c.any_excluded.ensures ∙ c.if-any_excluded.false) c.as_slice-2.result.now weighed.0 (sym over ∙ (sym c.is_over.ensures ∙ c.if-is_over.true))

pub returns : goal.returns
returns c =
    let scene = c.args.scene in
    let literals = c.args.literals.now in
    let own = subst (IsOwn scene.instance.now scene.level literals) c.in-Some.is c.in_ok-own.ensures in
    let weighed = subst (IsWeighed scene literals c.as_slice-2.result.now) c.in-Some-2.is c.in_ok-more.ensures in
    let pair = whole-pair scene literals c.in-Some.own c.in-Some-2.more own.1 own.2 weighed.1 weighed.2 in
    let over = ap (λ (p : Pair). has_limit (triple_from scene.tag.code) && is_pair_at_most (limit_of (triple_from scene.tag.code)) p) pair in
    let same = c.as_slice-3.ensures.value ∙ sym c.as_slice-2.ensures.value in
    c.far_stuck.ensures ∙ (ap (λ near. far_stuck scene literals near) same
    ∙ by-far scene literals c.requires.level own.0 (sym c.any_excluded.ensures ∙ c.if-any_excluded.false) c.as_slice-2.result.now weighed.0 (sym over ∙ (sym c.is_over.ensures ∙ c.if-is_over.false)))
