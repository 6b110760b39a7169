use Rattle.std.proofs.Common.{◌≡◌, ℕ, ◌<◌, List, length, slice_index_or, sym, ap, ◌∙◌, arith}
use Rattle.std.proofs.lemmas.List.{get_or_default}
use Rattle.fapp_model.specs.Assignments.{path_at, no_path}
use Rattle.fapp_model.specs.declared.instance.Instance.{Instance}
use Rattle.fapp_model.specs.declared.instance.Path.{Path}
use Rattle.cert_lines.specs.acceptance.PlanFaults.{is_offered, shown_at}
use Rattle.cert_check.proofs.OneMoreNumber.{all_range_step, fails_at_range}
use Rattle.cert_check.proofs.plan.all_offered.Goals as goal

own_path : (instance : Instance) (slice : List Path) (position : ℕ) (path : Path) → slice ≡ instance.paths → path ≡ slice_index_or slice position path → position < length slice → path ≡ path_at instance position
own_path instance slice position path same found small = found ∙ (get_or_default slice position path no_path small ∙ ap (λ (ps : List Path). slice_index_or ps position no_path) same)

pub returns-then-not-is_offered : goal.returns-then-not-is_offered
returns-then-not-is_offered c =
    let instance = c.args.instance.now in
    let position = c.loop-position.position in
    let small : position < length c.as_slice.result.now = omega (arith, ap (λ (ps : List Path). length ps) c.as_slice.ensures, c.requires.whole) in
    let inside : position < length instance.paths = omega (arith, c.requires.whole) in
    let own = own_path instance c.as_slice.result.now position c.index-as_slice-position.result c.as_slice.ensures c.index-as_slice-position.is small in
    let test = c.is_offered.ensures ∙ ap (λ (p : Path). is_offered p (shown_at c.args.shown.now position)) own in
    sym (fails_at_range (λ (p : ℕ). is_offered (path_at instance p) (shown_at c.args.shown.now p)) (length instance.paths) position inside (sym test ∙ c.if-not-is_offered.true))

pub loop-position-preserved : goal.loop-position-preserved
loop-position-preserved c =
    let instance = c.args.instance.now in
    let position = c.loop-position.position in
    let small : position < length c.as_slice.result.now = omega (arith, ap (λ (ps : List Path). length ps) c.as_slice.ensures, c.requires.whole) in
    let own = own_path instance c.as_slice.result.now position c.index-as_slice-position.result c.as_slice.ensures c.index-as_slice-position.is small in
    let test = c.is_offered.ensures ∙ ap (λ (p : Path). is_offered p (shown_at c.args.shown.now position)) own in
    all_range_step (λ (p : ℕ). is_offered (path_at instance p) (shown_at c.args.shown.now p)) position c.loop-position.invariant (sym test ∙ c.if-not-is_offered.false)
