use Rattle.std.proofs.Common.{◌≡◌, ℕ, ◌<◌, length, ap, sym, ◌∙◌, fold, List, Option, None, slice_index_or, arith}
use Rattle.std.specs.List.{range_with_len}
use Rattle.std.proofs.lemmas.List.{get_or_default}
use Rattle.fapp_model.specs.Assignments.{no_path, count_at}
use Rattle.fapp_model.specs.Choices.{choices}
use Rattle.fapp_model.specs.search.Pairs.{Pair}
use Rattle.fapp_model.specs.declared.instance.Path.{Path}
use Rattle.cert_lines.specs.acceptance.Judged.{with_choice, least_pair}
use Rattle.cert_check.specs.Scenes.{excluded_by}
use Rattle.cert_check.proofs.OneMoreNumber.{fold_range}
use Rattle.cert_check.proofs.least.least.Goals as goal

pub loop-index-preserved : goal.loop-index-preserved
loop-index-preserved c =
    let step = with_choice (excluded_by c.args.scene c.args.literals.now) c.args.scene.instance.now c.args.scene.level c.args.literals.now c.args.path in
    record {
      pair = c.with_choice-found.ensures.pair ∙ (ap (λ (o : Option Pair). step o c.loop-index.index) c.loop-index.invariant.pair ∙ sym (fold_range step None c.loop-index.index));
      small = c.with_choice-found.ensures.small;
    }

pub returns-clause-pair : goal.returns-clause-pair
unfolding least_pair
returns-clause-pair c =
    let instance = c.args.scene.instance.now in
    let step = with_choice (excluded_by c.args.scene c.args.literals.now) instance c.args.scene.level c.args.literals.now c.args.path in
    let slice = c.as_slice.ensures in
    let small : c.args.path < length c.as_slice.result.now = omega (arith, ap (λ (ps : List Path). length ps) slice, c.requires.path) in
    let own = c.index-as_slice-path.is ∙ (get_or_default c.as_slice.result.now c.args.path c.index-as_slice-path.result no_path small ∙ ap (λ (ps : List Path). slice_index_or ps c.args.path no_path) slice) in
    let count : c.choice_count-count.result ≡ count_at instance c.args.path = c.choice_count-count.ensures.count ∙ ap (λ (p : Path). length (choices p)) own in
    let all : c.loop-index.index ≡ count_at instance c.args.path = omega (arith, count) in
    c.loop-index.invariant.pair ∙ ap (λ (n : ℕ). fold step None (range_with_len 0 n)) all
