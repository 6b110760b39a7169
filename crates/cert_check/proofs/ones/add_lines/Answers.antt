use Rattle.std.proofs.Common.{◌≡◌, ℕ, ◌<◌, cond, List, [], ◌∷◌, ◌++◌, length, filter, ap, sym, ◌∙◌, arith}
use Rattle.std.specs.List.{range_with_len}
use Rattle.std.proofs.lemmas.List.{get_or_default}
use Rattle.fapp_model.specs.declared.literal.Literal.{Literal}
use Rattle.cert_lines.specs.declared.answer.Line.{Line}
use Rattle.cert_lines.specs.acceptance.Excluded.{no_line}
use Rattle.cert_check.specs.Marked.{line_on}
use Rattle.cert_check.specs.Ones.{is_one_of, ones_by_path}
use Rattle.cert_check.proofs.TableLemmas.{filter_range}
use Rattle.cert_check.proofs.ones.add_lines.Goals as goal

pub loop-place-preserved : goal.loop-place-preserved
loop-place-preserved c =
    let lines = c.args.lines.now in
    let place = c.loop-place.place in
    let small : place < length lines = omega arith in
    let own = get_or_default lines place c.index-lines-place.result no_line small in
    let literals = c.as_slice.ensures ∙ ap (λ (line : Line). line.lits) own in
    let added = c.in_ok-add_line.ensures in
    record {
      whole = added.whole ∙ c.loop-place.invariant.whole;
      rows = λ path. added.rows path ∙ (ap (λ (row : List ℕ). row ++ cond (is_one_of path c.as_slice.result.now) (place ∷ []) []) (c.loop-place.invariant.rows path)
          ∙ (ap (λ (lits : List Literal). filter (λ k. is_one_of path (line_on lines k).lits) (range_with_len 0 place) ++ cond (is_one_of path lits) (place ∷ []) []) literals
          ∙ sym (filter_range (λ k. is_one_of path (line_on lines k).lits) place)));
    }

pub returns : goal.returns
unfolding ones_by_path
returns c =
    let lines = c.args.lines.now in
    let all : c.loop-place.place ≡ length lines = omega arith in
    record {
      whole = c.loop-place.invariant.whole;
      each = λ path. c.loop-place.invariant.rows path ∙ ap (λ (n : ℕ). filter (λ k. is_one_of path (line_on lines k).lits) (range_with_len 0 n)) all;
    }
