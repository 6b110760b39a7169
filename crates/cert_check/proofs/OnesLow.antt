-- The lines of one literal of a path have choices of that path.
use Rattle.std.proofs.Common.{◌≡◌, ℕ, ◌<◌, true, List, [], ◌∷◌, length, get_or, filter, subst, arith, All}
use Rattle.std.specs.List.{range_with_len}
use Rattle.std.proofs.lemmas.Bool.{eqb-true}
use Rattle.std.proofs.lemmas.List.Elements.{All-filter, filter_passes}
use Rattle.std.proofs.lemmas.List.FromFn.{length-range_with_len, get_or-range_with_len}
use Rattle.fapp_model.specs.declared.instance.Instance.{Instance}
use Rattle.fapp_model.specs.declared.literal.Literal.{Literal}
use Rattle.fapp_model.specs.Assignments.{count_at}
use Rattle.fapp_model.specs.search.Partials.{literal}
use Rattle.cert_lines.specs.declared.answer.Line.{Line}
use Rattle.cert_lines.specs.WellFormed.{IsLineOrDelete}
use Rattle.cert_lines.specs.acceptance.Excluded.{no_line}
use Rattle.cert_check.specs.Marked.{line_on}
use Rattle.cert_check.specs.Ones.{is_one_of, first_literal, ones_by_path, AreLow}
use Rattle.cert_check.proofs.LineParts.{entry-literals, line-literals}

has-one : (path : ℕ) (literals : List Literal) → is_one_of path literals ≡ true → 0 < length literals
has-one path [] h = absurd (cc)
has-one path (b ∷ more) h = omega arith

own-path : (path : ℕ) (literals : List Literal) → is_one_of path literals ≡ true → (first_literal literals).path ≡ path
own-path path [] h = absurd (cc)
own-path path (b ∷ []) h = eqb-true b.path path h
own-path path (b ∷ c ∷ more) h = absurd (cc)

pub ones-low : (instance : Instance) (lines : List Line) (path : ℕ) → All (IsLineOrDelete instance) lines → AreLow lines (count_at instance path) (ones_by_path lines path)
unfolding ones_by_path
ones-low instance lines path formed = record {
  within = inside;
  some = λ k d l. has-one path (line_on lines (get_or ones k d)).lits (passes k d l);
  low = λ k d l.
      let own = own-path path (line_on lines (get_or ones k d)).lits (passes k d l) in
      let line = formed (get_or ones k d) no_line (inside k d l) in
      let at_home = line-literals instance (line_on lines (get_or ones k d)).lits (entry-literals instance (line_on lines (get_or ones k d)) line) 0 (literal 0 0) (has-one path (line_on lines (get_or ones k d)).lits (passes k d l)) in
      subst (λ (p : ℕ). (first_literal (line_on lines (get_or ones k d)).lits).choice < count_at instance p) own at_home.choice;
}
  where
    ones : List ℕ
    ones = filter (λ k. is_one_of path (line_on lines k).lits) (range_with_len 0 (length lines))

    inside : All (λ k. k < length lines) (filter (λ k. is_one_of path (line_on lines k).lits) (range_with_len 0 (length lines)))
    inside = All-filter (λ k. is_one_of path (line_on lines k).lits) (λ k. k < length lines) (range_with_len 0 (length lines))
        (λ k d l. let small : k < length lines = omega (arith, length-range_with_len 0 (length lines)) in omega (arith, get_or-range_with_len 0 (length lines) k d small))

    passes : All (λ k. is_one_of path (line_on lines k).lits ≡ true) (filter (λ k. is_one_of path (line_on lines k).lits) (range_with_len 0 (length lines)))
    passes = filter_passes (λ k. is_one_of path (line_on lines k).lits) (range_with_len 0 (length lines))
