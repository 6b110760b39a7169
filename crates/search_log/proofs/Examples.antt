-- The log of five lines.
use Rattle.std.proofs.Common.{◌≡◌, ◌⊎◌, ℕ, zero, suc, ◌<◌, ◌≤◌, Bool, true, false, ◌∙◌, List, [], ◌∷◌, length, All, Contains, IsTrue, Option, Some, refl, sym, ap, subst, inl, inr, ⊎_elim, arith}
use Rattle.std.specs.List.{AllZip, slice_get}
use Rattle.std.proofs.lemmas.Bool.{true≢false, false≢true}
use Rattle.std.proofs.lemmas.List.Elements.{All-from_recursion, All-contains, All-cons, All-nil}
use Rattle.fapp_model.specs.declared.literal.Literal.{Literal}
use Rattle.fapp_model.specs.Assignments.{count_at}
use Rattle.fapp_model.specs.Tags.{mode_level, triple_from}
use Rattle.fapp_model.specs.search.Arcs.{OutsideArc}
use Rattle.fapp_model.specs.search.Clashes.{clashes_with}
use Rattle.fapp_model.specs.search.Dead.{Dead, DeadBy, clash, no_choice_left}
use Rattle.fapp_model.specs.search.Partials.{AreLiterals, IsLiteral, IsPartial, literal}
use Rattle.fapp_model.proofs.InOrder.{pairs-cons, pairs-nil}
use Rattle.dead_laws.specs.ExampleInstances.{three_alike}
use Rattle.dead_laws.proofs.DeadTests.{dead_by-along}
use Rattle.dead_laws.proofs.ThreeAlike.{one-lives, at-three}
use Rattle.search_log.specs.declared.line.ChoiceRef.{ChoiceRef}
use Rattle.search_log.specs.declared.line.LogLine.{LogLine}
use Rattle.search_log.specs.declared.line.Ref.TheVariants.{Own, Row}
use Rattle.search_log.specs.Contents.{Cites, Content, KnownRow, content_of, known_row}
use Rattle.search_log.specs.ExampleLog.{ExampleLog, IsWrongLine, alike, bad_at_ten, both_choices, example_branch, by, example_count, first_choice, known_rows, least, least_line, log_with, none_left, published, says, segment}
use Rattle.cert_lines.specs.acceptance.Contained.{has_all, has_all_but_one}
use Rattle.search_log.specs.GoodLines.{AreGoodLines, IsChildOf, IsGoodLine, IsOutside, IsSettled}
use Rattle.search_log.specs.Segments.{CitesLowerRows, EndsAsRow, IsGoodLog}
use Rattle.fapp_model.specs.InstanceTags.{IsTagFor}
use Rattle.fapp_model.specs.Levels.{levels_of}
use Rattle.search_log.proofs.Implying.{lits-partial}
use Rattle.search_log.proofs.ByPlace.{zip-left}
use Rattle.search_log.proofs.Segmenting.{Follows}

-- ---- what is known of the rows and lines

abbrev Known : KnownRow → Type 0
Known row = ((row.number ≡ 5) → ⊥) × (row.number ≡ 2 → row.content.tag ≡ 45035996273704960) × (row.number ≡ 4 → row.content.lits ≡ literal 0 1 ∷ []) × (row.number ≡ 7 → row.content.lits ≡ literal 0 0 ∷ [])

each-known : All Known known_rows
each-known = All-from_recursion Known known_rows (
  ((λ e. omega arith), (λ e. refl), (λ e. absurd (omega arith)), (λ e. absurd (omega arith))),
  (
    ((λ e. omega arith), (λ e. absurd (omega arith)), (λ e. refl), (λ e. absurd (omega arith))),
    (
      ((λ e. omega arith), (λ e. absurd (omega arith)), (λ e. absurd (omega arith)), (λ e. refl)),
      (
        ((λ e. omega arith), (λ e. absurd (omega arith)), (λ e. absurd (omega arith)), (λ e. absurd (omega arith))),
        (((λ e. omega arith), (λ e. absurd (omega arith)), (λ e. absurd (omega arith)), (λ e. absurd (omega arith))), tt),
      ),
    ),
  ),
)

is-known : (number : ℕ) (content : Content) → Contains known_rows (known_row number content) → Known (known_row number content)
is-known number content m = All-contains Known known_rows (known_row number content) each-known m

two-choices : (path : ℕ) → path < 3 → count_at three_alike path ≡ 2
unfolding three_alike
two-choices zero l = refl
two-choices (suc zero) l = refl
two-choices (suc (suc zero)) l = refl
two-choices (suc (suc (suc path))) l = absurd (omega arith)

three-paths : length three_alike.paths ≡ 3
unfolding three_alike
three-paths = refl

abbrev Rises : Literal → Literal → Type 0
Rises a b = a.path < b.path

none-literals : AreLiterals three_alike []
none-literals = record { in_range = All-nil (IsLiteral three_alike); ascending = pairs-nil Rises }

one-literal : (path index : ℕ) → path < 3 → index < 2 → AreLiterals three_alike (literal path index ∷ [])
one-literal path index l m = record {
  in_range = All-cons (IsLiteral three_alike) (literal path index) [] (at-three path index l m) (All-nil (IsLiteral three_alike));
  ascending = pairs-cons Rises (literal path index) [] (All-nil (Rises (literal path index))) (pairs-nil Rises);
}

two-literals : AreLiterals three_alike (literal 0 0 ∷ literal 1 0 ∷ [])
two-literals = record {
  in_range = All-cons (IsLiteral three_alike) (literal 0 0) (literal 1 0 ∷ []) (at-three 0 0 (omega arith) (omega arith)) (one-literal 1 0 (omega arith) (omega arith)).in_range;
  ascending = pairs-cons Rises (literal 0 0) (literal 1 0 ∷ []) (All-cons (Rises (literal 0 0)) (literal 1 0) [] (omega arith) (All-nil (Rises (literal 0 0)))) (one-literal 1 0 (omega arith) (omega arith)).ascending;
}

-- ---- the five lines

ten-own : IsTagFor three_alike bad_at_ten
unfolding levels_of
ten-own = refl

least-own : IsTagFor three_alike least
unfolding levels_of
least-own = refl

abbrev Reaches : Content → Type 0
Reaches content = 49539595901075456 ≤ content.tag

alike-good : IsGoodLine three_alike known_rows [] alike
unfolding three_alike
alike-good = record {
  tag = ten-own;
  lits = two-literals;
  refs = tt;
  contents = [];
  cites = tt;
  passes = λ some. record {
    contained = All-nil _;
    reaches = All-nil Reaches;
    dead = clash (literal 0 0) (literal 1 0) (0, omega arith, refl) (1, omega arith, refl) refl;
  };
}

third-blocked : (index : ℕ) → index < count_at three_alike 2 → OutsideArc three_alike 10 (literal 2 index) ⊎ IsTrue (clashes_with three_alike 10 (literal 1 1 ∷ literal 0 0 ∷ []) (literal 2 index))
unfolding three_alike
third-blocked zero l = inr refl
third-blocked (suc zero) l = inr refl
third-blocked (suc (suc index)) l = absurd (omega arith)

unlike-dead : Dead three_alike (triple_from 49539595901075456) (literal 1 1 ∷ literal 0 0 ∷ [])
unfolding three_alike
unlike-dead = no_choice_left 2 (omega arith) refl third-blocked

second-settled : (choice : ℕ) → choice < count_at three_alike 1 → IsSettled three_alike 49539595901075456 (literal 0 0 ∷ []) 1 (by 0 (Own 0) ∷ []) choice
second-settled zero l = inl refl
second-settled (suc zero) l = inr unlike-dead
second-settled (suc (suc choice)) l = absurd (omega (arith, two-choices 1 (omega arith)))

abbrev InRange : ℕ → ChoiceRef → Type 0
InRange path r = r.choice < count_at three_alike path

abbrev Climbs : ChoiceRef → ChoiceRef → Type 0
Climbs a b = a.choice < b.choice

first-good : IsGoodLine three_alike known_rows (alike ∷ []) first_choice
first-good = record {
  tag = ten-own;
  lits = one-literal 0 0 (omega arith) (omega arith);
  refs = record {
    path_in_range = omega (arith, three-paths);
    in_range = All-cons (InRange 1) (by 0 (Own 0)) [] (omega (arith, two-choices 1 (omega arith))) (All-nil (InRange 1));
    ascending = pairs-cons Climbs (by 0 (Own 0)) [] (All-nil (Climbs (by 0 (Own 0)))) (pairs-nil Climbs);
  };
  contents = content_of alike ∷ [];
  cites = ((alike, refl, refl), tt);
  passes = λ some. record {
    apart = refl;
    contained = (refl, tt);
    reaches = All-cons Reaches (content_of alike) [] (omega arith) (All-nil Reaches);
    settled = second-settled;
  };
}

abbrev both_contents : List Content
both_contents = says bad_at_ten (literal 0 0 ∷ []) ∷ says bad_at_ten (literal 0 1 ∷ []) ∷ []

both-reach : All Reaches both_contents
both-reach = All-from_recursion Reaches both_contents (omega arith, (omega arith, tt))

first-ruled-out : (index : ℕ) → index < count_at three_alike 0 → IsOutside three_alike 49539595901075456 both_contents (literal 1 0 ∷ []) (literal 0 index) ⊎ IsTrue (clashes_with three_alike 10 (literal 1 0 ∷ []) (literal 0 index))
first-ruled-out zero l = inl (inr refl)
first-ruled-out (suc zero) l = inl (inr refl)
first-ruled-out (suc (suc index)) l = absurd (omega (arith, two-choices 0 (omega arith)))

abbrev Contained : Content → Type 0
Contained content = IsTrue (has_all_but_one (literal 1 0 ∷ []) content.lits)

none-good : IsGoodLine three_alike known_rows (alike ∷ first_choice ∷ []) none_left
none-good = record {
  tag = ten-own;
  lits = one-literal 1 0 (omega arith) (omega arith);
  refs = tt;
  contents = both_contents;
  cites = ((first_choice, refl, refl), ((1, omega arith, refl), tt));
  passes = λ some. record {
    contained = All-from_recursion Contained both_contents (refl, (refl, tt));
    reaches = both-reach;
    dead = no_choice_left 0 (omega (arith, three-paths)) refl first-ruled-out;
  };
}

first-settled : (choice : ℕ) → choice < count_at three_alike 0 → IsSettled three_alike 49539595901075456 [] 0 (by 0 (Row 7) ∷ by 1 (Row 4) ∷ []) choice
first-settled zero l = inl refl
first-settled (suc zero) l = inl refl
first-settled (suc (suc choice)) l = absurd (omega (arith, two-choices 0 (omega arith)))

both-good : IsGoodLine three_alike known_rows (alike ∷ first_choice ∷ none_left ∷ []) both_choices
both-good = record {
  tag = ten-own;
  lits = none-literals;
  refs = record {
    path_in_range = omega (arith, three-paths);
    in_range = All-from_recursion (InRange 0) (by 0 (Row 7) ∷ by 1 (Row 4) ∷ []) (omega (arith, two-choices 0 (omega arith)), (omega (arith, two-choices 0 (omega arith)), tt));
    ascending = pairs-cons Climbs (by 0 (Row 7)) (by 1 (Row 4) ∷ []) (All-cons (Climbs (by 0 (Row 7))) (by 1 (Row 4)) [] (omega arith) (All-nil (Climbs (by 0 (Row 7)))))
        (pairs-cons Climbs (by 1 (Row 4)) [] (All-nil (Climbs (by 1 (Row 4)))) (pairs-nil Climbs));
  };
  contents = both_contents;
  cites = ((2, omega arith, refl), ((1, omega arith, refl), tt));
  passes = λ some. record {
    apart = refl;
    contained = (refl, (refl, tt));
    reaches = both-reach;
    settled = first-settled;
  };
}

least-good : IsGoodLine three_alike known_rows (alike ∷ first_choice ∷ none_left ∷ both_choices ∷ []) least_line
least-good = record {
  tag = least-own;
  lits = one-literal 2 0 (omega arith) (omega arith);
  refs = record {
    path_in_range = omega (arith, three-paths);
    in_range = All-cons (InRange 0) (by 0 (Own 3)) [] (omega (arith, two-choices 0 (omega arith))) (All-nil (InRange 0));
    ascending = pairs-cons Climbs (by 0 (Own 3)) [] (All-nil (Climbs (by 0 (Own 3)))) (pairs-nil Climbs);
  };
  contents = content_of both_choices ∷ [];
  cites = ((both_choices, refl, refl), tt);
  passes = λ some. absurd (omega arith);
}

some-same : {X : Type 0} (x y : X) → ◌≡◌ {A = Option X} (Some x) (Some y) → x ≡ y
some-same x y e = cc

lines-good : AreGoodLines three_alike known_rows (log_with none_left)
lines-good zero line e = subst (IsGoodLine three_alike known_rows []) (some-same alike line e) alike-good
lines-good (suc zero) line e = subst (IsGoodLine three_alike known_rows (alike ∷ [])) (some-same first_choice line e) first-good
lines-good (suc (suc zero)) line e = subst (IsGoodLine three_alike known_rows (alike ∷ first_choice ∷ [])) (some-same none_left line e) none-good
lines-good (suc (suc (suc zero))) line e = subst (IsGoodLine three_alike known_rows (alike ∷ first_choice ∷ none_left ∷ [])) (some-same both_choices line e) both-good
lines-good (suc (suc (suc (suc zero)))) line e = subst (IsGoodLine three_alike known_rows (alike ∷ first_choice ∷ none_left ∷ both_choices ∷ [])) (some-same least_line line e) least-good
lines-good (suc (suc (suc (suc (suc n))))) line e = cc

-- ---- the segments

ends-good : All (EndsAsRow known_rows (log_with none_left)) published
ends-good = All-from_recursion (EndsAsRow known_rows (log_with none_left)) published (
  record { line = first_choice; last = refl; row = (2, omega arith, refl) },
  (record { line = both_choices; last = refl; row = (3, omega arith, refl) }, tt),
)

-- the rows that a line cites
abbrev CitesBelow : ℕ → LogLine → Type 0
CitesBelow bound line = All (λ (ref : ChoiceRef). (r : ℕ) → ref.line ≡ Row r → r < bound) line.refs

own-below : (bound choice n r : ℕ) → (by choice (Own n)).line ≡ Row r → r < bound
own-below bound choice n r e = cc

row-below : (bound choice n r : ℕ) → n < bound → (by choice (Row n)).line ≡ Row r → r < bound
row-below bound choice n r l e = let same : n ≡ r = cc in omega arith

below-by-place : (bound n : ℕ) (line : LogLine) → 7 < bound → n ≤ 3 → slice_get (log_with none_left) n ≡ Some line → CitesBelow bound line
below-by-place bound zero line l m e = subst (CitesBelow bound) (some-same alike line e) (All-nil _)
below-by-place bound (suc zero) line l m e = subst (CitesBelow bound) (some-same first_choice line e)
    (All-from_recursion (λ (ref : ChoiceRef). (r : ℕ) → ref.line ≡ Row r → r < bound) first_choice.refs (own-below bound 0 0, tt))
below-by-place bound (suc (suc zero)) line l m e = subst (CitesBelow bound) (some-same none_left line e)
    (All-from_recursion (λ (ref : ChoiceRef). (r : ℕ) → ref.line ≡ Row r → r < bound) none_left.refs (own-below bound 0 1, ((λ r. row-below bound 0 4 r (omega arith)), tt)))
below-by-place bound (suc (suc (suc zero))) line l m e = subst (CitesBelow bound) (some-same both_choices line e)
    (All-from_recursion (λ (ref : ChoiceRef). (r : ℕ) → ref.line ≡ Row r → r < bound) both_choices.refs ((λ r. row-below bound 0 7 r (omega arith)), ((λ r. row-below bound 1 4 r (omega arith)), tt)))
below-by-place bound (suc (suc (suc (suc n)))) line l m e = absurd (omega arith)

first-below : (n : ℕ) (line : LogLine) → n ≤ 1 → slice_get (log_with none_left) n ≡ Some line → CitesBelow 7 line
first-below zero line m e = subst (CitesBelow 7) (some-same alike line e) (All-nil _)
first-below (suc zero) line m e = subst (CitesBelow 7) (some-same first_choice line e)
    (All-from_recursion (λ (ref : ChoiceRef). (r : ℕ) → ref.line ≡ Row r → r < 7) first_choice.refs (own-below 7 0 0, tt))
first-below (suc (suc n)) line m e = absurd (omega arith)

lower-good : All (CitesLowerRows (log_with none_left)) published
lower-good = All-from_recursion (CitesLowerRows (log_with none_left)) published (
  (λ n line ref r m e listed is. All-contains (λ (ref : ChoiceRef). (r : ℕ) → ref.line ≡ Row r → r < 7) line.refs ref (first-below n line m e) listed r is),
  ((λ n line ref r m e listed is. All-contains (λ (ref : ChoiceRef). (r : ℕ) → ref.line ≡ Row r → r < 9) line.refs ref (below-by-place 9 n line (omega arith) m e) listed r is), tt),
)

log-good : IsGoodLog three_alike known_rows (log_with none_left) published
log-good = record {
  good_lines = lines-good;
  in_order = record {
    ends = ends-good;
    ascending = pairs-cons Follows (segment 1 7) (segment 3 9 ∷ []) (All-cons (Follows (segment 1 7)) (segment 3 9) [] (omega arith, omega arith) (All-nil (Follows (segment 1 7))))
        (pairs-cons Follows (segment 3 9) [] (All-nil (Follows (segment 3 9))) (pairs-nil Follows));
    lower = lower-good;
  };
}

-- ---- each way not to be good

abbrev Third : LogLine → Type 0
Third line = IsGoodLine three_alike known_rows (alike ∷ first_choice ∷ []) line

wrong-third : (line : LogLine) → (Third line → ⊥) → IsWrongLine line
wrong-third line wrong h = wrong (h.good_lines 2 line refl)

-- what a reference of the third line names
named : (line : LogLine) (good : Third line) (ref : ChoiceRef) → Contains line.refs ref → (content : Content) × Contains good.contents content × Cites known_rows (alike ∷ first_choice ∷ []) ref.line content
named line good ref m = zip-left (λ (u : ChoiceRef) content. Cites known_rows (alike ∷ first_choice ∷ []) u.line content) line.refs good.contents good.cites ref m

no-such-choice : Third (example_count (literal 0 2 ∷ []) []) → ⊥
no-such-choice h = let own = h.lits.in_range 0 (literal 0 2) (omega arith) in omega (arith, own.choice, two-choices 0 (omega arith))

literals-out-of-order : Third (example_count (literal 1 0 ∷ literal 0 0 ∷ []) []) → ⊥
literals-out-of-order h = let up = h.lits.ascending 0 1 (literal 0 0) (omega arith) (omega arith) in omega arith

no-such-child : Third (example_branch (literal 0 0 ∷ []) 1 (by 0 (Own 0) ∷ by 2 (Row 7) ∷ [])) → ⊥
no-such-child h = let small = h.refs.in_range 1 (by 2 (Row 7)) (omega arith) in omega (arith, two-choices 1 (omega arith))

no-such-path : Third (example_branch [] 3 []) → ⊥
no-such-path h = omega (arith, h.refs.path_in_range, three-paths)

children-out-of-order : Third (example_branch [] 0 (by 1 (Row 4) ∷ by 0 (Own 1) ∷ [])) → ⊥
children-out-of-order h = let up = h.refs.ascending 0 1 (by 0 (Own 1)) (omega arith) (omega arith) in omega arith

cites-itself : Third (example_count (literal 1 0 ∷ []) (by 0 (Own 2) ∷ [])) → ⊥
cites-itself h = let n = named (example_count (literal 1 0 ∷ []) (by 0 (Own 2) ∷ [])) h (by 0 (Own 2)) (0, omega arith, refl) in let none = n.2.1 in cc

cites-unknown : Third (example_count (literal 1 0 ∷ []) (by 0 (Row 5) ∷ [])) → ⊥
cites-unknown h = let n = named (example_count (literal 1 0 ∷ []) (by 0 (Row 5) ∷ [])) h (by 0 (Row 5)) (0, omega arith, refl) in (is-known 5 n.0 n.2).0 refl

same-lits : (ls ms : List Literal) (test : List Literal → Bool) → ls ≡ ms → test ms ≡ false → test ls ≡ true → ⊥
same-lits ls ms test e fails passes = true≢false (sym passes ∙ (ap test e ∙ fails))

two-outside : Third (example_count (literal 2 0 ∷ []) (by 0 (Own 0) ∷ by 0 (Row 7) ∷ by 0 (Row 4) ∷ [])) → ⊥
two-outside h =
    let n = named (example_count (literal 2 0 ∷ []) (by 0 (Own 0) ∷ by 0 (Row 7) ∷ by 0 (Row 4) ∷ [])) h (by 0 (Own 0)) (0, omega arith, refl) in
    let is : n.2.0 ≡ alike = sym (some-same alike n.2.0 n.2.1) in
    let lits : n.0.lits ≡ alike.lits = ap (λ (c : Content). c.lits) n.2.2 ∙ ap (λ (l : LogLine). l.lits) is in
    let test = All-contains (λ (c : Content). IsTrue (has_all_but_one (literal 2 0 ∷ []) c.lits)) h.contents n.0 (h.passes (omega arith)).contained n.1 in
    same-lits n.0.lits alike.lits (has_all_but_one (literal 2 0 ∷ [])) lits refl test

outside-named : Third (example_count (literal 0 1 ∷ literal 1 1 ∷ []) (by 0 (Row 7) ∷ [])) → ⊥
outside-named h =
    let n = named (example_count (literal 0 1 ∷ literal 1 1 ∷ []) (by 0 (Row 7) ∷ [])) h (by 0 (Row 7)) (0, omega arith, refl) in
    let test = All-contains (λ (c : Content). IsTrue (has_all_but_one (literal 0 1 ∷ literal 1 1 ∷ []) c.lits)) h.contents n.0 (h.passes (omega arith)).contained n.1 in
    same-lits n.0.lits (literal 0 0 ∷ []) (has_all_but_one (literal 0 1 ∷ literal 1 1 ∷ [])) ((is-known 7 n.0 n.2).3 refl) refl test

another-choice : Third (example_branch [] 0 (by 0 (Row 4) ∷ by 1 (Row 4) ∷ [])) → ⊥
another-choice h = by-contents h.contents h.cites (h.passes (omega arith)).contained
  where
    by-contents : (contents : List Content) → AllZip (λ (u : ChoiceRef) content. Cites known_rows (alike ∷ first_choice ∷ []) u.line content) (by 0 (Row 4) ∷ by 1 (Row 4) ∷ []) contents →
        AllZip (IsChildOf 0 []) (by 0 (Row 4) ∷ by 1 (Row 4) ∷ []) contents → ⊥
    by-contents [] cites kept = cites
    by-contents (c ∷ more) cites kept = same-lits c.lits (literal 0 1 ∷ []) (has_all (literal 0 0 ∷ [])) ((is-known 4 c cites.0).2 refl) refl kept.0

tag-too-low : Third (example_count (literal 1 0 ∷ []) (by 0 (Own 1) ∷ by 0 (Row 2) ∷ [])) → ⊥
tag-too-low h =
    let n = named (example_count (literal 1 0 ∷ []) (by 0 (Own 1) ∷ by 0 (Row 2) ∷ [])) h (by 0 (Row 2)) (1, omega arith, refl) in
    let high = All-contains Reaches h.contents n.0 (h.passes (omega arith)).reaches n.1 in
    omega (arith, high, (is-known 2 n.0 n.2).1 refl)

path-named : Third (example_branch (literal 0 0 ∷ []) 0 (by 0 (Own 1) ∷ by 1 (Row 4) ∷ [])) → ⊥
path-named h = true≢false (h.passes (omega arith)).apart

abbrev Nothing : Literal → Type 0
Nothing a = IsOutside three_alike 49539595901075456 [] (literal 0 0 ∷ []) a

one-partial : IsPartial three_alike (literal 0 0 ∷ [])
one-partial = lits-partial three_alike (literal 0 0 ∷ []) (one-literal 0 0 (omega arith) (omega arith))

not-dead : (contents : List Content) → AllZip (λ (u : ChoiceRef) content. Cites known_rows (alike ∷ first_choice ∷ []) u.line content) [] contents → DeadBy (IsOutside three_alike 49539595901075456 contents (literal 0 0 ∷ [])) three_alike (triple_from 49539595901075456) (literal 0 0 ∷ []) → ⊥
not-dead (c ∷ more) cites dead = cites
not-dead [] cites dead = one-lives (dead_by-along three_alike Nothing (OutsideArc three_alike (mode_level (triple_from 49539595901075456)))
    (λ a own. ((λ out. ⊎_elim (λ gone. gone) (λ ruled. absurd (false≢true ruled)) out), (λ gone. inl gone)))
    (triple_from 49539595901075456) (literal 0 0 ∷ []) one-partial dead)

count-not-dead : Third (example_count (literal 0 0 ∷ []) []) → ⊥
count-not-dead h = not-dead h.contents h.cites (h.passes (omega arith)).dead

not-settled : Third (example_branch [] 0 (by 1 (Row 4) ∷ [])) → ⊥
not-settled h = ⊎_elim (λ listed. false≢true listed) (λ dead. one-lives dead) ((h.passes (omega arith)).settled 0 (omega (arith, two-choices 0 (omega arith))))

-- segments
last-not-row : IsGoodLog three_alike known_rows (log_with none_left) (segment 0 7 ∷ []) → ⊥
last-not-row h =
    let own = h.in_order.ends 0 (segment 0 7) (omega arith) in
    let is : alike ≡ own.line = some-same alike own.line own.last in
    let lits : own.line.lits ≡ literal 0 0 ∷ [] = (is-known 7 (content_of own.line) own.row).3 refl in
    let two : alike.lits ≡ literal 0 0 ∷ [] = ap (λ (l : LogLine). l.lits) is ∙ lits in
    cc

row-too-low : IsGoodLog three_alike known_rows (log_with none_left) (segment 3 3 ∷ []) → ⊥
row-too-low h =
    let less = h.in_order.lower 0 (segment 3 3) (omega arith) 3 both_choices (by 0 (Row 7)) 7 (omega arith) refl (0, omega arith, refl) refl in
    omega arith

out-of-order : IsGoodLog three_alike known_rows (log_with none_left) (segment 3 9 ∷ segment 1 7 ∷ []) → ⊥
out-of-order h = let up = h.in_order.ascending 0 1 (segment 1 7) (omega arith) (omega arith) in omega (arith, up.0)

pub example-log : ExampleLog
example-log = record {
  good = log-good;
  no_such_choice = wrong-third (example_count (literal 0 2 ∷ []) []) no-such-choice;
  literals_out_of_order = wrong-third (example_count (literal 1 0 ∷ literal 0 0 ∷ []) []) literals-out-of-order;
  no_such_child = wrong-third (example_branch (literal 0 0 ∷ []) 1 (by 0 (Own 0) ∷ by 2 (Row 7) ∷ [])) no-such-child;
  no_such_path = wrong-third (example_branch [] 3 []) no-such-path;
  children_out_of_order = wrong-third (example_branch [] 0 (by 1 (Row 4) ∷ by 0 (Own 1) ∷ [])) children-out-of-order;
  cites_itself = wrong-third (example_count (literal 1 0 ∷ []) (by 0 (Own 2) ∷ [])) cites-itself;
  cites_an_unknown_row = wrong-third (example_count (literal 1 0 ∷ []) (by 0 (Row 5) ∷ [])) cites-unknown;
  two_literals_outside = wrong-third (example_count (literal 2 0 ∷ []) (by 0 (Own 0) ∷ by 0 (Row 7) ∷ by 0 (Row 4) ∷ [])) two-outside;
  outside_of_a_named_path = wrong-third (example_count (literal 0 1 ∷ literal 1 1 ∷ []) (by 0 (Row 7) ∷ [])) outside-named;
  child_of_another_choice = wrong-third (example_branch [] 0 (by 0 (Row 4) ∷ by 1 (Row 4) ∷ [])) another-choice;
  cited_tag_too_low = wrong-third (example_count (literal 1 0 ∷ []) (by 0 (Own 1) ∷ by 0 (Row 2) ∷ [])) tag-too-low;
  path_is_named = wrong-third (example_branch (literal 0 0 ∷ []) 0 (by 0 (Own 1) ∷ by 1 (Row 4) ∷ [])) path-named;
  count_not_dead = wrong-third (example_count (literal 0 0 ∷ []) []) count-not-dead;
  choice_not_settled = wrong-third (example_branch [] 0 (by 1 (Row 4) ∷ [])) not-settled;
  last_line_is_not_the_row = last-not-row;
  row_below_what_it_cites = row-too-low;
  segments_out_of_order = out-of-order;
}
