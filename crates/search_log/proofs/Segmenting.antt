-- Good logs and their segments: with more rows, one more line, one more segment, and without the last lines.
use Rattle.std.proofs.Common.{ℕ, ◌+◌, ◌<◌, ◌≤◌, List, [], ◌∷◌, ◌++◌, length, take, All, AllPairs, Contains, subst, arith, get_or}
use Rattle.std.proofs.lemmas.Option.{slice_get_within}
use Rattle.std.proofs.lemmas.List.Elements.{All-contains, All-cons, All-head, All-nil, All-push, Contains-get_or}
use Rattle.std.proofs.lemmas.List.Quantifiers.{all_pairs_push}
use Rattle.fapp_model.specs.declared.instance.Instance.{Instance}
use Rattle.fapp_model.proofs.InOrder.{pairs-head, pairs-tail}
use Rattle.fapp_model.proofs.Members.{All-from_members}
use Rattle.search_log.specs.declared.line.ChoiceRef.{ChoiceRef}
use Rattle.search_log.specs.declared.line.LogLine.{LogLine}
use Rattle.search_log.specs.declared.line.Segment.{Segment}
use Rattle.search_log.specs.Contents.{Cites, KnownRow, content_of, known_row}
use Rattle.search_log.specs.GoodLines.{IsGoodLine}
use Rattle.search_log.specs.LogLaws.{IsPublishedEnd}
use Rattle.search_log.specs.Segments.{CitesLowerRows, EndsAsRow, IsGoodLog, ended}
use Rattle.search_log.proofs.MoreLines.{lines-cut, lines-more, lines-push}
use Rattle.search_log.proofs.ByPlace.{get-append, get-front, get-take, take-get, zip-left}

abbrev pub Follows : Segment → Segment → Type 0
Follows s t = (s.last < t.last) × (s.row < t.row)

-- each segment ends before the end of the last one
pub ends-before : (segments : List Segment) → AllPairs Follows segments → All (λ s. s.last < ended segments) segments
ends-before [] h = All-nil (λ (s : Segment). s.last < 0)
ends-before (s ∷ []) h = All-cons (λ (u : Segment). u.last < s.last + 1) s [] (omega arith) (All-nil (λ (u : Segment). u.last < s.last + 1))
ends-before (s ∷ t ∷ more) h =
    let rest = ends-before (t ∷ more) (pairs-tail Follows s (t ∷ more) h) in
    let next = All-head (Follows s) t more (pairs-head Follows s (t ∷ more) h) in
    let last = All-head (λ (u : Segment). u.last < ended (t ∷ more)) t more rest in
    All-cons (λ (u : Segment). u.last < ended (t ∷ more)) s (t ∷ more) (omega (arith, next.0, last)) rest

-- what is said of each segment, from what was
each-more : (P Q : Segment → Type 0) (segments : List Segment) → ((s : Segment) → Contains segments s → P s → Q s) → All P segments → All Q segments
each-more P Q segments f h = All-from_members Q segments (λ s m. f s m (All-contains P segments s h m))

ends-more : (rows more : List KnownRow) (lines : List LogLine) (s : Segment) → All (Contains more) rows → EndsAsRow rows lines s → EndsAsRow more lines s
ends-more rows more lines s has h = record { line = h.line; last = h.last; row = All-contains (Contains more) rows (known_row s.row (content_of h.line)) has h.row }

pub log-more : (instance : Instance) (rows more : List KnownRow) (lines : List LogLine) (segments : List Segment) → All (Contains more) rows → IsGoodLog instance rows lines segments → IsGoodLog instance more lines segments
log-more instance rows more lines segments has h = record {
  good_lines = lines-more instance rows more lines has h.good_lines;
  in_order = record {
    ends = each-more (EndsAsRow rows lines) (EndsAsRow more lines) segments (λ s m. ends-more rows more lines s has) h.in_order.ends;
    ascending = h.in_order.ascending;
    lower = h.in_order.lower;
  };
}

pub log-push : (instance : Instance) (rows : List KnownRow) (lines : List LogLine) (segments : List Segment) (line : LogLine) → IsGoodLog instance rows lines segments → IsGoodLine instance rows lines line → IsGoodLog instance rows (lines ++ line ∷ []) segments
log-push instance rows lines segments line h good = record {
  good_lines = lines-push instance rows lines line h.good_lines good;
  in_order = record {
    ends = each-more (EndsAsRow rows lines) (EndsAsRow rows (lines ++ line ∷ [])) segments
        (λ s m r. record { line = r.line; last = get-append lines (line ∷ []) s.last r.line r.last; row = r.row }) h.in_order.ends;
    ascending = h.in_order.ascending;
    lower = each-more (CitesLowerRows lines) (CitesLowerRows (lines ++ line ∷ [])) segments
        (λ s m low n other ref r most at.
        let own = All-contains (EndsAsRow rows lines) segments s h.in_order.ends m in
        let small = slice_get_within lines s.last own.line own.last in
        low n other ref r most (get-front lines (line ∷ []) n other (omega arith) at)) h.in_order.lower;
  };
}

pub log-cut : (instance : Instance) (rows : List KnownRow) (lines : List LogLine) (segments : List Segment) (n : ℕ) → ended segments ≤ n → IsGoodLog instance rows lines segments → IsGoodLog instance rows (take n lines) segments
log-cut instance rows lines segments n far h = record {
  good_lines = lines-cut instance rows lines n h.good_lines;
  in_order = record {
    ends = each-more (EndsAsRow rows lines) (EndsAsRow rows (take n lines)) segments
        (λ s m r.
        let small = All-contains (λ (u : Segment). u.last < ended segments) segments s (ends-before segments h.in_order.ascending) m in
        record { line = r.line; last = take-get lines n s.last r.line (omega arith) r.last; row = r.row }) h.in_order.ends;
    ascending = h.in_order.ascending;
    lower = each-more (CitesLowerRows lines) (CitesLowerRows (take n lines)) segments
        (λ s m low k other ref r most at. low k other ref r most (get-take lines n k other at).1) h.in_order.lower;
  };
}

module _ (instance : Instance) (rows more : List KnownRow) (lines : List LogLine) (segments : List Segment) (s : Segment) (h : IsGoodLog instance rows lines segments) (published : IsPublishedEnd rows more lines segments s) where
  -- the row of an earlier segment is below the new one
  row-below : (t : Segment) → Contains segments t → t.row < s.row
  row-below t m =
      let own = All-contains (EndsAsRow rows lines) segments t h.in_order.ends m in
      All-contains (λ (other : KnownRow). other.number < s.row) rows (known_row t.row (content_of own.line)) published.above own.row

  follows : (k : ℕ) (d : Segment) → k < length segments → Follows (get_or segments k d) s
  follows k d l =
      let t = get_or segments k d in
      let m = Contains-get_or segments k d l in
      let small = All-contains (λ (u : Segment). u.last < ended segments) segments (get_or segments k d) (ends-before segments h.in_order.ascending) m in
      (omega (arith, small, published.behind), row-below (get_or segments k d) m)

  -- whatever a line cites is a known row
  cites-lower : CitesLowerRows lines s
  cites-lower n line ref r most at listed is_row =
      let good = h.good_lines n line at in
      let beside = zip-left (λ (u : ChoiceRef) content. Cites rows (take n lines) u.line content) line.refs good.contents good.cites ref listed in
      let stands = subst (λ u. Cites rows (take n lines) u beside.0) is_row beside.2 in
      All-contains (λ (other : KnownRow). other.number < s.row) rows (known_row r beside.0) published.above stands

  pub log-home : IsGoodLog instance more lines (segments ++ s ∷ [])
  log-home = record {
    good_lines = lines-more instance rows more lines published.kept h.good_lines;
    in_order = record {
      ends = All-push (EndsAsRow more lines) segments s (each-more (EndsAsRow rows lines) (EndsAsRow more lines) segments (λ t m. ends-more rows more lines t published.kept) h.in_order.ends)
          (record { line = published.line; last = published.last; row = published.row });
      ascending = all_pairs_push Follows segments s h.in_order.ascending follows;
      lower = All-push (CitesLowerRows lines) segments s h.in_order.lower cites-lower;
    };
  }
