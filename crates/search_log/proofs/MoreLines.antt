-- Good lines with more rows, with one more line, and without the last ones.
use Rattle.std.proofs.Common.{◌≡◌, ℕ, List, [], ◌∷◌, ◌++◌, length, take, All, Contains, sym, ap, subst, ◌∙◌, ⊎_elim, arith}
use Rattle.std.proofs.lemmas.List.Elements.{All-contains}
use Rattle.fapp_model.specs.declared.instance.Instance.{Instance}
use Rattle.search_log.specs.declared.line.ChoiceRef.{ChoiceRef}
use Rattle.search_log.specs.declared.line.LogLine.{LogLine}
use Rattle.search_log.specs.declared.line.Ref.{Ref}
use Rattle.search_log.specs.declared.line.Ref.TheVariants.{Own, Row}
use Rattle.search_log.specs.Contents.{Cites, Content, KnownRow, known_row}
use Rattle.search_log.specs.GoodLines.{AreGoodLines, IsGoodLine}
use Rattle.search_log.proofs.ByPlace.{front-or-last, get-front, get-take, last-is, take-fewer, take-front, take-whole, zip-weaker}

cites-more : (rows more : List KnownRow) (earlier : List LogLine) → All (Contains more) rows → (ref : Ref) (content : Content) → Cites rows earlier ref content → Cites more earlier ref content
cites-more rows more earlier has (Own n) content h = h
cites-more rows more earlier has (Row r) content h = All-contains (Contains more) rows (known_row r content) has h

line-more : (instance : Instance) (rows more : List KnownRow) (earlier : List LogLine) (line : LogLine) → All (Contains more) rows → IsGoodLine instance rows earlier line → IsGoodLine instance more earlier line
line-more instance rows more earlier line has h = record {
  tag = h.tag;
  lits = h.lits;
  refs = h.refs;
  contents = h.contents;
  cites = zip-weaker (λ (ref : ChoiceRef) content. Cites rows earlier ref.line content) (λ (ref : ChoiceRef) content. Cites more earlier ref.line content)
      (λ ref content. cites-more rows more earlier has ref.line content) line.refs h.contents h.cites;
  passes = h.passes;
}

pub lines-more : (instance : Instance) (rows more : List KnownRow) (lines : List LogLine) → All (Contains more) rows → AreGoodLines instance rows lines → AreGoodLines instance more lines
lines-more instance rows more lines has h n line e = line-more instance rows more (take n lines) line has (h n line e)

pub lines-push : (instance : Instance) (rows : List KnownRow) (lines : List LogLine) (line : LogLine) → AreGoodLines instance rows lines → IsGoodLine instance rows lines line → AreGoodLines instance rows (lines ++ line ∷ [])
lines-push instance rows lines line h good n other e = ⊎_elim
    (λ l. subst (λ earlier. IsGoodLine instance rows earlier other) (sym (take-front lines (line ∷ []) n (omega arith))) (h n other (get-front lines (line ∷ []) n other l e)))
    (λ l.
    let same : take n (lines ++ line ∷ []) ≡ lines = ap (λ m. take m (lines ++ line ∷ [])) l ∙ (take-front lines (line ∷ []) (length lines) (omega arith) ∙ take-whole lines) in
    subst (λ earlier. IsGoodLine instance rows earlier other) (sym same) (subst (λ x. IsGoodLine instance rows lines x) (last-is lines line other n l e) good))
    (front-or-last lines line n other e)

pub lines-cut : (instance : Instance) (rows : List KnownRow) (lines : List LogLine) (n : ℕ) → AreGoodLines instance rows lines → AreGoodLines instance rows (take n lines)
lines-cut instance rows lines n h k line e =
    let there = get-take lines n k line e in
    subst (λ earlier. IsGoodLine instance rows earlier line) (sym (take-fewer lines n k (omega (arith, there.0)))) (h k line there.1)
