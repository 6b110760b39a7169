-- Segments sorted by row may follow one another, and after them every row is done.
use Rattle.std.proofs.Common.{◌≡◌, ◌⊎◌, ℕ, ◌+◌, ◌<◌, ◌≤◌, List, [], ◌∷◌, ap, sym, subst, ◌∙◌, inl, inr, arith, Some, AllPairs, Contains}
use Rattle.std.specs.List.{slice_get}
use Rattle.std.proofs.lemmas.Bool.{cases_lt}
use Rattle.std.proofs.lemmas.List.Elements.{All-contains}
use Rattle.fapp_model.specs.declared.instance.Instance.{Instance}
use Rattle.fapp_model.proofs.InOrder.{pairs-head, pairs-tail}
use Rattle.fapp_model.proofs.Members.{at_front, behind, front_or_behind, no_member}
use Rattle.search_log.specs.declared.line.LogLine.{LogLine}
use Rattle.search_log.specs.Contents.{KnownRow, content_of, known_row}
use Rattle.search_log.specs.declared.piece.Piece.{Piece}
use Rattle.search_log.specs.GoodLogs.{lines_of}
use Rattle.merge_laws.proofs.Beside.{same-some}
use Rattle.merge_laws.proofs.LogFacts.{AreLogFacts, IsHomeIn, Rises}
use Rattle.merge_laws.proofs.Staged.{IsDoneRow}
use Rattle.merge_laws.proofs.StageSteps.{CitesDone}
use Rattle.merge_laws.proofs.Stretches.{AreInOrder, MayFollow, pooled_at_end}

module _ (instance : Instance) (rows : List KnownRow) (logs : List (List LogLine)) (placed : List ℕ) (pieces : List Piece) (facts : AreLogFacts instance rows logs placed pieces) where
  -- what the segments still to come have
  record AreToCome (pooled : ℕ) (rest : List Piece) : Type 0 where
    pub listed : (q : Piece) → Contains rest q → Contains pieces q
    pub home : (row : KnownRow) → Contains rows row → pooled ≤ row.number → IsHomeIn logs rest row ⊎ Contains placed row.number
    pub high : (q : Piece) → Contains rest q → pooled ≤ q.row

  module _ (pooled : ℕ) (p : Piece) (ps : List Piece) (later : (q : Piece) → Contains ps q → p.row < q.row) (come : AreToCome pooled (p ∷ ps)) where
    here : Contains (p ∷ ps) p
    here = at_front p ps

    -- no row up to p's but its own is still to come
    first : (row : KnownRow) (h : IsHomeIn logs (p ∷ ps) row) → (p ≡ h.piece) ⊎ (p.row < row.number)
    first row h = elim (front_or_behind p ps h.piece h.member) [
      | inl same ↦ inl same
      | inr behind_it ↦ inr (let less = later h.piece behind_it in let e = ap (λ (r : KnownRow). r.number) h.is in omega arith)
    ]

    cites-below : (n : ℕ) (other : LogLine) → n ≤ p.last → slice_get (lines_of logs p.log) n ≡ Some other → CitesDone placed pooled other
    cites-below n other small at ref r m e =
        let found = facts.cited p.log n other ref r at m e in
        let less = facts.below p n other ref r (come.listed p here) small at m e in
        let number = found.2 in
        elim (cases_lt r pooled) [
          | inl below ↦ inl below
          | inr above ↦ elim (come.home found.0 found.1 (let e = found.2 in omega arith)) [
            | inl h ↦ absurd (elim (first found.0 h) [
              | inl same ↦ (let e = found.2 in let row_is = ap (λ (x : KnownRow). x.number) h.is in let q = ap (λ (x : Piece). x.row) same in omega arith)
              | inr more ↦ (let e = found.2 in omega arith)
            ])
            | inr said ↦ inr (subst (Contains placed) found.2 said)
          ]
        ]

    follows : MayFollow instance rows logs placed pooled p
    follows = let l = facts.last p (come.listed p here) in record {
      line = l.0;
      stands = l.1;
      apart = facts.apart p (come.listed p here);
      high = come.high p here;
      only = λ row m low small. elim (come.home row m low) [
        | inl h ↦ elim (first row h) [
          | inl same ↦ inl (own row h l.0 l.1 same)
          | inr more ↦ absurd (omega arith)
        ]
        | inr said ↦ inr said
      ];
      ready = λ n other small at. record { good = facts.good p.log n other at; bare = facts.bare p.log n other at; below = cites-below n other small at };
    }
      where
        own : (row : KnownRow) (h : IsHomeIn logs (p ∷ ps) row) (line : LogLine) → slice_get (lines_of logs p.log) p.last ≡ Some line → p ≡ h.piece → row ≡ known_row p.row (content_of line)
        own row h line at same =
            let there = subst (λ (q : Piece). slice_get (lines_of logs q.log) q.last ≡ Some h.line) (sym same) h.last in
            h.is ∙ ap (λ (q : Piece). known_row q.row (content_of h.line)) (sym same) ∙ ap (λ (x : LogLine). known_row p.row (content_of x)) (same-some h.line line (slice_get (lines_of logs p.log) p.last) there at)

    goes-on : AreToCome (p.row + 1) ps
    goes-on = record {
      listed = λ q m. come.listed q (behind p ps q m);
      home = still;
      high = λ q m. let less = later q m in omega arith;
    }
      where
        still : (row : KnownRow) → Contains rows row → p.row + 1 ≤ row.number → IsHomeIn logs ps row ⊎ Contains placed row.number
        still row m above =
            let high = come.high p here in
            elim (come.home row m (omega arith)) [
              | inl h ↦ elim (front_or_behind p ps h.piece h.member) [
                | inl same ↦ absurd (let row_is = ap (λ (x : KnownRow). x.number) h.is in let q = ap (λ (x : Piece). x.row) same in omega arith)
                | inr there ↦ inl (record { piece = h.piece; member = there; line = h.line; last = h.last; is = h.is })
              ]
              | inr said ↦ inr said
            ]

  rises-from : (p : Piece) (ps : List Piece) → AllPairs Rises (p ∷ ps) → (q : Piece) → Contains ps q → p.row < q.row
  rises-from p ps rising q m = All-contains (Rises p) ps q (pairs-head Rises p ps rising) m

  in-order : (rest : List Piece) (pooled : ℕ) → AllPairs Rises rest → AreToCome pooled rest → AreInOrder instance rows logs placed pooled rest
  in-order [] pooled rising come = tt
  in-order (p ∷ ps) pooled rising come =
      (follows pooled p ps (rises-from p ps rising) come, in-order ps (p.row + 1) (pairs-tail Rises p ps rising) (goes-on pooled p ps (rises-from p ps rising) come))

  pub sorted-in-order : AreInOrder instance rows logs placed 0 pieces
  sorted-in-order = in-order pieces 0 facts.rising (record { listed = λ q m. m; home = λ row m low. facts.home row m; high = λ q m. omega arith })

  at-least : (rest : List Piece) (n : ℕ) → AllPairs Rises rest → ((q : Piece) → Contains rest q → n ≤ q.row) → n ≤ pooled_at_end n rest
  at-least [] n rising low = omega arith
  at-least (p ∷ ps) n rising low =
      let rest = at-least ps (p.row + 1) (pairs-tail Rises p ps rising) (λ q m. let less = rises-from p ps rising q m in omega arith) in
      let here = low p (at_front p ps) in omega arith

  above : (rest : List Piece) (n : ℕ) → AllPairs Rises rest → (q : Piece) → Contains rest q → q.row < pooled_at_end n rest
  above [] n rising q m = absurd (no_member q m)
  above (p ∷ ps) n rising q m = elim (front_or_behind p ps q m) [
    | inl same ↦ (let rest = at-least ps (p.row + 1) (pairs-tail Rises p ps rising) (λ r k. let less = rises-from p ps rising r k in omega arith) in let e = ap (λ (x : Piece). x.row) same in omega arith)
    | inr later ↦ above ps (p.row + 1) (pairs-tail Rises p ps rising) q later
  ]

  -- after the segments every row is done
  pub all-done : (row : KnownRow) → Contains rows row → IsDoneRow placed (pooled_at_end 0 pieces) row.number
  all-done row m = elim (facts.home row m) [
    | inl h ↦ inl (let less = above pieces 0 facts.rising h.piece h.member in let e = ap (λ (r : KnownRow). r.number) h.is in omega arith)
    | inr said ↦ inr said
  ]
