-- Rows that say what old lines say.
use Rattle.std.proofs.Common.{◌≡◌, ◌≢◌, ◌⊎◌, ℕ, zero, suc, ◌+◌, ◌-◌, ◌<◌, ◌≤◌, List, [], ◌∷◌, ◌++◌, length, get_or, All, AllPairs, Contains, refl, sym, ap, ◌∙◌, subst, inl, inr, arith}
use Rattle.std.proofs.lemmas.Bool.{cases_lt}
use Rattle.std.proofs.lemmas.List.{get_or_append_left, get_or_default, get_or-append_right, length-append}
use Rattle.fapp_model.specs.declared.instance.Instance.{Instance}
use Rattle.fapp_model.specs.declared.literal.Literal.{Literal}
use Rattle.fapp_model.specs.Instances.{IsInstance}
use Rattle.fapp_model.specs.Tags.{IsTagOf, triple_from}
use Rattle.fapp_model.specs.search.Implied.{Implied}
use Rattle.fapp_model.specs.search.Partials.{AreLiterals}
use Rattle.cert_lines.specs.declared.answer.Line.{Line}
use Rattle.cert_lines.specs.WellFormed.{IsLineOrDelete, IsLine}
use Rattle.cert_lines.specs.acceptance.Excluded.{line_at, no_line}
use Rattle.accept_laws.specs.Lines.{AreGood, IsLineImplied}
use Rattle.accept_laws.proofs.GoodLines.{good-lines}
use Rattle.search_log.specs.Contents.{Content, KnownRow, known_row}
use Rattle.merge_laws.specs.Conditions.{AreOld}
use Rattle.merge_laws.specs.GoodLogs.{IsPlacedIn}
use Rattle.nogood.specs.declared.row.Row.{Row}
use Rattle.nogood_pool.specs.Pool.{IsPoolRow, content_of_row}
use Rattle.search_log.specs.NumberedRows.{numbered_from, numbered_rows}
use Rattle.search_log.specs.Shares.{row_content}
use Rattle.fapp_workers.specs.FirstRows.{ArePublishable}
use Rattle.after_rows.specs.Placing.{ArePaired, AreSaid, IsSaid, says}

-- what an old line says may be published
said-row : (instance : Instance) (old : List Line) (number : ℕ) (row : Row) → IsInstance instance → AreOld instance old → IsSaid old number row → IsPoolRow instance (content_of_row row)
said-row instance old number row valid are said =
    let stands = said.stands in
    let inside : number - 1 < length old = omega (arith, stands.low, stands.high) in
    let formed : IsLine instance (line_at old number) = are.formed (number - 1) no_line inside in
    let entries : All (IsLineOrDelete instance) old = λ k d l. inl (are.formed k d l) in
    let implied : IsLineImplied instance (line_at old number) = good-lines instance old valid entries are.good (number - 1) no_line inside in
    record {
      literals = subst (AreLiterals instance) stands.lits_are formed.lits;
      code = row.tag.of_tag;
      tag = subst (λ code. IsTagOf instance (triple_from code)) stands.tag_is formed.tag;
      above = said.above;
      implied = subst (λ code. Implied instance (triple_from code) (content_of_row row).lits) stands.tag_is (subst (Implied instance (triple_from (line_at old number).tag.code)) stands.lits_are implied);
    }

pub publishable : (instance : Instance) (old : List Line) (numbers : List ℕ) (rows : List Row) → IsInstance instance → AreOld instance old → AreSaid old numbers rows → ArePublishable instance rows
publishable instance old numbers rows valid are said = λ k row less. said-row instance old (get_or numbers k 0) (get_or rows k row) valid are (said.each k 0 row (omega (arith, less, said.count)))

-- ---- the numbers of such rows

numbered-at : (n k : ℕ) (rows : List Row) (d : KnownRow) (row : Row) → k < length rows → get_or (numbered_from n rows) k d ≡ known_row (n + k) (row_content (get_or rows k row))
numbered-at n k [] d row less = absurd (omega (arith, less))
numbered-at n zero (r ∷ rows) d row less = ap (λ m. known_row m (row_content r)) (let e : n ≡ n + 0 = omega arith in e)
numbered-at n (suc k) (r ∷ rows) d row less = numbered-at (n + 1) k rows d row (omega (arith, less)) ∙ ap (λ m. known_row m (row_content (get_or rows k row))) (let e : n + 1 + k ≡ n + suc k = omega arith in e)

numbered-here : (k : ℕ) (rows : List Row) (d : KnownRow) (row : Row) → k < length rows → get_or (numbered_rows rows) k d ≡ known_row k (row_content (get_or rows k row))
numbered-here k rows d row less = numbered-at 0 k rows d row less ∙ ap (λ m. known_row m (row_content (get_or rows k row))) (let e : 0 + k ≡ k = omega arith in e)

numbered-length : (n : ℕ) (rows : List Row) → length (numbered_from n rows) ≡ length rows
numbered-length n [] = refl
numbered-length n (r ∷ rows) = omega (arith, numbered-length (n + 1) rows)

module _ (old : List Line) (numbers : List ℕ) (rows : List Row) (pairs : List (ℕ × ℕ)) (said : AreSaid old numbers rows) (paired : ArePaired numbers pairs) where
  -- each such row is placed at its line
  pub placed-in : All (IsPlacedIn old pairs) (numbered_rows rows)
  placed-in = λ k d less. at k d (omega (arith, less, numbered-length 0 rows))
    where
      some-row : (k : ℕ) (rows : List Row) → k < length rows → Row
      some-row k [] less = absurd (omega (arith, less))
      some-row k (r ∷ rows) less = r

      at : (k : ℕ) (d : KnownRow) → k < length rows → IsPlacedIn old pairs (get_or (numbered_rows rows) k d)
      at k d less =
          let row = some-row k rows less in
          let inside : k < length numbers = omega (arith, less, said.count) in
          subst (IsPlacedIn old pairs) (sym (numbered-here k rows d row less)) (record {
            number = get_or numbers k 0;
            listed = (k, omega (arith, inside, paired.count), paired.each k 0 (k, get_or numbers k 0) inside);
            stands = (said.each k 0 row inside).stands;
          })

  pub placed-once : AllPairs (λ (p q : ℕ × ℕ). p.0 ≢ q.0) pairs
  placed-once = λ i j d before less same.
      let a = ap (λ (p : ℕ × ℕ). p.0) (paired.each i 0 d (omega (arith, before, less, paired.count))) in
      let b = ap (λ (p : ℕ × ℕ). p.0) (paired.each j 0 d (omega (arith, less, paired.count))) in
      omega (arith, a, b, same, before)

  pub placed-at : (P : ℕ → Type 0) → All (λ (row : KnownRow). P row.number) (numbered_rows rows) → All (λ (p : ℕ × ℕ). P p.0) pairs
  placed-at P h = λ k d less.
      let inside : k < length numbers = omega (arith, less, paired.count) in
      at-row k d (omega (arith, inside, said.count)) (h k (known_row 0 (record { tag = 0; lits = [] })) (omega (arith, inside, said.count, numbered-length 0 rows))) (paired.each k 0 d inside)
    where
      some-row : (rows : List Row) (k : ℕ) → k < length rows → Row
      some-row [] k less = absurd (omega (arith, less))
      some-row (r ∷ rows) k less = r

      at-row : (k : ℕ) (d : ℕ × ℕ) → k < length rows → P (get_or (numbered_rows rows) k (known_row 0 (record { tag = 0; lits = [] }))).number → get_or pairs k d ≡ (k, get_or numbers k 0) → P (get_or pairs k d).0
      at-row k d less h is =
          let e = ap (λ (r : KnownRow). r.number) (numbered-here k rows (known_row 0 (record { tag = 0; lits = [] })) (some-row rows k less) less) in
          subst P (e ∙ sym (ap (λ (p : ℕ × ℕ). p.0) is)) h

-- ---- lists that grow by one at the end

push-before : {X : Type 0} (xs : List X) (x : X) (i : ℕ) (d : X) → i < length xs → get_or (xs ++ x ∷ []) i d ≡ get_or xs i d
push-before xs x i d less = get_or_append_left xs (x ∷ []) d i less

push-last : {X : Type 0} (xs : List X) (x : X) (i : ℕ) (d : X) → i ≡ length xs → get_or (xs ++ x ∷ []) i d ≡ x
push-last xs x i d is = get_or-append_right xs (x ∷ []) (length xs) i d refl (omega (arith, is)) ∙ ap (λ k. get_or (x ∷ []) k d) (let e : i - length xs ≡ 0 = omega (arith, is) in e)

pub said-by : (old : List Line) (number : ℕ) (line : Line) (row : Row) → 0 < number → number ≤ length old → line ≡ get_or old (number - 1) line → row_content row ≡ says line → 0 < row.tag.code → IsSaid old number row
said-by old number line row some few is content above =
    let at : line_at old number ≡ line = sym (is ∙ get_or_default old (number - 1) line no_line (omega (arith, some, few))) in
    record {
      stands = record {
        low = some;
        high = few;
        tag_is = ap (λ (l : Line). l.tag.code) at ∙ sym (ap (λ (c : Content). c.tag) content);
        lits_are = ap (λ (l : Line). l.lits) at ∙ sym (ap (λ (c : Content). c.lits) content);
      };
      above = above;
    }

-- the first so many rows say what the lines of their numbers say
pub record AreSaidTo (old : List Line) (numbers : List ℕ) (n : ℕ) (rows : List Row) : Type 0 where
  pub count : length rows ≡ n
  pub each : (i m : ℕ) (row : Row) → i < n → IsSaid old (get_or numbers i m) (get_or rows i row)

pub none-said : (old : List Line) (numbers : List ℕ) → AreSaidTo old numbers 0 []
none-said old numbers = record { count = refl; each = λ i m row less. absurd (omega (arith, less)) }

pub more-said : (old : List Line) (numbers : List ℕ) (n : ℕ) (rows more : List Row) (row : Row) → AreSaidTo old numbers n rows → more ≡ rows ++ row ∷ [] → ((m : ℕ) → IsSaid old (get_or numbers n m) row) → AreSaidTo old numbers (n + 1) more
more-said old numbers n rows more row h is said = subst (AreSaidTo old numbers (n + 1)) (sym is) (record {
  count = omega (arith, length-append rows (row ∷ []), h.count);
  each = λ i m r less. at i m r less (cases_lt i n);
})
  where
    at : (i m : ℕ) (r : Row) → i < n + 1 → (i < n) ⊎ (n ≤ i) → IsSaid old (get_or numbers i m) (get_or (rows ++ row ∷ []) i r)
    at i m r less (inl low) = subst (IsSaid old (get_or numbers i m)) (sym (push-before rows row i r (omega (arith, low, h.count)))) (h.each i m r low)
    at i m r less (inr high) =
        let same : n ≡ i = omega (arith, less, high) in
        subst (IsSaid old (get_or numbers i m)) (sym (push-last rows row i r (omega (arith, less, high, h.count)))) (subst (λ k. IsSaid old (get_or numbers k m) row) same (said m))

pub all-said : (old : List Line) (numbers : List ℕ) (n : ℕ) (rows : List Row) → AreSaidTo old numbers n rows → n ≡ length numbers → AreSaid old numbers rows
all-said old numbers n rows h is = record { count = omega (arith, h.count, is); each = λ i m row less. h.each i m row (omega (arith, less, is)) }

-- the first so many places are paired
pub record ArePairedTo (numbers : List ℕ) (n : ℕ) (pairs : List (ℕ × ℕ)) : Type 0 where
  pub count : length pairs ≡ n
  pub each : (i m : ℕ) (pair : ℕ × ℕ) → i < n → get_or pairs i pair ≡ (i, get_or numbers i m)

pub none-paired : (numbers : List ℕ) → ArePairedTo numbers 0 []
none-paired numbers = record { count = refl; each = λ i m pair less. absurd (omega (arith, less)) }

pub more-paired : (numbers : List ℕ) (n : ℕ) (pairs more : List (ℕ × ℕ)) (pair : ℕ × ℕ) → ArePairedTo numbers n pairs → more ≡ pairs ++ pair ∷ [] → ((m : ℕ) → pair ≡ (n, get_or numbers n m)) → ArePairedTo numbers (n + 1) more
more-paired numbers n pairs more pair h is at-last = subst (ArePairedTo numbers (n + 1)) (sym is) (record {
  count = omega (arith, length-append pairs (pair ∷ []), h.count);
  each = λ i m p less. at i m p less (cases_lt i n);
})
  where
    at : (i m : ℕ) (p : ℕ × ℕ) → i < n + 1 → (i < n) ⊎ (n ≤ i) → get_or (pairs ++ pair ∷ []) i p ≡ (i, get_or numbers i m)
    at i m p less (inl low) = push-before pairs pair i p (omega (arith, low, h.count)) ∙ h.each i m p low
    at i m p less (inr high) =
        let same : n ≡ i = omega (arith, less, high) in
        push-last pairs pair i p (omega (arith, less, high, h.count)) ∙ subst (λ k. pair ≡ (k, get_or numbers k m)) same (at-last m)

pub all-paired : (numbers : List ℕ) (n : ℕ) (pairs : List (ℕ × ℕ)) → ArePairedTo numbers n pairs → n ≡ length numbers → ArePaired numbers pairs
all-paired numbers n pairs h is = record { count = omega (arith, h.count, is); each = λ i m pair less. h.each i m pair (omega (arith, less, is)) }
