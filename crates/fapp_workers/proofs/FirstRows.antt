-- One row more is published by the only seat.
use Rattle.std.proofs.Common.{◌≡◌, ℕ, suc, ◌+◌, ◌<◌, List, [], ◌∷◌, ◌++◌, length, take, get_or, sym, ap, ◌∙◌, subst, arith}
use mathlib.Core.Logic.{dite}
use native.Mathlib.Decide.{ℕ_discrete}
use Rattle.std.proofs.lemmas.List.{get_or_append_left, get_or_push, length-append, length-take-le, map-append}
use Rattle.seat_laws.specs.declared.TheConstants.{WHOLE_SHARE}
use Rattle.fapp_model.specs.declared.literal.Literal.{Literal}
use Rattle.nogood.specs.declared.row.Row.{Row}
use Rattle.nogood.specs.declared.row.Published.TheVariants.{Home}
use Rattle.nogood.specs.Rows.{row_literals}
use Rattle.nogood_pool.specs.declared.view.PoolView.{PoolView}
use Rattle.nogood_pool.specs.Pool.{content, held_row}
use Rattle.nogood_pool.specs.Seats.{SeatPublishes}
use Rattle.search_log.specs.Contents.{known_row}
use Rattle.pool_rows.specs.Copying.{all_known, held_known}
use Rattle.search_log.specs.NumberedRows.{numbered_from, numbered_rows}
use Rattle.search_log.specs.Shares.{row_content}
use Rattle.fapp_workers.specs.FirstRows.{AreTwins}

-- one row more, behind others
numbered-push : (n : ℕ) (rows : List Row) (row : Row) → numbered_from n (rows ++ row ∷ []) ≡ numbered_from n rows ++ known_row (n + length rows) (row_content row) ∷ []
numbered-push n [] row = ap (λ m. known_row m (row_content row) ∷ []) (let e : n ≡ n + 0 = omega arith in e)
numbered-push n (r ∷ rows) row =
    ap (λ more. known_row n (row_content r) ∷ more) (numbered-push (n + 1) rows row
    ∙ ap (λ m. numbered_from (n + 1) rows ++ known_row m (row_content row) ∷ []) (let e : n + 1 + length rows ≡ n + suc (length rows) = omega arith in e))

-- what the only seat publishes
pub record IsHomeAt (v : PoolView) (row : Row) (w : PoolView) (number : ℕ) : Type 0 where
  pub here : number ≡ v.counter
  pub share : w.share ≡ v.share
  pub rows_are : w.rows ≡ v.rows
  pub instance_is : w.instance ≡ v.instance
  pub counter : w.counter ≡ v.counter + 1
  pub published : all_known w.published ≡ all_known v.published ++ known_row v.counter (row_content row) ∷ []

pub home-at : (v w : PoolView) (row : Row) (lits : List Literal) (n : ℕ) → v.share ≡ WHOLE_SHARE → lits ≡ row_literals row → SeatPublishes v lits row.tag.code (Home n) w → IsHomeAt v row w n
home-at v w row lits n whole same p =
    let is : n ≡ v.counter = p.2.2 whole in
    record {
      here = is;
      share = ap (λ (u : PoolView). u.share) p.3;
      rows_are = ap (λ (u : PoolView). u.rows) p.3;
      instance_is = ap (λ (u : PoolView). u.instance) p.3;
      counter = ap (λ (u : PoolView). u.counter) p.3 ∙ ap (λ k. k + 1) is;
      published = ap (λ (u : PoolView). all_known u.published) p.3
          ∙ (map-append held_known v.published (held_row n (content lits row.tag.code) ∷ [])
          ∙ (ap (λ k. all_known v.published ++ known_row k (record { tag = row.tag.code; lits = lits }) ∷ []) is
          ∙ ap (λ l. all_known v.published ++ known_row v.counter (record { tag = row.tag.code; lits = l }) ∷ []) same));
    }

pub twins-more : (n : ℕ) (pairs more : List (ℕ × ℕ)) (row : ℕ) → AreTwins n pairs → row ≡ n → more ≡ pairs ++ (row, n) ∷ [] → AreTwins (n + 1) more
twins-more n pairs more row h same is = subst (AreTwins (n + 1)) (sym is) (record {
  count = omega (arith, h.count, length-append pairs ((row, n) ∷ []));
  each = λ i d less. dite (ℕ_discrete i n)
      (λ here. ap (λ k. get_or (pairs ++ (row, n) ∷ []) k d) here ∙ (get_or_push pairs (row, n) d n h.count ∙ (ap (λ k. (k, n)) same ∙ ap (λ k. (k, k)) (sym here))))
      (λ else. let low : i < n = omega (arith, less, else) in get_or_append_left pairs ((row, n) ∷ []) d i (omega (arith, low, h.count)) ∙ h.each i d low);
})

pub numbered-next : (rows : List Row) (place : ℕ) (row : Row) → place < length rows → take (place + 1) rows ≡ take place rows ++ row ∷ [] → numbered_rows (take (place + 1) rows) ≡ numbered_rows (take place rows) ++ known_row place (row_content row) ∷ []
numbered-next rows place row less next =
    ap numbered_rows next ∙ (numbered-push 0 (take place rows) row
    ∙ ap (λ m. numbered_rows (take place rows) ++ known_row m (row_content row) ∷ []) (let e : 0 + length (take place rows) ≡ place = omega (arith, length-take-le place rows (omega (arith, less))) in e))
