-- What a load of a tag word told.
use Rattle.std.proofs.Common.{◌≡◌, ◌≢◌, ◌⊎◌, ⊎_elim, ℕ, [], ◌∷◌, sym, ap, ◌∙◌, subst, arith}
use Rattle.std.specs.List.{Contains}
use Rattle.std.proofs.lemmas.List.Elements.{Contains-push}
use Rattle.nogood.specs.declared.row.Row.{Row}
use Rattle.nogood_pool.specs.declared.view.Content.{Content}
use Rattle.nogood_pool.specs.declared.view.PoolView.{PoolView}
use Rattle.nogood_pool.specs.Pool.{IsPoolRow, AreShort, content, content_of_row, held_row}
use Rattle.nogood_pool.specs.PoolSteps.{ReadsTag, IsOnlyContent, after_read}

pub tag_none : (v w : PoolView) (row n : ℕ) → ReadsTag v row n w → n ≡ 0 → (w ≡ after_read v row 0 []) × ((c : Content) → Contains v.published (held_row row c) ⊎ Contains v.seen (held_row row c) → ⊥)
tag_none v w row n t z = ⊎_elim (λ h. (h.1 ∙ ap (λ (m : ℕ). after_read v row m []) z, h.2)) (λ h. let above = h.2.above in let is = h.1 in absurd (omega arith)) t

pub tag_some : (v w : PoolView) (row n : ℕ) → ReadsTag v row n w → n ≢ 0 → (c : Content) × (n ≡ c.tag) × IsPoolRow v.instance c × AreShort c.lits × IsOnlyContent v row c × (w ≡ after_read v row n (held_row row c ∷ []))
tag_some v w row n t ne = ⊎_elim (λ h. absurd (ne h.0)) (λ h. h) t

-- the content is now seen
pub seen_now : (v w : PoolView) (row n : ℕ) (c : Content) → w ≡ after_read v row n (held_row row c ∷ []) → Contains w.seen (held_row row c)
seen_now v w row n c e = subst (λ (x : PoolView). Contains x.seen (held_row row c)) (sym e) (Contains-push v.seen (held_row row c))

pub read_back : (v w : PoolView) (row n : ℕ) (r : Row) (c : Content) → n ≡ c.tag → IsPoolRow v.instance c → IsOnlyContent v row c → w ≡ after_read v row n (held_row row c ∷ []) → content_of_row r ≡ content c.lits n
    → IsPoolRow v.instance (content_of_row r) × IsOnlyContent v row (content_of_row r) × (w ≡ after_read v row r.tag.code (held_row row (content_of_row r) ∷ []))
read_back v w row n r c is valid only e back =
    let same : content_of_row r ≡ c = back ∙ ap (λ (m : ℕ). content c.lits m) is in
    let code : r.tag.code ≡ n = ap (λ (x : Content). x.tag) back in
    (subst (IsPoolRow v.instance) (sym same) valid, subst (IsOnlyContent v row) (sym same) only, e ∙ ap (λ (m : ℕ). after_read v row m (held_row row c ∷ [])) (sym code) ∙ ap (λ (x : Content). after_read v row r.tag.code (held_row row x ∷ [])) (sym same))
