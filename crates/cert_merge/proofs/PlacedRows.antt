-- The numbers of rows that old lines say.
use Rattle.std.proofs.Common.{◌≡◌, ℕ, ◌+◌, ◌<◌, List, [], ◌∷◌, ◌++◌, length, take, get_or, set, refl}
use Rattle.std.proofs.lemmas.List.{take_more}
use Rattle.merge_laws.specs.Stages.{with_placed}

placed-last : (placed : List (ℕ × ℕ)) (p : ℕ × ℕ) (row : List ℕ) → with_placed (placed ++ p ∷ []) row ≡ set (with_placed placed row) p.0 p.1
placed-last [] p row = refl
placed-last (q ∷ placed) p row = placed-last placed p (set row q.0 q.1)

pub placed-more : (placed : List (ℕ × ℕ)) (i : ℕ) (d : ℕ × ℕ) (row before : List ℕ) → i < length placed → before ≡ with_placed (take i placed) row →
    set before (get_or placed i d).0 (get_or placed i d).1 ≡ with_placed (take (i + 1) placed) row
placed-more placed i d row before inside is =
    rw (take_more placed i d inside) (rw (placed-last (take i placed) (get_or placed i d) row) (rw is refl))
