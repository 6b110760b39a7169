use Rattle.std.proofs.Common.{◌≤◌, ◌+◌, get_or, inl, inr, arith}
use Rattle.std.proofs.lemmas.List.Sorted.{IsNonDecreasingBy-from_all_adjacent}
use Rattle.search_log.specs.declared.piece.Piece.{Piece}
use Rattle.cert_merge.specs.Growth.{IsPieceNotAfter}
use Rattle.cert_merge.proofs.segments.sort_by_row.Goals as goal

no_lower : (p q : Piece) → IsPieceNotAfter p q → p.row ≤ q.row
no_lower p q (inl less) = omega arith
no_lower p q (inr (same, more)) = omega arith

pub returns-clause-ordered : goal.returns-clause-ordered
returns-clause-ordered c i j d before inside =
    let sorted = c.sort.new.pieces in
    IsNonDecreasingBy-from_all_adjacent (λ (p : Piece). p.row) sorted (λ k e l. no_lower (get_or sorted k e) (get_or sorted (k + 1) e) (c.sort.ensures.ordered k e l)) i j d (omega arith) inside
