-- Where the last segment ends.
use Rattle.std.proofs.Common.{◌≡◌, ℕ, zero, suc, ◌+◌, List, [], ◌∷◌, ◌++◌, length, Some, refl, arith}
use Rattle.std.specs.List.{slice_get}
use Rattle.search_log.specs.declared.line.Segment.{Segment}
use Rattle.search_log.specs.Segments.{ended}

pub ended-at : (segments : List Segment) (s : Segment) (n : ℕ) → n + 1 ≡ length segments → slice_get segments n ≡ Some s → ended segments ≡ s.last + 1
ended-at [] s n e at = absurd (omega arith)
ended-at (x ∷ []) s zero e at = cc
ended-at (x ∷ []) s (suc n) e at = absurd (omega arith)
ended-at (x ∷ y ∷ more) s zero e at = absurd (omega arith)
ended-at (x ∷ y ∷ more) s (suc n) e at = ended-at (y ∷ more) s n (omega arith) at

pub ended-push : (segments : List Segment) (s : Segment) → ended (segments ++ s ∷ []) ≡ s.last + 1
ended-push [] s = refl
ended-push (x ∷ []) s = refl
ended-push (x ∷ y ∷ more) s = ended-push (y ∷ more) s
