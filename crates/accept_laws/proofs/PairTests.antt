-- The test of pairs, as facts on numbers.
use Rattle.std.proofs.Common.{◌≡◌, ◌<◌, ◌≤◌, true, false, ◌&&◌, ltb, leb, eqb, inl, inr, arith}
use Rattle.std.proofs.lemmas.Bool.{or_cases, or_parts, and_parts, and_cases, and_from, or_left, or_right, ltb-true, ltb-false, leb-true, leb-false, eqb-true, eqb-false, lt-ltb, le-leb, eq-eqb, cases_lt}
use Rattle.fapp_model.specs.search.Pairs.{Pair, IsPairAtMost}
use Rattle.cert_lines.specs.acceptance.Judged.{is_pair_at_most}

pub pairs-at_most : (p q : Pair) → is_pair_at_most p q ≡ true → IsPairAtMost p q
pairs-at_most p q h =
    elim (or_cases (ltb p.v q.v) (eqb p.v q.v && leb p.s q.s) h) [
      | inl less ↦ inl (ltb-true _ _ less)
      | inr same ↦ let parts = and_parts (eqb p.v q.v) (leb p.s q.s) same in inr (eqb-true _ _ parts.0, leb-true _ _ parts.1)
    ]

pub at_most-pairs : (p q : Pair) → IsPairAtMost p q → is_pair_at_most p q ≡ true
at_most-pairs p q (inl less) = or_left (ltb p.v q.v) (eqb p.v q.v && leb p.s q.s) (lt-ltb _ _ less)
at_most-pairs p q (inr same) = or_right (ltb p.v q.v) (eqb p.v q.v && leb p.s q.s) (and_from (eqb p.v q.v) (leb p.s q.s) (eq-eqb _ _ same.0) (le-leb _ _ same.1))

pub not-pairs : (p q : Pair) → is_pair_at_most p q ≡ false → IsPairAtMost q p
not-pairs p q h =
    let parts = or_parts (ltb p.v q.v) (eqb p.v q.v && leb p.s q.s) h in
    let low = ltb-false p.v q.v parts.0 in
    elim (and_cases (eqb p.v q.v) (leb p.s q.s) parts.1) [
      | inl apart ↦ inl (by_apart low apart)
      | inr more ↦ elim (cases_lt q.v p.v) [ inl less ↦ inl less | inr same ↦ let above = leb-false p.s q.s more in inr (omega arith, omega arith) ]
    ]
  where
    by_apart : q.v ≤ p.v → eqb p.v q.v ≡ false → q.v < p.v
    by_apart low apart = elim (cases_lt q.v p.v) [ inl less ↦ less | inr more ↦ absurd (eqb-false p.v q.v apart (omega arith)) ]
