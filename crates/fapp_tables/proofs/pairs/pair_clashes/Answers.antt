use Rattle.std.proofs.Common.{◌≡◌, ℕ, ◌<◌, false, List, length, slice_index, All, Contains, sym, subst, inl, inr, arith}
use Rattle.std.proofs.lemmas.Bool.{cases_lt}
use Rattle.std.proofs.lemmas.List.Elements.{All-same, All-from_get_or, Contains-get_or}
use Rattle.fapp_tables.specs.Indexes.{record_at, turned_bad}
use Rattle.fapp_tables.proofs.ClashLaws.{clash_found, no_clash}
use Rattle.fapp_tables.proofs.PairLaws.{positions_within}
use Rattle.fapp_tables.proofs.pairs.pair_clashes.Goals as goal

pub is_turned_bad-requires : goal.is_turned_bad-requires
is_turned_bad-requires c =
    All-same (λ k. k < length c.args.instance.now.records) c.args.positions.now _ c.requires.positions (positions_within c.args.instance.now c.args.path c.args.other)
    c.loop-position.position-index 0 c.loop-position-test.true

pub returns-then-is_turned_bad : goal.returns-then-is_turned_bad
returns-then-is_turned_bad c =
    let k = slice_index c.args.positions.now c.loop-position.position-index in
    let member = subst (λ (xs : List ℕ). Contains xs k) c.requires.positions (Contains-get_or c.args.positions.now c.loop-position.position-index 0 c.loop-position-test.true) in
    sym (clash_found c.args.level c.args.path c.args.other c.requires.apart c.args.first c.args.second c.args.instance.now k member (sym c.if-is_turned_bad.ensures))

pub loop-position-preserved : goal.loop-position-preserved
loop-position-preserved c k below = elim (cases_lt k c.loop-position.position-index) [
  | inl less ↦ c.loop-position.invariant k less
  | inr more ↦
      let same : k ≡ c.loop-position.position-index = omega arith in
      subst (λ n. turned_bad c.args.level c.args.path c.args.first c.args.second (record_at c.args.instance.now (slice_index c.args.positions.now n)) ≡ false) (sym same) (sym c.if-is_turned_bad.ensures)
]

pub returns : goal.returns
returns c =
    let Passes : ℕ → Type 0 = λ k. turned_bad c.args.level c.args.path c.args.first c.args.second (record_at c.args.instance.now k) ≡ false in
    sym (no_clash c.args.level c.args.path c.args.other c.requires.apart c.args.first c.args.second c.args.instance.now
    (subst (All Passes) c.requires.positions (All-from_get_or Passes c.args.positions.now 0 (λ k inside. c.loop-position.invariant k (omega arith)))))
