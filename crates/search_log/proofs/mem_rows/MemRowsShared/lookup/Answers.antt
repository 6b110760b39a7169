use Rattle.std.proofs.Common.{Some, None, List, All, Option, subst, sym, ◌∙◌, ◌≡◌}
use Rattle.nogood.specs.declared.row.Row.{Row}
use Rattle.search_log.specs.declared.shared.Cite.{Cite}
use Rattle.search_log.specs.Shares.{IsCiteOf, IsServedContent, LooksUp, row_content}
use Rattle.search_log.proofs.Numbering.{none-finds, some-finds, some-served, stated, stated-looks}
use Rattle.search_log.proofs.mem_rows.MemRowsShared.lookup.Goals as goal
use Rattle.search_log.proofs.mem_rows.MemRowsShared.lookup.Goals.{in-Some, in-None}

pub returns-clause-looks : goal.returns-clause-looks
returns-clause-looks c =
    let rows = c.as_slice-rows.result.now in
    let held : rows ≡ c.args.self.now = c.as_slice-rows.ensures ∙ c.self.view_is in
    let looked : List Row → Option Cite → Type 0 = λ all answer. LooksUp (stated all) (stated all) c.args.part.now c.args.target.code answer in
    elim c.match-first_fitting.branch [
      | in-Some w ↦ (
          let found : Option Cite = Some (record { row = w.in-Some.place; content = w.index-rows-place.result }) in
          subst (looked c.args.self.now) (sym w.result-is) (subst (λ all. looked all found) held
          (stated-looks rows c.args.part.now c.args.target.code found
          (some-finds rows c.args.part.now c.args.target.code w.in-Some.place w.index-rows-place.result w.index-rows-place.is w.in-Some.ensures))))
      | in-None w ↦ subst (looked c.args.self.now) (sym w.result-is) (subst (λ all. looked all None) held
          (stated-looks rows c.args.part.now c.args.target.code None (none-finds rows c.args.part.now c.args.target.code w.in-None.ensures)))
    ]

pub returns-clause-implied : goal.returns-clause-implied
returns-clause-implied c = λ instance serves.
    let rows = c.as_slice-rows.result.now in
    let held : rows ≡ c.args.self.now = c.as_slice-rows.ensures ∙ c.self.view_is in
    elim c.match-first_fitting.branch [
      | in-Some w ↦ subst (IsCiteOf instance) (sym w.result-is) (some-served instance rows w.in-Some.place w.index-rows-place.result w.in-Some.ensures.0 w.index-rows-place.is
          (subst (All (λ (row : Row). IsServedContent instance (row_content row))) (sym held) serves))
      | in-None w ↦ subst (IsCiteOf instance) (sym w.result-is) tt
    ]
