use Rattle.std.proofs.Common.{◌-◌, List, ℕ, ap, get_or, ltb, ◌∙◌}
use Rattle.cert_check.proofs.FirstDeleter.{deleted-by}
use Rattle.cert_check.proofs.exclusion.is_deleted.Goals as goal

pub returns : goal.returns
returns c =
    let scene = c.args.scene in
    let number = c.args.number in
    ap (λ (table : List ℕ). ltb (get_or table (number - 1) 0) scene.n) c.as_slice.ensures
    ∙ deleted-by scene.lines.now scene.marks.now.deleters number scene.n c.requires.scene.marks.deleters c.requires.low c.requires.high c.requires.scene.n
