-- A line without literals of at least the claimed tag is root enough.
use Rattle.std.proofs.Common.{◌≡◌, ℕ, ◌-◌, true, List, [], length, fold, ap, sym, subst, arith, Option, None, Some, All, leb}
use Rattle.std.proofs.lemmas.Bool.{eq-eqb, le-leb}
use Rattle.std.proofs.lemmas.List.Elements.{Contains-get_or}
use Rattle.fapp_model.specs.declared.instance.Instance.{Instance}
use Rattle.fapp_model.specs.declared.literal.Literal.{Literal}
use Rattle.fapp_model.specs.declared.tag.Tag.{Tag}
use Rattle.cert_lines.specs.declared.answer.Line.{Line}
use Rattle.cert_lines.specs.declared.answer.Verdict.{Verdict}
use Rattle.cert_lines.specs.declared.reject.RejectCause.TheVariants.{RootTagTooLow}
use Rattle.cert_lines.specs.acceptance.Excluded.{line_at, no_line}
use Rattle.cert_lines.specs.acceptance.RootFaults.{is_root, root_fault, root_fault_by, root_tag, verdict_tag, with_root_line}
use Rattle.cert_lines.proofs.Deleting.{IsPlain, all-stay}
use Rattle.merge_laws.specs.Fates.{StandsAt}
use Rattle.accept_laws.proofs.Renumbering.{passes-none}
use Rattle.merge_laws.proofs.TreeLines.{says}
use Rattle.accept_laws.proofs.RootLines.{AtLeast, found-root}

enough : (claimed : Tag) (found : Option Tag) → AtLeast claimed.code found → root_fault_by claimed found ≡ None
enough claimed None h = absurd h
enough claimed (Some u) h = passes-none (leb claimed.code u.code) (RootTagTooLow claimed u) (le-leb claimed.code u.code h)

empty-is-root : (line : Line) → line.lits ≡ [] → is_root line ≡ true
empty-is-root line e = eq-eqb (length line.lits) 0 (ap (λ (l : List Literal). length l) e)

pub root-enough : (instance : Instance) (verdict : Verdict) (lines : List Line) (n : ℕ) → All IsPlain lines → StandsAt lines (says (verdict_tag instance verdict) []) n → root_fault instance verdict lines ≡ None
unfolding root_fault root_tag
root-enough instance verdict lines n plain stands =
    subst (λ ls. root_fault_by (verdict_tag instance verdict) (fold with_root_line None ls) ≡ None) (sym (all-stay lines plain)) (
    let low = stands.low in
    let high = stands.high in
    let line = line_at lines n in
    enough (verdict_tag instance verdict) (fold with_root_line None lines)
    (subst (λ c. AtLeast c (fold with_root_line None lines)) stands.tag_is
    (found-root lines None line (Contains-get_or lines (n - 1) no_line (omega arith)) (empty-is-root line stands.lits_are))))
