use Rattle.std.proofs.Common.{◌≡◌, take, sym, ap, ◌∙◌, Option, subst}
use Rattle.std.proofs.lemmas.List.{get_or_default}
use Rattle.cert_lines.specs.declared.answer.Line.{Line}
use Rattle.cert_lines.specs.WellFormed.{IsLineOrDelete, IsLine}
use Rattle.cert_lines.specs.acceptance.Deleted.{deletes}
use Rattle.cert_lines.specs.acceptance.Excluded.{no_line}
use Rattle.cert_lines.specs.declared.reject.RejectCause.{RejectCause}
use Rattle.cert_lines.specs.acceptance.LineFaults.{delete_fault, first_of, line_fault, rule_fault}
use Rattle.cert_check.specs.Marked.{line_on}
use Rattle.cert_check.proofs.LineParts.{entry-line, zero-line, other-line, if_ok}
use Rattle.cert_check.proofs.line.line_fault.Goals as goal

pub rule_fault-requires-clause-line : goal.rule_fault-requires-clause-line
rule_fault-requires-clause-line c =
    let instance = c.args.instance.now in
    let lines = c.args.lines.now in
    let n = c.args.n in
    let line = c.index-lines-n.result in
    let own = c.index-lines-n.is ∙ get_or_default lines n line no_line c.requires.n in
    entry-line instance line (subst (IsLineOrDelete instance) (sym own) (c.requires.lines n no_line c.requires.n)) c.if-line-eq0.false

pub returns-then-line-eq0 : goal.returns-then-line-eq0
returns-then-line-eq0 c =
    let instance = c.args.instance.now in
    let lines = c.args.lines.now in
    let n = c.args.n in
    let own = c.index-lines-n.is ∙ get_or_default lines n c.index-lines-n.result no_line c.requires.n in
    c.deleting_fault.ensures ∙ sym (zero-line instance (take n lines) (line_on lines n) (ap (λ (line : Line). line.tag.code) (sym own) ∙ c.if-line-eq0.true))

pub returns : goal.returns
returns c =
    let instance = c.args.instance.now in
    let lines = c.args.lines.now in
    let n = c.args.n in
    let line = c.index-lines-n.result in
    let own = c.index-lines-n.is ∙ get_or_default lines n line no_line c.requires.n in
    let formed = entry-line instance line (subst (IsLineOrDelete instance) (sym own) (c.requires.lines n no_line c.requires.n)) c.if-line-eq0.false in
    if_ok (λ (fault : Option RejectCause). fault ≡ rule_fault instance (take n lines) line.tag line.lits line.rule)
    (λ (fault : Option RejectCause). fault ≡ line_fault instance (take n lines) (line_on lines n)) c.rule_fault.result
    (λ fault e. e ∙ (sym (other-line instance (take n lines) line formed c.if-line-eq0.false) ∙ ap (λ (l : Line). line_fault instance (take n lines) l) own))
    c.rule_fault.ensures
