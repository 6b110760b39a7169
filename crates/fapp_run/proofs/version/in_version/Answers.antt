use Rattle.std.proofs.Common.{◌≡◌, ◌≤◌, List, length, ap, sym, subst, ◌∙◌, arith}
use Rattle.std.proofs.lemmas.Bool.{eq-eqb, ne_eqb}
use Rattle.fapp_model.specs.Instances.{IsNumber}
use Rattle.cert_lines.specs.declared.answer.Answer.{Answer}
use Rattle.cert_lines.specs.declared.answer.Line.{Line}
use Rattle.accept_laws.specs.Compacting.{IsCompactable, compacted}
use Rattle.fapp_run.proofs.Written.{first-written, may-compact, second-written}
use Rattle.fapp_run.proofs.version.in_version.Goals as goal

pub returns-then-version-ne2 : goal.returns-then-version-ne2
returns-then-version-ne2 c =
    first-written c.args._instance.now c.args.version c.args.answer (ne_eqb c.args.version 2 c.if-version-ne2.true) c.requires.first c.requires.formed c.requires.accepted

pub compact-requires-clause-cites : goal.compact-requires-clause-cites
compact-requires-clause-cites c = λ n low high.
    let within : n ≤ length c.args.answer.lines = omega (arith, high, ap (λ (ls : List Line). length ls) c.as_slice.ensures) in
    subst (λ (ls : List Line). IsCompactable ls n) (sym c.as_slice.ensures)
    (may-compact c.args._instance.now c.args.answer c.requires.first c.requires.formed c.requires.accepted c.requires.bare n low within)

pub returns : goal.returns
returns c =
    let answer = c.args.answer in
    let lines : c.from_vec.result ≡ compacted answer.lines = c.from_vec.ensures ∙ (c.in_ok-lines.ensures.value ∙ ap compacted c.as_slice.ensures) in
    let made : List Line → Answer = λ ls. record { plan = answer.plan; verdict = answer.verdict; version = 2; lines = ls } in
    second-written c.args._instance.now answer c.requires.first c.requires.formed c.requires.accepted c.requires.bare c.args.version (made c.from_vec.result)
    (eq-eqb c.args.version 2 c.if-version-ne2.false) (ap made lines) (subst (λ (ls : List Line). IsNumber (length ls)) (sym c.from_vec.ensures) c.in_ok-lines.ensures.few)
