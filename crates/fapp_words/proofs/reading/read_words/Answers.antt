use Rattle.std.proofs.Common.{[], map, string_bytes, ap, ◌∙◌, subst, inl, inr}
use Rattle.std.proofs.lemmas.Bool.{false≢true}
use Rattle.clap.specs.Words.{HasKind, fault_of, is_simple_and_free}
use Rattle.fapp_words.proofs.BuiltProgram.{simple_and_free}
use Rattle.fapp_words.proofs.RequestLemmas.{request_taken}
use Rattle.fapp_words.proofs.reading.read_words.Goals as goal

pub returns-in-Err-2-clause-reads : goal.returns-in-Err-2-clause-reads
returns-in-Err-2-clause-reads c = λ request promised.
    let words = map string_bytes c.args.words.now in
    let none = ap (λ app. fault_of app words) c.in_ok-program.ensures ∙ request_taken words request promised in
    let kinds = c.in-Err.ensures.kinds (ap is_simple_and_free c.in_ok-program.ensures ∙ simple_and_free) in
    let memory : HasKind [] c.in-Err.error = subst (λ fault. HasKind fault c.in-Err.error) none kinds in
    elim memory [
      | inl same ↦ absurd (false≢true (rw (c.kind.ensures ∙ same) at c.if-eq.ensures))
      | inr among ↦ among
    ]
