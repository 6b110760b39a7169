use Rattle.std.proofs.Common.{◌≡◌, length, sym, subst, ap, Ok, Err, ◌∙◌, arith}
use Rattle.std.proofs.lemmas.Result.{IfOk-weaker}
use Rattle.record_reader.specs.Texts.{instance_of_text}
use Rattle.fapp_text.specs.Reading.{Fails}
use Rattle.fapp_gen.specs.Generated.{network_text}
use Rattle.gen_laws.proofs.Networks.{made_instances, made_short}
use Rattle.fapp_run.specs.declared.reply.Reply.{Reply}
use Rattle.fapp_run.specs.Made.{Demonstrates, IsDemonstrated}
use Rattle.fapp_run.proofs.made.demonstrated.Goals as goal

-- the text of a made network is short
pub read_instance-requires : goal.read_instance-requires
read_instance-requires g c =
    let short = made_short c.args.seed.number c.args.seed.paths c.requires.some_paths c.requires.few_paths in
    omega (arith, ap length c.deref.ensures.value, ap length c.in_ok-bytes.ensures, short)

-- and it is that of an instance
pub unreachable-requires : goal.unreachable-requires
unreachable-requires g c =
    let made = network_text c.args.seed.number c.args.seed.paths in
    let whole = made_instances c.args.seed.number c.args.seed.paths c.requires.some_paths c.requires.few_paths in
    let fails = subst (λ bytes. Fails c.in-Err-Bad.field-0 (instance_of_text bytes)) (c.deref.ensures.value ∙ c.in_ok-bytes.ensures) c.in-Err-Bad.ensures.reads in
    let refused : instance_of_text made ≡ Err c.in-Err-Bad.field-0-0 = subst (λ failure. Fails failure (instance_of_text made)) c.in-Err-Bad.field-0-is fails in
    let e : Ok whole.instance ≡ Err c.in-Err-Bad.field-0-0 = sym whole.read ∙ refused in
    cc

pub returns-in-Ok : goal.returns-in-Ok
returns-in-Ok g c =
    let made = network_text c.args.seed.number c.args.seed.paths in
    let instance = c.in-Ok.instance in
    let read = subst (λ bytes. instance_of_text bytes ≡ Ok instance) c.in_ok-bytes.ensures (subst (λ bytes. instance_of_text bytes ≡ Ok instance) c.deref.ensures.value c.in-Ok.ensures.reads) in
    IfOk-weaker c.shown_verdict.result (λ (o : Reply). IsDemonstrated instance o.status o.text.items) (λ (o : Reply). Demonstrates made o.status o.text.items)
    (λ o h. record { instance = instance; read = read; shown = h }) c.shown_verdict.ensures
