-- What was written, in the words of the whole text.
use Rattle.std.proofs.Common.{◌≡◌, ◌⊎◌, ⊎_elim, ℕ, suc, List, [], ◌∷◌, ◌++◌, sym, subst, arith}
use Rattle.fapp_io.specs.Moments.{SinkMoment}
use Rattle.fapp_io.specs.Known.{BytesGrow}
use Rattle.fapp_io.specs.Whole.{GrowsByFront}
use Rattle.cert_relay.specs.declared.desk.Desk.{Desk}
use Rattle.cert_relay.specs.declared.desk.End.{End}
use Rattle.cert_relay.specs.declared.desk.End.TheVariants.{Written, WriteFault, OutOfMemory}
use Rattle.cert_relay.specs.declared.message.Message.{Message}
use Rattle.cert_relay.specs.declared.rule.Job.{Job}
use Rattle.cert_relay.specs.Pieces.{piece_count, piece_text, text_before}
use Rattle.cert_relay.specs.Queue.{AreTaken}
use Rattle.cert_relay.specs.Relayed.{IsRelayWritten, IsRelayed}
use Rattle.cert_relay.specs.Writing.{IsDesk, IsWrittenTo}
use Rattle.cert_relay.proofs.Desks.{lacks_more}
use Rattle.cert_relay.proofs.Texts.{whole_text, front_longer}

-- what was written stays so when one more message was taken
pub wrote_more : (job : Job) (taken : List Message) (x : Message) (next : ℕ) (old new : SinkMoment) (end : End) → IsWrittenTo job taken next old new end → IsWrittenTo job (taken ++ x ∷ []) next old new end
wrote_more job taken x next old new Written h = h
wrote_more job taken x next old new WriteFault h = h
wrote_more job taken x next old new (OutOfMemory number) h = (h.0, lacks_more taken x number h.1, h.2, h.3)

-- where the writing had stopped, the next piece changes nothing
pub stopped : (job : Job) (taken : List Message) (n : ℕ) (old new : SinkMoment) (end : End) → (end ≡ WriteFault) ⊎ ((x : ℕ) × (end ≡ OutOfMemory x)) → IsWrittenTo job taken n old new end → IsWrittenTo job taken (suc n) old new end
stopped job taken n old new end is was = ⊎_elim
    (λ (e : end ≡ WriteFault). subst (IsWrittenTo job taken (suc n) old new) (sym e) (faulted (subst (IsWrittenTo job taken n old new) e was)))
    (λ (e : (x : ℕ) × (end ≡ OutOfMemory x)). subst (IsWrittenTo job taken (suc n) old new) (sym e.1) (lacked e.0 (subst (IsWrittenTo job taken n old new) e.1 was)))
    is
  where
    faulted : IsWrittenTo job taken n old new WriteFault → IsWrittenTo job taken (suc n) old new WriteFault
    faulted w = (front_longer old.taken new.taken (text_before job.instance job.answer n) (piece_text job.instance job.answer n) w.0, w.1, w.2)

    lacked : (x : ℕ) → IsWrittenTo job taken n old new (OutOfMemory x) → IsWrittenTo job taken (suc n) old new (OutOfMemory x)
    lacked x w = (omega (arith, w.0), w.1, w.2, w.3)

wrote_all : (job : Job) (taken : List Message) (old new : SinkMoment) (end : End) → IsWrittenTo job taken (piece_count job.answer) old new end → IsRelayWritten job.instance job.answer taken old new end
wrote_all job taken old new Written h = (subst (BytesGrow old.taken new.taken) (whole_text job.instance job.answer) h.0, h.1)
wrote_all job taken old new WriteFault h = (subst (GrowsByFront old.taken new.taken) (whole_text job.instance job.answer) h.0, h.1, h.2)
wrote_all job taken old new (OutOfMemory number) h = h

pub relayed : (job : Job) (taken : List Message) (desk : Desk) (old new : SinkMoment) → IsDesk job taken desk → AreTaken job taken → IsWrittenTo job taken (piece_count job.answer) old new desk.end
    → IsRelayed job.instance job.answer old new desk.end desk.taken.items
relayed job taken desk old new d are h = record {
  messages = taken;
  numbered = sym d.numbered;
  right = are.right;
  written = wrote_all job taken old new desk.end h;
}
