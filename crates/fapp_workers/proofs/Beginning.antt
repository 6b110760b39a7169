-- The first place begins with an assignment.
use Rattle.std.proofs.Common.{ℕ, ◌<◌, List, [], ◌∷◌, length, set, All, Contains, Option, Some, None, IfSome, refl, sym, ap, ◌∙◌, subst, arith}
use Rattle.std.proofs.lemmas.List.Elements.{All-cons, All-tail}
use Rattle.fapp_model.specs.declared.instance.Instance.{Instance}
use Rattle.fapp_model.specs.Costs.{cost}
use Rattle.fapp_model.specs.Instances.{IsInstance}
use Rattle.fapp_model.specs.Least.{IsFeasible}
use Rattle.fapp_model.specs.Tags.{code_of}
use Rattle.fapp_model.proofs.Members.{at_front}
use Rattle.fapp_plan.specs.Plans.{Split}
use Rattle.search_log.specs.LogStates.{LogState}
use Rattle.best_word.specs.declared.seat.BestWord.{BestWord}
use Rattle.nogood_pool.specs.declared.seat.Pool.{Pool}
use Rattle.nogood_pool.specs.Seats.{IsSeatOf}
use Rattle.settle_laws.proofs.FullPrefixes.{cost-back}
use Rattle.fapp_workers.specs.declared.place.Place.{Place}
use Rattle.fapp_workers.specs.Begun.{IsBegun, OffersFirst}
use Rattle.fapp_workers.specs.WorkerPlaces.{IsSeated, IsUnpublished}

pub seated-begun : (split : Split) (word : BestWord) (pool : Pool) (plan : List ℕ) (old new : Place) → IsInstance split.instance → IsFeasible split.instance plan → IsSeated split word pool old → IsBegun split.instance word plan old new → IsSeated split word pool new
seated-begun split word pool plan old new valid feasible h b = record {
  seat = b.seat;
  levels = b.levels_are ∙ h.levels;
  pool_seat = subst (IsSeatOf pool) (sym b.pool_seat) h.pool_seat;
  unpublished = subst (IsUnpublished split.instance) (sym b.pool_seat) h.unpublished;
  lines = ap (λ (l : LogState). l.lines) b.log;
  segments = ap (λ (l : LogState). l.segments) b.log;
  kept = rw (b.log, b.offers) (sym (cost-back split.instance plan valid));
  right = rw b.log (feasible, refl);
}

pub all-first : (P : Place → Type 0) (places : List Place) (new : Place) → 0 < length places → P new → All P places → All P (set places 0 new)
all-first P [] new some is all = absurd (omega (arith, some))
all-first P (p ∷ places) new some is all = All-cons P new places is (All-tail P p places all)

pub offers-first : (instance : Instance) (word : BestWord) (plan : List ℕ) (places : List Place) (old new : Place) → 0 < length places → IsBegun instance word plan old new → OffersFirst instance plan (set places 0 new)
offers-first instance word plan [] old new some b = absurd (omega (arith, some))
offers-first instance word plan (p ∷ places) old new some b = λ d. subst (λ offers. Contains offers (code_of (cost instance plan))) (sym b.offers) (at_front (code_of (cost instance plan)) [])

pub if-some : {T : Type 0} (o : Option T) (P Q : T → Type 0) → ((x : T) → P x → Q x) → IfSome o P → IfSome o Q
if-some None P Q f h = tt
if-some (Some x) P Q f h = f x h
