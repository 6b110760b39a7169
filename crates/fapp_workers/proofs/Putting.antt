-- The jobs of all, put by their numbers.
use Rattle.std.proofs.Common.{◌≡◌, ◌≢◌, ◌⊎◌, ⊎_elim, ℕ, zero, suc, ◌+◌, ◌<◌, ◌≤◌, List, [], ◌∷◌, ◌++◌, length, map, take, get_or, set, Some, None, refl, sym, ap, ◌∙◌, arith}
use mathlib.Core.Logic.{dite}
use native.Mathlib.Decide.{ℕ_discrete}
use Rattle.std.proofs.lemmas.List.{append-nil, append_assoc, get_or-set_other, get_or-set_same, length-set, map-append}
use Rattle.std.proofs.lemmas.List.Elements.{All-push}
use Rattle.std.proofs.lemmas.List.Sums.{sum_by-cons, sum_by-set, sum_by_push}
use Rattle.fapp_plan.specs.Outcomes.{Placed}
use Rattle.steal_ring.specs.Jobs.{times, once}
use Rattle.fapp_workers.specs.declared.closing.Work.{Work}
use Rattle.fapp_workers.specs.declared.gather.Put.{Put}
use Rattle.fapp_workers.specs.Puts.{ArePut, puts_from, put_at, put_ids}
use Rattle.steal_ring.proofs.RingRule.{once_at}

pub puts-next : (n : ℕ) (works : List Work) (k : ℕ) (w : Work) → k < length works → puts_from n (take (suc k) works) ≡ puts_from n (take k works) ++ map (put_at (n + k)) (get_or works k w).done.items
puts-next n [] k w less = absurd (omega (arith, less))
puts-next n (x ∷ xs) zero w less =
    let here : n + 0 ≡ n = omega arith in
    rw here (append-nil (map (put_at n) x.done.items))
puts-next n (x ∷ xs) (suc k) w less =
    let rest = puts-next (n + 1) xs k w (omega (arith, less)) in
    let place : n + 1 + k ≡ n + suc k = omega arith in
    ap (λ ps. map (put_at n) x.done.items ++ ps) (rest ∙ ap (λ m. puts_from (n + 1) (take k xs) ++ map (put_at m) (get_or xs k w).done.items) place)
    ∙ sym (append_assoc (map (put_at n) x.done.items) (puts_from (n + 1) (take k xs)) (map (put_at (n + suc k)) (get_or xs k w).done.items))

-- a job that was not put is none of those that were
apart : (puts : List Put) (id : ℕ) → times id (put_ids puts) ≡ 0 → (k : ℕ) (d : Put) → k < length puts → (get_or puts k d).done.id ≢ id
apart [] id none k d less e = absurd (omega (arith, less))
apart (x ∷ xs) id none zero d less e =
    ⊎_elim (λ o. absurd (omega (arith, o.1, none, sum_by-cons (once id) x.done.id (put_ids xs)))) (λ o. absurd (o.0 (sym e))) (once_at id x.done.id)
apart (x ∷ xs) id none (suc k) d less e = apart xs id (omega (arith, none, sum_by-cons (once id) x.done.id (put_ids xs))) k d (omega (arith, less)) e

ids-push : (puts : List Put) (p : Put) (id : ℕ) → times id (put_ids (puts ++ p ∷ [])) ≡ times id (put_ids puts) + once id p.done.id
ids-push puts p id = ap (times id) (map-append (λ (q : Put). q.done.id) puts (p ∷ [])) ∙ sum_by_push (once id) (put_ids puts) p.done.id

pub put-one : (jobs : ℕ) (puts : List Put) (p : Put) (outcomes : List Placed) (ticks : List ℕ) → p.done.id < jobs → times p.done.id (put_ids puts) ≡ 0 → ArePut jobs puts outcomes ticks →
    ArePut jobs (puts ++ p ∷ []) (set outcomes p.done.id (Some (p.place, p.done.outcome))) (set ticks p.done.id p.done.ticks)
put-one jobs puts p outcomes ticks inside none h =
    let id : ℕ = p.done.id in
    let out : id < length outcomes = omega (arith, inside, h.whole.0) in
    let tick : id < length ticks = omega (arith, inside, h.whole.1) in
    record {
      whole = (length-set outcomes id (Some (p.place, p.done.outcome)) ∙ h.whole.0, length-set ticks id p.done.ticks ∙ h.whole.1);
      each = All-push (λ (put : Put). (get_or (set outcomes id (Some (p.place, p.done.outcome))) put.done.id None ≡ Some (put.place, put.done.outcome)) × (get_or (set ticks id p.done.ticks) put.done.id 0 ≡ put.done.ticks)) puts p
          (λ k d less.
          let ne = apart puts id none k d less in
          let was = h.each k d less in
          (get_or-set_other outcomes id (get_or puts k d).done.id (Some (p.place, p.done.outcome)) None ne ∙ was.0, get_or-set_other ticks id (get_or puts k d).done.id p.done.ticks 0 ne ∙ was.1))
          (get_or-set_same outcomes id (Some (p.place, p.done.outcome)) None out, get_or-set_same ticks id p.done.ticks 0 tick);
      others = λ other within no. ⊎_elim
          (λ o. absurd (omega (arith, no, ids-push puts p other, o.1)))
          (λ o.
          let was = h.others other within (omega (arith, no, ids-push puts p other)) in
          (get_or-set_other outcomes id other (Some (p.place, p.done.outcome)) None o.0 ∙ was.0, get_or-set_other ticks id other p.done.ticks 0 o.0 ∙ was.1))
          (once_at other id);
      total = omega (arith, sum_by-set (λ (n : ℕ). n) ticks id p.done.ticks 0 tick, (h.others id inside none).1, h.total, sum_by_push (λ (put : Put). put.done.ticks) puts p);
    }

-- up to a job's place it was put as often as in all, less its own
pub put-once : (puts : List Put) (k : ℕ) (d : Put) → k < length puts → ((job : ℕ) → times job (put_ids puts) ≤ 1) → times (get_or puts k d).done.id (put_ids (take k puts)) ≡ 0
put-once puts k d less most =
    let id : ℕ = (get_or puts k d).done.id in
    omega (arith, within puts k d id less, most id, once-same id)
  where
    once-same : (id : ℕ) → once id id ≡ 1
    once-same id = ⊎_elim (λ o. o.1) (λ o. absurd (o.0 refl)) (once_at id id)

    within : (puts : List Put) (k : ℕ) (d : Put) (id : ℕ) → k < length puts → times id (put_ids (take k puts)) + once id (get_or puts k d).done.id ≤ times id (put_ids puts)
    within [] k d id less = absurd (omega (arith, less))
    within (x ∷ xs) zero d id less = omega (arith, sum_by-cons (once id) x.done.id (put_ids xs))
    within (x ∷ xs) (suc k) d id less =
        omega (arith, within xs k d id (omega (arith, less)), sum_by-cons (once id) x.done.id (put_ids xs), sum_by-cons (once id) x.done.id (put_ids (take k xs)))

pub take-next : (puts : List Put) (k : ℕ) (d : Put) → k < length puts → take (suc k) puts ≡ take k puts ++ get_or puts k d ∷ []
take-next [] k d less = absurd (omega (arith, less))
take-next (x ∷ xs) zero d less = refl
take-next (x ∷ xs) (suc k) d less = ap (λ ps. x ∷ ps) (take-next xs k d (omega (arith, less)))
