-- All places came back.
use Rattle.std.proofs.Common.{◌≡◌, ℕ, ◌<◌, List, [], ◌∷◌, length, map, get_or, All, IfOk, sym, ap, ◌∙◌, subst, arith}
use Rattle.std.proofs.lemmas.List.{get_or-map, length-map}
use Rattle.std.proofs.lemmas.List.Elements.{All-map}
use Rattle.steal_ring.specs.Hands.{IsHandDone as IsAtEnd}
use Rattle.fapp_workers.specs.declared.place.Place.{Place}
use Rattle.fapp_workers.specs.declared.closing.Work.{Work}
use Rattle.fapp_workers.specs.Closings.{kept_by, kept_of}
use Rattle.fapp_workers.specs.WorkerPlaces.{IsFinished, hands_of}

-- what was kept at a place
pub kept-at : (works : List Work) (places : List Place) (k : ℕ) (w : Work) (p : Place) → map kept_by works ≡ map kept_of places → k < length places → kept_by (get_or works k w) ≡ kept_of (get_or places k p)
kept-at works places k w p e less =
    let inside : k < length works = omega (arith, ap length e, length-map works kept_by, length-map places kept_of, less) in
    sym (get_or-map kept_by works k w (kept_of p) inside) ∙ (ap (λ ks. get_or ks k (kept_of p)) e ∙ get_or-map kept_of places k p (kept_of p) less)

pub count-same : (works : List Work) (places : List Place) → map kept_by works ≡ map kept_of places → length works ≡ length places
count-same works places e = omega (arith, ap length e, length-map works kept_by, length-map places kept_of)

pub all-at-end : (works : List Work) (places : List Place) → map kept_by works ≡ map kept_of places → All IsFinished places → All IsAtEnd (hands_of places)
all-at-end [] [] e finished = λ k d less. absurd (omega (arith, less))
all-at-end [] (p ∷ places) e finished = absurd (omega (arith, ap length e))
all-at-end (w ∷ works) places e finished = All-map IsAtEnd (λ (p : Place). p.hand) places (λ k d less.
    let at = kept-at (w ∷ works) places k w d e less in
    subst (λ r. IfOk r (λ done. IsAtEnd (get_or places k d).hand)) (sym (ap (λ kept. kept.1) at)) (finished k d less))
