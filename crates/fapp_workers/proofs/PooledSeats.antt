-- The close of the pool.
use Rattle.std.proofs.Common.{◌≡◌, ◌≢◌, ℕ, ◌<◌, List, [], ◌∷◌, ◌++◌, length, get_or, All, AllPairs, Contains, refl, sym, ap, ◌∙◌, subst, arith}
use Rattle.std.specs.List.{AllZip}
use Rattle.std.proofs.lemmas.List.{get_or-map, length-map, map-append}
use Rattle.std.proofs.lemmas.List.Elements.{All-cons, All-contains, All-head, All-nil, All-tail, All-weaker}
use Rattle.search_log.specs.Contents.{KnownRow}
use Rattle.nogood_pool.specs.declared.view.HeldRow.{HeldRow}
use Rattle.nogood_pool.specs.declared.view.PoolView.{PoolView}
use Rattle.nogood_pool.specs.Ends.{ArePooled, published_by}
use Rattle.pool_rows.specs.Copying.{all_known, held_known}
use Rattle.pool_rows.proofs.Asking.{from-map, to-map}
use Rattle.fapp_workers.specs.Ends.{AreClosed, IsSeatEnd, WorkerEnd, all_published}
use Rattle.fapp_workers.proofs.Homes.{number_of}

-- the rows that the workers published are those of their seats
rows-are : (views : List PoolView) (ends : List WorkerEnd) → AllZip IsSeatEnd views ends → all_published ends ≡ all_known (published_by views)
rows-are [] [] zip = refl
rows-are [] (e ∷ ends) zip = absurd zip
rows-are (v ∷ views) [] zip = absurd zip
rows-are (v ∷ views) (e ∷ ends) zip =
    ap (λ rows. rows ++ all_published ends) zip.0.published ∙ (ap (λ rows. all_known v.published ++ rows) (rows-are views ends zip.1) ∙ sym (map-append held_known v.published (published_by views)))

apart-known : (held : List HeldRow) → AllPairs (λ (g : HeldRow) (h : HeldRow). g.row ≢ h.row) held → AllPairs (λ (a : KnownRow) (b : KnownRow). a.number ≢ b.number) (all_known held)
apart-known [] apart i j d less inside = absurd (omega (arith, inside))
apart-known (g ∷ held) apart i j d less inside = λ same.
    let long = length-map (g ∷ held) held_known in
    let at : (k : ℕ) → k < length (g ∷ held) → get_or (all_known (g ∷ held)) k d ≡ held_known (get_or (g ∷ held) k g) = λ k l. get_or-map held_known (g ∷ held) k g d l in
    apart i j g less (omega (arith, inside, long)) (sym (ap number_of (at i (omega (arith, inside, long, less)))) ∙ (same ∙ ap number_of (at j (omega (arith, inside, long)))))

-- what some views saw and the workers copied was published by all views
copies-in : (held : List HeldRow) (views : List PoolView) (ends : List WorkerEnd) → All (λ (v : PoolView). All (Contains held) v.seen) views → AllZip IsSeatEnd views ends →
    All (λ (e : WorkerEnd). All (Contains (all_known held)) e.copied) ends
copies-in held [] [] has zip = All-nil _
copies-in held [] (e ∷ ends) has zip = absurd zip
copies-in held (v ∷ views) [] has zip = absurd zip
copies-in held (v ∷ views) (e ∷ ends) has zip = All-cons (λ (x : WorkerEnd). All (Contains (all_known held)) x.copied) e ends
    (All-weaker (Contains (all_known v.seen)) (Contains (all_known held)) seen-row e.copied zip.0.copied)
    (copies-in held views ends (All-tail (λ (u : PoolView). All (Contains held) u.seen) v views has) zip.1)
  where
    seen-row : (row : KnownRow) → Contains (all_known v.seen) row → Contains (all_known held) row
    seen-row row m =
        let from = from-map held_known v.seen row m in
        let seen = All-contains (Contains held) v.seen from.0 (All-head (λ (u : PoolView). All (Contains held) u.seen) v views has) from.1 in
        subst (Contains (all_known held)) from.2 (to-map held_known held from.0 seen)

pub closes : (first : PoolView) (views : List PoolView) (ends : List WorkerEnd) → ArePooled (first ∷ views) → AllZip IsSeatEnd views ends → AreClosed (all_known first.published) ends
closes first views ends pooled zip =
    let held : List HeldRow = published_by (first ∷ views) in
    let same : all_known held ≡ all_known first.published ++ all_published ends =
    map-append held_known first.published (published_by views) ∙ ap (λ rows. all_known first.published ++ rows) (sym (rows-are views ends zip)) in
    record {
      distinct = subst (AllPairs (λ (a : KnownRow) (b : KnownRow). a.number ≢ b.number)) same (apart-known held pooled.distinct);
      copied = subst (λ rows. All (λ (e : WorkerEnd). All (Contains rows) e.copied) ends) same
          (copies-in held views ends (All-tail (λ (u : PoolView). All (Contains held) u.seen) first views pooled.seen) zip);
    }
