-- Views that are joined, each into the one before it.
use Rattle.std.proofs.Common.{◌≡◌, ◌≢◌, ℕ, ◌-◌, ◌/◌, Bool, false, List, [], ◌∷◌, ◌++◌, map, sym, ap, ◌∙◌, subst}
use Rattle.std.specs.List.{All, AllPairs, Contains}
use Rattle.std.proofs.lemmas.List.{append_assoc, append-nil}
use Rattle.std.proofs.lemmas.List.Elements.{All-cons, All-contains, All-contains_itself, All-nil, All-weaker, Contains-append_left, Contains-append_right}
use Rattle.nogood_pool.specs.declared.seat.Pool.{Pool}
use Rattle.nogood_pool.specs.declared.seat.PoolSeat.{PoolSeat}
use Rattle.nogood_pool.specs.declared.view.HeldRow.{HeldRow}
use Rattle.nogood_pool.specs.declared.view.PoolView.{PoolView}
use Rattle.nogood_pool.specs.Pool.{after_join, given_half, kept_half}
use Rattle.nogood_pool.specs.Seats.{view_of, IsSeatOf}
use Rattle.nogood_pool.specs.Dealt.{IsSplitFrom, KeepsAllButShare}
use Rattle.nogood_pool.specs.Ends.{ArePooled, IsWholePool, published_by}

-- a view has what some views published, in order, and whatever they saw
pub record IsUnited (views : List PoolView) (all : PoolView) : Type 0 where
  pub published : all.published ≡ published_by views
  pub seen : All (λ v. All (Contains all.seen) v.seen) views

pub united-one : (v : PoolView) → IsUnited (v ∷ []) v
united-one v = record {
  published = sym (append-nil v.published);
  seen = All-cons (λ (u : PoolView). All (Contains v.seen) u.seen) v [] (All-contains_itself v.seen) (All-nil _);
}

pub united-more : (v w : PoolView) (views : List PoolView) → IsUnited views w → IsUnited (v ∷ views) (after_join v w)
united-more v w views h =
    let more : List HeldRow = v.seen ++ w.seen in
    record {
      published = ap (λ held. v.published ++ held) h.published;
      seen = All-cons (λ (u : PoolView). All (Contains more) u.seen) v views
          (All-weaker (Contains v.seen) (Contains more) (λ g has. Contains-append_left v.seen w.seen g has) v.seen (All-contains_itself v.seen))
          (All-weaker (λ (u : PoolView). All (Contains w.seen) u.seen) (λ (u : PoolView). All (Contains more) u.seen)
          (λ u has. All-weaker (Contains w.seen) (Contains more) (λ g in'. Contains-append_right v.seen w.seen g in') u.seen has) views h.seen);
    }

pub united-all : (views : List PoolView) (all : PoolView) → IsUnited views all → IsWholePool all → ArePooled views
united-all views all h whole = record {
  seen = All-weaker (λ (v : PoolView). All (Contains all.seen) v.seen) (λ (v : PoolView). All (Contains (published_by views)) v.seen)
      (λ v has. All-weaker (Contains all.seen) (Contains (published_by views))
      (λ g in'. subst (λ held. Contains held g) h.published (All-contains (Contains all.published) all.seen g whole.seen in')) v.seen has) views h.seen;
  distinct = subst (AllPairs (λ (g : HeldRow) (k : HeldRow). g.row ≢ k.row)) h.published whole.distinct;
}

-- the seats behind some of a list were united
pub record IsTail (all rest : List PoolSeat) (v : PoolView) : Type 0 where
  pub gone : List PoolSeat
  pub parts : all ≡ rest ++ gone
  pub united : IsUnited (map view_of gone) v

pub tail-one : (all rest : List PoolSeat) (seat : PoolSeat) → all ≡ rest ++ seat ∷ [] → IsTail all rest (view_of seat)
tail-one all rest seat e = record { gone = seat ∷ []; parts = e; united = united-one (view_of seat) }

pub tail-more : (all some rest : List PoolSeat) (seat : PoolSeat) (w x : PoolView) → some ≡ rest ++ seat ∷ [] → x ≡ after_join (view_of seat) w → IsTail all some w → IsTail all rest x
tail-more all some rest seat w x e joined h = record {
  gone = seat ∷ h.gone;
  parts = h.parts ∙ (ap (λ (xs : List PoolSeat). xs ++ h.gone) e ∙ append_assoc rest (seat ∷ []) h.gone);
  united = subst (IsUnited (map view_of (seat ∷ h.gone))) (sym joined) (united-more (view_of seat) w (map view_of h.gone) h.united);
}

pub tail-all : (all : List PoolSeat) (first w x : PoolView) → x ≡ after_join first w → IsTail all [] w → IsWholePool x → ArePooled (first ∷ map view_of all)
tail-all all first w x joined h whole =
    subst (λ (xs : List PoolSeat). ArePooled (first ∷ map view_of xs)) (sym h.parts)
    (united-all (first ∷ map view_of h.gone) x (subst (IsUnited (first ∷ map view_of h.gone)) (sym joined) (united-more first w (map view_of h.gone) h.united)) whole)

-- the seat is still one of the pool
pub seat-on : (pool : Pool) (s t : PoolSeat) → IsSeatOf pool s → t.seat.table_id ≡ s.seat.table_id → (view_of t).rows ≡ (view_of s).rows → (view_of t).instance ≡ (view_of s).instance → IsSeatOf pool t
seat-on pool s t own table rows instance = record { table = table ∙ own.table; rows = rows ∙ own.rows; instance_is = instance ∙ own.instance_is }

pub kept-on : (v w x : PoolView) → v.spent ≡ false → KeepsAllButShare v w → x ≡ kept_half w → KeepsAllButShare v x
kept-on v w x un kept e =
    let half : x ≡ kept_half (record v { share = w.share }) = e ∙ ap kept_half kept in
    let share : x.share ≡ w.share - w.share / 2 = ap (λ (u : PoolView). u.share) e in
    half ∙ (ap (λ (b : Bool). record v { spent = b; share = w.share - w.share / 2 }) (sym un) ∙ ap (λ (n : ℕ). record v { share = n }) (sym share))

pub split-on : (v w x : PoolView) → KeepsAllButShare v w → x ≡ given_half w → IsSplitFrom v x
split-on v w x kept e = record {
  instance_is = ap (λ (u : PoolView). u.instance) e ∙ ap (λ (u : PoolView). u.instance) kept;
  rows_are = ap (λ (u : PoolView). u.rows) e ∙ ap (λ (u : PoolView). u.rows) kept;
  counter = ap (λ (u : PoolView). u.counter) e ∙ ap (λ (u : PoolView). u.counter) kept;
  writing = ap (λ (u : PoolView). u.writing) e;
  published = ap (λ (u : PoolView). u.published) e;
  seen = ap (λ (u : PoolView). u.seen) e ∙ ap (λ (u : PoolView). u.published ++ u.seen) kept;
  trail = ap (λ (u : PoolView). u.trail) e;
}
