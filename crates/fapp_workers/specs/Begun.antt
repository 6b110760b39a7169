-- An assignment that is kept and offered before the workers start.
use Rattle.std.specs.Prelude.{◌≡◌, ℕ, ◌≤◌, List, [], ◌∷◌, slice_index_or, Contains, Option, Some, None}
use Rattle.fapp_model.specs.declared.instance.Instance.{Instance}
use Rattle.fapp_model.specs.Costs.{cost}
use Rattle.fapp_model.specs.Tags.{code_of}
use Rattle.search_log.specs.declared.log.KeptPlan.{KeptPlan}
use Rattle.search_log.specs.LogStates.{LogState}
use Rattle.search_log.specs.Logs.{empty_log}
use Rattle.best_word.specs.declared.seat.BestWord.{BestWord}
use Rattle.best_word.specs.Seats.{view_of, IsSeatOf}
use Rattle.fapp_workers.specs.declared.place.Place.{Place}

-- nothing was kept or offered yet
pub record IsFresh (levels : ℕ) (place : Place) : Type 0 where
  pub levels_are : (view_of place.seat).levels ≡ levels
  pub offers : (view_of place.seat).offers ≡ []
  pub log : place.log ≡ empty_log

-- the assignment is kept, and its cost was offered; all else is as it was
pub record IsBegun (instance : Instance) (word : BestWord) (plan : List ℕ)
    (old new : Place) : Type 0 where
  pub hand : new.hand ≡ old.hand
  pub pool_seat : new.pool_seat ≡ old.pool_seat
  pub seat : IsSeatOf word new.seat
  pub share : (view_of new.seat).share ≡ (view_of old.seat).share
  pub levels_are : (view_of new.seat).levels ≡ (view_of old.seat).levels
  pub offers : (view_of new.seat).offers ≡ code_of (cost instance plan) ∷ []
  pub log : new.log ≡ record {
    lines = [];
    segments = [];
    best = Some (record { cost = cost instance plan; plan = plan });
  }

-- the first place has offered its cost
abbrev pub OffersFirst : Instance → List ℕ → List Place → Type 0
OffersFirst instance plan places =
    (d : Place) → Contains (view_of (slice_index_or places 0 d).seat).offers
    (code_of (cost instance plan))

-- an assignment is kept that costs no more
abbrev pub KeepsAsCheap : Option KeptPlan → ℕ → Type 0
KeepsAsCheap None code = ⊥
KeepsAsCheap (Some best) code = code_of best.cost ≤ code

-- the first log keeps an assignment that costs no more, and so does the word
pub record IsStartUsed (instance : Instance) (plan : List ℕ) (logs : List LogState)
    (word : ℕ) : Type 0 where
  pub kept : KeepsAsCheap (slice_index_or logs 0 empty_log).best (code_of (cost instance plan))
  pub word_is : word ≤ code_of (cost instance plan)
