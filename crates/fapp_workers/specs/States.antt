-- A shared bound as a bound.
use Rattle.search_log.specs.Bounds.{BoundState}
use Rattle.best_word.specs.Seats.{view_of}
use Rattle.fapp_workers.specs.declared.bound.SharedBound.{SharedBound}
use Rattle.fapp_workers.specs.SharedBounds.{least_offer}

abbrev pub state_of : SharedBound → BoundState
state_of bound =
    record {
      began = bound.began.code;
      told = bound.told.code;
      least = least_offer (view_of bound.seat).offers;
    }
