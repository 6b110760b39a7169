use Rattle.std.proofs.Common.{refl, ap, le_trans}
use Rattle.best_word.specs.Seats.{view_of}
use Rattle.fapp_workers.specs.SharedBounds.{least_offer}
use Rattle.fapp_workers.proofs.Bounds.{low-offers, later-load}
use Rattle.fapp_workers.proofs.bound.SharedBoundBound.now.Goals as goal

pub returns-clause-tells : goal.returns-clause-tells
returns-clause-tells c =
    let b = c.args.self.now in
    record {
      began = refl;
      told = refl;
      falls = le_trans c.now-self.ensures.least (low-offers (view_of b.seat).least b.told.code (view_of b.seat).offers b.known b.seat.offered);
      least = ap (λ v. least_offer v.offers) c.now-self.ensures.view;
    }

pub returns-clause-since : goal.returns-clause-since
returns-clause-since c was h = later-load was.seat c.args.self.now.seat c.now-self.new.seat c.now-self.result.code c.now-self.ensures.least c.now-self.ensures.same c.now-self.ensures.view h
