use Rattle.seat_laws.specs.declared.TheConstants.{WHOLE_SHARE}
use Rattle.std.proofs.Common.{rules, arith, ◌≤◌, ap, ◌∙◌}
use Rattle.best_word.proofs.Keeps.{joins, has_part}
use Rattle.best_word.proofs.seat.BestWord.join.Goals as goal

pub join_seat-requires : goal.join_seat-requires
join_seat-requires c = (search rules, search rules, search rules, search rules, joins _ _ _ _ _ c.args.seat.now.unspent c.args.other.unspent)

pub load-requires : goal.load-requires
load-requires c = let is = c.join_seat.ensures.2 in (search rules, search rules, has_part _ _ _ _ (ap (λ m. m.1) is ∙ c.args.seat.now.empty) (ap (λ m. m.0.spent) is))

pub overflow_add-seat : goal.overflow_add-seat
overflow_add-seat c =
    let is = ap (λ m. m.0.share) c.join_seat.ensures.2 in
    let most : c.join_seat.new.seat.me.0.share ≤ WHOLE_SHARE = c.load.ensures.2.0 in
    let a = c.args.seat.now.shares in
    let b = c.args.other.shares in
    omega arith
