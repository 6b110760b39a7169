use Rattle.fapp_model.proofs.WorkOrders.{order-is, order-one, order-length}
use Rattle.fapp_model.proofs.laws.one_work_order.Goals as goal

pub returns : goal.returns
returns c = record { is = order-is; one = order-one; whole = order-length }
