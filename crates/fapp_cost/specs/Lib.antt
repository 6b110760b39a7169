pub mod PlanCost
pub mod CostLaws
