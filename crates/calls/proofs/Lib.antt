pub mod UnderWay
pub mod InOrder
pub mod Starting
pub mod ByPlan
pub mod Answering
pub mod Handed
