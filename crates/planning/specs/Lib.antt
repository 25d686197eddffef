pub mod Cards
pub mod States
pub mod Searches
pub mod Slips
pub mod Plans
pub mod PlanSteps
pub mod Demands
