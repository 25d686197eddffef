pub mod LimitedLaws
pub mod LineLaws
pub mod ListingLaws
pub mod ListingTheorems
