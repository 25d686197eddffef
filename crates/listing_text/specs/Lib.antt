pub mod Limited
pub mod Listing
pub mod ListingSteps
