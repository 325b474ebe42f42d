pub mod Listing
pub mod Book
pub mod History
pub mod TreeOf
pub mod Claim
pub mod Telling
pub mod Bench
