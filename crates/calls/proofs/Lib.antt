pub mod Told
pub mod Stands
pub mod Lowest
pub mod Checking
pub mod Steps
pub mod Contents
pub mod Outcomes
