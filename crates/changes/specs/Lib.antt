pub mod Changing
pub mod Answers
pub mod Crowded
