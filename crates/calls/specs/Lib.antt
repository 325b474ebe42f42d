pub mod Refusal
pub mod Walk
pub mod Reading
pub mod Answers
