pub mod Booleans
pub mod Splice
pub mod Numbers
pub mod Examples
pub mod Compare
pub mod Shifts
pub mod Runs
