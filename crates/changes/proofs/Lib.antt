pub mod Storing
pub mod Formatting
pub mod Making
pub mod Removing
pub mod NoRoom
