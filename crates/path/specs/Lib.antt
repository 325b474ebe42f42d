pub mod Utf8
pub mod Name
pub mod Path
pub mod Valid
pub mod Walk
pub mod Spelling
