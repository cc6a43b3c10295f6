pub mod Places
pub mod Inside
pub mod Checks
pub mod Whole
pub mod Step
pub mod Views
pub mod Same
pub mod Halves
