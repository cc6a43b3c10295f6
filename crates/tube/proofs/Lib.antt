pub mod Directions
pub mod Judged
pub mod Rows
pub mod Soundness
pub mod Sequences
pub mod Keeping
pub mod Formed
pub mod Counted
