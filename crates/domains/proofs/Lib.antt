pub mod BoxKept
pub mod GustReach
pub mod Carried
pub mod AllAxes
