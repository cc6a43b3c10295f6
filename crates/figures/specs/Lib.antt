pub mod Worked
pub mod Figures
