pub mod Product
pub mod Split
pub mod ProductLaws
pub mod SplitLaws
