pub mod Directions
pub mod Images
pub mod Refused
pub mod Sampled
pub mod SupportNumbers
pub mod Walks
pub mod Wide
