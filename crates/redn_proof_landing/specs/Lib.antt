pub mod Homes
pub mod Requested
pub mod Segments
pub mod LandingLaws
