pub mod Fields
pub mod Listing
pub mod Assembly
pub mod Reading
pub mod Going
pub mod Holding
pub mod Laws
