pub mod Laps
pub mod Lapped
pub mod Places
