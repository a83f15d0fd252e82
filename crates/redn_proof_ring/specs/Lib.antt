pub mod Plans
pub mod Turns
pub mod LapLaws
pub mod Apart
pub mod Layouts
pub mod Runs
pub mod RingLaws
