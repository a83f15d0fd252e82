pub mod Openings
pub mod States
pub mod Formed
pub mod Laid
pub mod Together
pub mod Among
pub mod Sides
pub mod FormLaws
