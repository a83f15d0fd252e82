pub mod Layouts
pub mod PlacedLaws
pub mod Beginning
pub mod Rows
pub mod Rings
pub mod Chains
pub mod ImageLaws
pub mod Segments
