pub mod OneMore
pub mod Chains
pub mod Numbers
pub mod Messages
pub mod Replies
pub mod Whole
mod Worked
