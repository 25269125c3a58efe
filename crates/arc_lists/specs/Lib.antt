pub mod Arcs
pub mod Links
pub mod Lists
pub mod Limits
pub mod Refusals
pub mod Meanings
