pub mod Items
pub mod Changes
pub mod Equality
pub mod Exact
