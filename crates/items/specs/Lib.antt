pub mod Numbers
pub mod Items
pub mod Meant
pub mod Exactly
