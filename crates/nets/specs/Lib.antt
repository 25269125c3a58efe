pub mod Meaning
pub mod Roles
pub mod Firing
pub mod Rows
pub mod Copies
pub mod Tables
pub mod Made
