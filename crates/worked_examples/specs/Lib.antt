pub mod Setting
pub mod Worked
