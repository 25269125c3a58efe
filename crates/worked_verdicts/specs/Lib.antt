pub mod Nets
pub mod Worked
