pub mod Forms
pub mod Walk
pub mod Readings
pub mod Outcomes
pub mod Exactly
pub mod Written
pub mod Misfits
