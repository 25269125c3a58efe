pub mod Bisimulation
pub mod Obligations
pub mod Lists
pub mod Verdicts
pub mod Theorems
pub mod Laws
pub mod Related
pub mod Spelled
