pub mod Examples
pub mod Hand
