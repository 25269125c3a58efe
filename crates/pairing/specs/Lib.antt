pub mod Closure
pub mod Outnumbering
pub mod Refusals
pub mod Answers
pub mod Search
pub mod Laws
