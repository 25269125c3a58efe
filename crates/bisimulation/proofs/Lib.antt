mod Decides
mod Enumerated
mod Among
mod Listed
mod Accepts
mod Union
