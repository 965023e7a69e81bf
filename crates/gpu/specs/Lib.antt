-- What a draw gives, for every input. Assumes nothing.
pub mod Line
pub mod Draw
pub mod Code
