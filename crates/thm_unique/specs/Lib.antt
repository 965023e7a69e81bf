-- The useless programs, and the inputs on which they fail. Assumes nothing.
pub mod Inputs
pub mod Useless
