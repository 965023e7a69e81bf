-- What a window holds and permits. Assumes nothing.
pub mod Windows
