-- The laws of a draw's definitions. Assumes nothing.
pub mod Lines
pub mod Given
