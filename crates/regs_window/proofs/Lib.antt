-- The laws of windows. Assumes nothing.
pub mod Laws
