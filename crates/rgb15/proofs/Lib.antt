-- The laws of colours. Assumes nothing.
pub mod Laws
