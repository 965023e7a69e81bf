-- The laws of layers. Assumes nothing.
pub mod Laws
