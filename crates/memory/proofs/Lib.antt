-- The laws of reads. Assumes nothing.
pub mod Laws
