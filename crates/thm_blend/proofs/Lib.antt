-- The laws for the blend, proved. Assumes nothing.
pub mod BlendLaws
