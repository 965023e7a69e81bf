-- What the laws for the blend say. Assumes nothing.
pub mod BlendLaws
