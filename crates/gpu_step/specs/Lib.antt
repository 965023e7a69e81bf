-- What the line-end step gives. Assumes nothing.
pub mod Step
