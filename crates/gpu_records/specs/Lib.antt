-- What the step on records gives, for every input, and the bytes that a row of records stands for. Assumes nothing.
pub mod Step
pub mod Entries
