-- What the draw over a lent row of records gives, for every input. Assumes nothing.
pub mod Draw
