-- What the pass makes of a row of entries, and which pixel each holds. Assumes nothing.
pub mod Put
pub mod Order
pub mod Code
