-- Where an address of the bus falls. Assumes nothing.
pub mod Places
