-- What signed numbers are. Assumes nothing.
pub mod Signed
