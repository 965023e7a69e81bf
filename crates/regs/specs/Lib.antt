-- What the registers mean. Assumes nothing.
pub mod Registers
pub mod Display
pub mod Background
pub mod Reading
