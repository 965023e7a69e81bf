-- What reads and stores give. Assumes nothing.
pub mod Memories
pub mod Read
pub mod Store
