-- Laws of reads and stores. Assumes nothing.
pub mod BusLaws
