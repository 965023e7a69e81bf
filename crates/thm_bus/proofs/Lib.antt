-- The proof of the laws of reads and stores, and what it is made of. No contract cites them. Assumes nothing.
--
-- Bytes: bytes put twice. Put: the memories with bytes put at two places. Mirrors: addresses that reach one byte. BusLaws has
-- the proof.
pub mod Bytes
pub mod Put
pub mod Mirrors
pub mod BusLaws
