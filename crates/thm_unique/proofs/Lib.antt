-- The proofs that the contracts are tight. No contract cites them. Assumes nothing.
--
-- Once: each public contract has one result. Useless: each useless program fails the draw's contract, on a named input. Tried:
-- there are such programs. The others have what the named inputs come to: Accepted: their verdicts. Backdrop: the first pixel
-- of `dark` and `lit`. Winners: the priority of a winner. Corner: the sprites of `covered p`. Covered: the entries they leave.
pub mod Once
pub mod Accepted
pub mod Backdrop
pub mod Winners
pub mod Corner
pub mod Covered
pub mod Useless
pub mod Tried
