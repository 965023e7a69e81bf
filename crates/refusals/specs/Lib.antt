-- Why a call is refused. Assumes nothing.
pub mod Refusal
