-- The proof that demand 3 carries over to records. No contract cites it. Assumes nothing.
pub mod Again
