-- What any number of draws on one row of records leave in it. Assumes nothing.
pub mod Again
