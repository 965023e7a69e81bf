-- Tables of numbers, and what demand 1 says of each routine. Assumes nothing.
pub mod Table
pub mod Demand1
