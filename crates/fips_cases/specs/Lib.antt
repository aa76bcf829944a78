-- What the lines of a file of vectors say, and the Monte Carlo test.
pub mod Values
pub mod Monte
