-- What the functions' proofs cite: laws of reading and of writing, at the expressions of the code.
mod Windows
mod Strokes
