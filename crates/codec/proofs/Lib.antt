-- What the functions' proofs cite: the steps and the loop of the reader, and those of the writer.
mod ReadSteps
mod ReadTurns
mod WriteSteps
mod WriteTurns
