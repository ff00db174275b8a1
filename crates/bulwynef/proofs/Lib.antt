-- Lemmas of the proofs.
mod Named
