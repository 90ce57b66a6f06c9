-- What the proofs of several functions use.
mod Readers
mod Numbers
mod Laws
