-- Laws of transfer functions: what is written, a register that holds another mask meanwhile, what is stored, thrown and raised, and
-- calls.
mod Written
mod Replaced
mod Stored
mod Raising
mod Called
