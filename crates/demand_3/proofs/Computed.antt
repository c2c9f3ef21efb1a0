-- Runs written out and computed. A check comes to them before it comes to the theorem, so that a false statement is
-- refused by its numbers.
pub mod Tested
pub mod Witnesses
