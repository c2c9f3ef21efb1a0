-- Demands 1 and 2 of document 00, each as one statement. Demand 3 is crates/demand_3/specs/Guarantee.antt.
pub mod Demand1
pub mod Demand2
