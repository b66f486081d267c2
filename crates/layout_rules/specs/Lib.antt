-- The definitions of sweep faults and of classes.
pub mod Faults
pub mod Classes
