-- What the contracts about the clause list cite, each file a subject.
pub mod Ranges
pub mod Cones
pub mod Numbers
pub mod RunClauses
pub mod StopClauses
pub mod PairClauses
pub mod BorderClauses
pub mod WholeList
pub mod Coding
pub mod Example
pub mod RunExample
pub mod Values
pub mod Orders
pub mod Rows
pub mod Differing
