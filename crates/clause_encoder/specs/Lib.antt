-- What the contracts of `clause_encoder` cite, each file a subject.
pub mod Writing
pub mod Gathering
pub mod NetworkStore
pub mod PairFitting
pub mod WalkFitting
pub mod TrainStore
pub mod Fitting
pub mod Meeting
pub mod TrainFaults
pub mod TableLists
pub mod Maps
pub mod Families
pub mod Sizes
pub mod Plans
pub mod PlanFits
pub mod Encoding
pub mod SweepTables
