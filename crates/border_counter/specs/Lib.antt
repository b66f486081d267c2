-- What the contracts of `border_counter` cite, each file a subject.
pub mod Counter
pub mod Adding
pub mod Fitting
pub mod Sizes
