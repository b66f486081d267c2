-- What the contracts of `formula_laws` cite, each file a subject.
pub mod Laws
