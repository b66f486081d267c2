-- What the contracts of `plan_decoder` cite, each file a subject.
pub mod Decoding
