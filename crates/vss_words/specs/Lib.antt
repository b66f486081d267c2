-- What the contracts of `vss_words` cite, each file a subject.
pub mod Commands
pub mod Forms
pub mod Numbers
pub mod Plain
