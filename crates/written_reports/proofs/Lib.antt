-- Laws of written reports, each file a subject.
pub mod Made
pub mod Printable
pub mod ShortNames
pub mod Told
