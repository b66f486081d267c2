-- Laws of answers, each file a subject.
pub mod Nothing
pub mod OneAnswer
pub mod Pieces
pub mod TrueAnswer
