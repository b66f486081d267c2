-- What the contracts of `vss_answers` cite, each file a subject.
pub mod Answers
pub mod CheckTexts
pub mod Laws
pub mod PrintedNames
pub mod RefusalTexts
pub mod RefusalWords
pub mod Statuses
pub mod Texts
pub mod Truth
