-- The lemmas and laws of `timetable`, each file a subject.
pub mod ZipLemmas
pub mod PlaceLemmas
pub mod RuleLemmas
pub mod TimetableLemmas
pub mod ReadingLaws
