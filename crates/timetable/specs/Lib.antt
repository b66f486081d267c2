-- What the contracts of `timetable` cite, each file a subject.
pub mod Ranges
pub mod Timetables
pub mod Document
pub mod Places
pub mod Rules
pub mod Readings
pub mod Laws
