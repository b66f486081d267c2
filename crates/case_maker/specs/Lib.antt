-- What the contracts of `case_maker` cite, each file a subject.
pub mod Draws
pub mod Texts
pub mod Networks
pub mod Timetables
