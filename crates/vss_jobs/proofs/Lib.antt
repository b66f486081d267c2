-- Laws of jobs, each file a subject.
pub mod AskedNames
pub mod KeptFiles
pub mod OneJob
pub mod Stages
