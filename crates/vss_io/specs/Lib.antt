-- The definitions of devices and of what is read and written.
pub mod Faults
pub mod Shown
pub mod Reading
pub mod Written
pub mod Line
pub mod Calls
pub mod MemSink
pub mod MemFiles
pub mod MemShelf
