-- What the contracts of `node_groups` cite, each file a subject.
pub mod Reach
pub mod Touch
pub mod Forest
pub mod Ends
pub mod Groups
pub mod Parts
