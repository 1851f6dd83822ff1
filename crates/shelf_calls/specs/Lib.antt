pub mod Files
pub mod Calls
pub mod Opened
pub mod Told
pub mod MemFiles
pub mod MemShelves
pub mod SliceShelves
