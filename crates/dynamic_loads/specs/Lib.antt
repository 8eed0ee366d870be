pub mod Bringing
pub mod Running
pub mod Taking
pub mod OfGroupEngine
pub mod OfAgingCycles
