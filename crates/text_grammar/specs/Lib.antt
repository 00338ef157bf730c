pub mod Faults
pub mod Bytes
pub mod Prefixes
pub mod Numbers
pub mod Systems
pub mod Spots
pub mod Signs
pub mod Results
