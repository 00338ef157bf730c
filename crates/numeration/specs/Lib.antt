pub mod Words
pub mod Systems
pub mod Representation
pub mod Relations
pub mod SomeTracks
