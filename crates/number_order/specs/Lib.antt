pub use Rattle.numeration.specs.Systems
pub use Rattle.numeration.specs.Relations
pub mod Orders
pub mod PairKeys
pub mod OrderWidth
