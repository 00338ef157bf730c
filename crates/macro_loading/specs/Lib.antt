pub mod MacroFiles
pub mod Reading
