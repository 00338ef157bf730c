pub mod MorphismFiles
