pub mod TransducerFiles
