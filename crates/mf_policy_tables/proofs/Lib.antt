pub mod Regular
