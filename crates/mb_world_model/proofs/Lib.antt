pub mod WorldsOnLiterals
