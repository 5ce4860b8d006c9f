pub mod Behind
pub mod SameMarks
pub mod InnerAside
pub mod FloorsBehind
pub mod Standing
