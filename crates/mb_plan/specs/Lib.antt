pub mod Faults
pub mod Behind
pub mod Lent
pub mod Planned
pub mod NewViews
pub mod Looked
