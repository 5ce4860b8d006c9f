pub mod SameShapes
pub mod Contained
pub mod Statuses
pub mod ConfigLaws
pub mod RecordTexts
