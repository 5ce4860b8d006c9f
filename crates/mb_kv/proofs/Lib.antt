pub mod EntryLaws
pub mod PartLaws
pub mod KeptParts
