pub mod RecordLaws
pub mod NodeLaws
pub mod JournalLaws
pub mod ReadConfigs
pub mod WrittenLaws
pub mod KeptWritten
