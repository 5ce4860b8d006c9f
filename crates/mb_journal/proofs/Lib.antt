pub mod Lists
pub mod RecordLemmas
pub mod Reading
pub mod Crashes
pub mod OpenLemmas
pub mod MakeLemmas
pub mod Spelled
