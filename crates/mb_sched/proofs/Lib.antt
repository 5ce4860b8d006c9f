pub mod ReadWords
pub mod LongLines
pub mod Numbers
pub mod Pieces
pub mod PrintedHex
pub mod PrintedNumbers
pub mod PrintedWords
pub mod LineLemmas
pub mod FaultyMarks
pub mod EventLimits
pub mod PrintedSchedules
pub mod OnLiterals
pub mod AllLines
pub mod RecordLines
pub mod RecordParts
pub mod PrintedLines
pub mod PrintedConfigs
pub mod PrintedRecords
pub mod CutRecords
pub mod ReadSteps
pub mod ConfigSpellings
pub mod RecordSpellings
mod ScheduleChecks
mod TextChecks
