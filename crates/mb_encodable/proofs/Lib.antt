-- In each history to which a host's steps lead, what it keeps and sends has the values of the grammar. What came in was read; of that alone all is made
-- that a host stamps (`ReadKnown`; `Batches`, `Changes`, `Logs`, and so `Stamps`), while there is room (`Room` by `Unstamped`). So each
-- history is fit, behind each piece of a step, too (`Fit`). What is found there has the values (`Found`, `Gates`, `States`), and so have the messages that
-- aren't stamped (`Messages`). None of those that are sent is too long (`Sizes`, `ShownSizes`, `StampSizes`): each can be encoded (`Letters`), at each moment
-- at which it is sent (`Answers`).
pub mod ReadKnown
pub mod Batches
pub mod Changes
pub mod Unstamped
pub mod Room
pub mod Logs
pub mod Stamps
pub mod Fit
pub mod Found
pub mod States
pub mod Gates
pub mod Messages
pub mod Sizes
pub mod ShownSizes
pub mod StampSizes
pub mod Letters
pub mod Answers
