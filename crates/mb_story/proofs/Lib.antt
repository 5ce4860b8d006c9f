-- `ArrivalLaws`: the one to whom an event comes is there. `Played`: one more event of a story.
pub mod ArrivalLaws
pub mod Played
