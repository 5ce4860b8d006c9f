pub mod CountedReplies
pub mod AcceptedResults
