pub mod Counted
pub mod Ballots
pub mod Votes
