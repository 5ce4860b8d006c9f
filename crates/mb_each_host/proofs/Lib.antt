-- Each host by itself carries out its rules (`CarriedOut`, from what is due of requests, views, openings and votes) and keeps its limits
-- (`LogLimits`), in each world; what it refuses goes no further (`Refused`).
pub mod Words
pub mod DueOrders
pub mod DueViews
pub mod DueOpenings
pub mod DueVotes
pub mod Checkpointed
pub mod CarriedOut
pub mod LogFloor
pub mod LogLimits
pub mod Refused
