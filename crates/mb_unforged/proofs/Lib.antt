-- Where all that happens is made of messages of the system itself, nothing is forged. All certificates and requests in what a host stamps and shows are
-- those of what it accepted and stamped (`Forms`, `Searches`, `Stamps`); what it sends is that, a LOG of it, or bare of both (`Letters`); what is
-- read of a message is what was spelled (`ReadAgain`). So it is of what correct hosts send (`Ready`, `Genuine`, `HostSteps`) and of what faulty hosts stamp
-- (`FaultyStamps`), with each event (`Events`), and with all (`NoneForged`). The events of a soak are as they are drawn (`SameWorlds`, `DrawnEvents`), and
-- none of them is stopped (`Soaked`). What a correct host sends is genuine, as long as nothing forged was delivered
-- (`Reached`, `Sent`).
pub mod Forms
pub mod Searches
pub mod Stamps
pub mod ReadAgain
pub mod Letters
pub mod Ready
pub mod Genuine
pub mod HostSteps
pub mod FaultyStamps
pub mod Events
pub mod NoneForged
pub mod SameWorlds
pub mod Reached
pub mod Sent
pub mod DrawnEvents
pub mod Soaked
