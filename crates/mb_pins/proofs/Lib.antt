-- Logs and LOGs (`Logs`); what outcomes tell (`TellsWhy`); what an event adds to the world (`WorldAdds`), with the strings that a step notes (`Strings`); that what
-- is taken was valid (`OnlyValid`), where no closed gate is passed (`ClosedGates`), and what is refused is silent (`Silent`); what a primary orders (`Batches`); all that
-- a step sends (`Sent`); what a JOIN shows (`Joins`); the limits as numbers (`Limits`), what is done with room (`Rooms`), and how far ahead is ordered (`Ahead`).
pub mod Logs
pub mod TellsWhy
pub mod Strings
pub mod WorldAdds
pub mod ClosedGates
pub mod OnlyValid
pub mod Silent
pub mod Batches
pub mod Sent
pub mod Joins
pub mod Limits
pub mod Rooms
pub mod Ahead
