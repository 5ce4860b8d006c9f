-- What each step of a host keeps, each world keeps (`KeptByWorlds`), and each event is steps of hosts (`StepsMade`).
-- In a world that nothing stopped each entry of a history rests on what was delivered, noted and sent (`Grown`, `Standings`); what a correct host
-- stamps has the values of the grammar, and its certificates were issued (`AllKnown`, `OwnStamps`). All of it together is the record `Facts`, which
-- each such world has (`FactsOf`).
pub mod KeptByWorlds
pub mod StepsMade
pub mod Grown
pub mod Standings
pub mod Facts
pub mod Knows
pub mod AcceptedParts
pub mod OwnIssued
pub mod Unspent
pub mod AllKnown
pub mod OwnStamps
pub mod NobodyThere
pub mod FactsOf
pub mod Asked
