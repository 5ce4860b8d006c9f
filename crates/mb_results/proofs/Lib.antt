-- Why the line is the sequential service in words of its machine (`States`, `Replies`, `Results`), and why a client accepts once f+1 hosts said the same (`Tallies`,
-- `Turns`, `Accepting`).
pub mod States
pub mod Replies
pub mod Results
pub mod Tallies
pub mod Turns
pub mod Accepting
