-- The system of the program (System), each step from the history before it (FirstSteps, LaterSteps), all events (Reached); and the promise of it
-- (PastCheckpoint).
mod System
mod FirstSteps
mod LaterSteps
mod Reached
mod PastCheckpoint
