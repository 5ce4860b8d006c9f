-- One file for each group of statements: what the hosts are and say (Data); the normal case (NormalCase); the change of the view and the state of others
-- (ViewChanges); a valid message of each kind (ValidMessages); what came is found (Tables), what is found came (Finds), and gives place to what comes later
-- (Replaces); what a host stamps, gates, logs and causes to leave a view (Stamps); what it sends, and LOGs (Answers); a state that is installed (States); one
-- event (OneEvent); what an event leaves, and what it does not (Events); what a host says is what it holds (Contents).
mod Data
mod NormalCase
mod ViewChanges
mod ValidMessages
mod Tables
mod Finds
mod Replaces
mod Stamps
mod Answers
mod States
mod OneEvent
mod Events
mod Contents
