-- What came is found until something takes its place (`KeptTables`): requests and wishes (`KeptRequests`), parts of a state and snapshots (`KeptParts`),
-- VIEW_CHANGEs and ENTERs (`KeptChanges`), OPENs, NEW_VIEWs, plans and evidence (`KeptOpenings`), CHECKPOINTs and what is stable by them (`KeptStable`,
-- over `FoundMembers`: f+1 that agree make a certificate). What is found came (`WhatCame`, `EntriesCame`, `StableCame`, `TablesCame`), and gives place only in
-- time (`TablesReplaced`).
pub mod FoundMembers
pub mod KeptRequests
pub mod KeptParts
pub mod KeptChanges
pub mod KeptOpenings
pub mod KeptStable
pub mod KeptTables
pub mod WhatCame
pub mod EntriesCame
pub mod StableCame
pub mod TablesCame
pub mod TablesReplaced
