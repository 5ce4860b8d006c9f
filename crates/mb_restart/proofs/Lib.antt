-- Why a host with a journal stays one: what a file says again (`Reopened`), what a host sends and stamps behind more events (`GoneOn`), and where these
-- events come to it in a world (`Pools`, `InWorlds`); why serving makes such runs (`Served`); why a record is written in two steps (`Orders`); and that there are such runs (`Witness`).
pub mod Reopened
pub mod GoneOn
pub mod Pools
pub mod InWorlds
pub mod Served
pub mod Orders
pub mod Witness
