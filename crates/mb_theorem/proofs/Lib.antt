-- All promises of each world, put together: agreement from `mb_views`, one list and results from `mb_one_log`, what is justified, bounded and blameless
-- from `mb_justified`, and what is due from `mb_each_host` and `mb_obligations`; that each event is a step of the host to which it comes (`EventsStep`), which executes what the event completes (`ExecutesAtOnce`), and that none
-- is answered with blame where it brings what correct hosts stamped (`NobodyBlamed`).
pub mod EventsStep
pub mod ExecutesAtOnce
pub mod NobodyBlamed
pub mod Promised
