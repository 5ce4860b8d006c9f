pub mod Answers
pub mod Tables
pub mod Happening
pub mod Sent
pub mod Contents
pub mod Reports
