pub mod AuditLaws
pub mod LearnLaws
pub mod LearntAll
