pub mod Bodies
pub mod Fits
pub mod Spelling
pub mod Reading
pub mod Stamps
pub mod Signed
pub mod Plans
pub mod AsStamped
