pub mod Outside
pub mod Status
pub mod Top
pub mod WordBuffer
