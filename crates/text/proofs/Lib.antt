pub mod Walk
pub mod Compare
pub mod Lines
pub mod Numbers
pub mod Digits
pub mod Signs
