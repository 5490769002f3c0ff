pub mod Fill
pub mod Stretches
pub mod Accepting
pub mod Sales
