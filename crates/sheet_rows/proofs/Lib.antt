pub mod Climb
pub mod Lists
pub mod Lines
pub mod Buyers
pub mod Promise
pub mod Printed
