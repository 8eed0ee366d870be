pub mod Cases
pub mod Digits
pub mod FloorLaws
pub mod OrderLaws
pub mod Powers
pub mod Rescaling
pub mod TextLaws
