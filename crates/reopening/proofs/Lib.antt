pub mod BuildingLaws
pub mod CalledLaws
pub mod HoldingLaws
pub mod OpeningLaws
pub mod SettlingLaws
pub mod ViewingLaws
