pub mod SlotLaws
pub mod ImageLaws
pub mod PickLaws
