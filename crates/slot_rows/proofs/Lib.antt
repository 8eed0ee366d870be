mod LeadLaws
mod SlotLaws
mod OrderLaws
mod ManyLaws
mod FrontLaws
mod NextLaws
pub mod SlotKeyLaws
