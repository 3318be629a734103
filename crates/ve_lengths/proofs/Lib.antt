mod Examples
pub mod FindLemmas
pub mod GroupLemmas
pub mod ShiftLemmas
pub mod StartLemmas
