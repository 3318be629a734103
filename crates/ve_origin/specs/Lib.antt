pub mod Agree
pub mod Bodies
pub mod Kept
pub mod Known
pub mod Origins
pub mod Rows
pub mod Without
