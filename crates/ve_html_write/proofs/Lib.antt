mod Examples
pub mod EscapedUtf8
pub mod Escaping
pub mod StartTag
