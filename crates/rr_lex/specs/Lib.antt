pub mod Bytes
pub mod Numbers
pub mod Tokens
pub mod Patch
pub mod Reading
pub mod Table
