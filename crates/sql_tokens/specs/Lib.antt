pub mod Kinds
pub mod Words
pub mod Lexing
pub mod States
pub mod Heads
