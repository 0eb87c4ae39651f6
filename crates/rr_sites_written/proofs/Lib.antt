mod Words
pub mod Written
