pub mod BitsRead
pub mod Finds
pub mod Listed
pub mod CodeLaws
