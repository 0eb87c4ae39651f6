pub mod Outsides
