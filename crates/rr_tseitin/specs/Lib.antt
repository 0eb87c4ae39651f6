pub mod Tseitin
