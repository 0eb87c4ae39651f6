pub mod WordReads
