mod Counting
mod Telling
