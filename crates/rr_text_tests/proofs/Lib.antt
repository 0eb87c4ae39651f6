pub mod WholeSources
