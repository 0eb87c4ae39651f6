pub mod FreshSteps
pub mod LogSteps
pub mod EngineSteps
pub mod Values
pub mod Ends
