pub mod Fitting
pub mod Once
pub mod Reading
pub mod RenumberedExpressions
pub mod RenumberedItems
pub mod RenumberedParts
pub mod RenumberedStatements
pub mod Unlimited
