pub mod Texts
pub mod TextsOfForms
pub mod TextsOfExpressions
pub mod TextsOfStatements
pub mod TextsOfMembers
