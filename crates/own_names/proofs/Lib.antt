pub mod Firsts
pub mod Known
pub mod Shapes
pub mod Says
pub mod ExprNames
pub mod StmtNames
pub mod GuardNames
pub mod UnitNames
