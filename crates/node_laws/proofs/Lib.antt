pub mod CountedForms
pub mod SeenNodes
pub mod FlowNodes
pub mod UnitNodes
