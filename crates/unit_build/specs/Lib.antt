pub mod Form
pub mod Files
pub mod Building
