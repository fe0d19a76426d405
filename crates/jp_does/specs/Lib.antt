pub mod Does
pub mod OpenTrace
