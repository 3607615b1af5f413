pub mod Files
pub mod Views
