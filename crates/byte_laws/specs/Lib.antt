pub mod Bodies
pub mod Files
