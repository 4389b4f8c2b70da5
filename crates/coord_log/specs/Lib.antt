pub mod Logs
pub mod Inside
pub mod Opening
pub mod OpenLanes
