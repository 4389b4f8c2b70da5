pub mod Mirrors
pub mod Laws
pub mod Mirrored
pub mod Empty
pub mod MirrorRacks
