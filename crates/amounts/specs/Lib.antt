pub mod Prime
pub mod Laws
pub mod Modular
pub mod Inverse
