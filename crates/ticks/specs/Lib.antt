pub mod Polynomials
pub mod Tables
pub mod Laws
pub mod Products
pub mod Tested
pub mod Raising
pub mod Generator
