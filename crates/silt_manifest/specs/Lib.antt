pub mod Body
pub mod Digests
pub mod Faults
pub mod IdList
pub mod Numbers
pub mod Current
pub mod Standing
