pub mod Devices
pub mod Output
pub mod TestDevices
