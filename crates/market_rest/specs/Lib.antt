pub mod Apart
pub mod Alike
pub mod Vain
