pub mod Apart
pub mod Rest
pub mod Alike
pub mod Alone
pub mod Vain
