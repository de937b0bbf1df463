mod Examples
mod Divided
mod Lines
