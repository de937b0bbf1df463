mod Carries
mod Levels
mod Orders
mod Sums
