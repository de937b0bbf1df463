mod Faults
mod Living
mod Repeated
mod Stages
mod Turns
