mod Calls
mod Lefts
mod Positions
mod Reached
mod Refusals
mod Tables
