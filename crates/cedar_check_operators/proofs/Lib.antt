pub mod Held
mod Heights
mod Joinable
mod Written
