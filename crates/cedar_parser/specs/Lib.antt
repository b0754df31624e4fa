pub mod PolicyText
pub mod Braces
pub mod EarlierMeaning
pub mod Earlier
pub mod Private
