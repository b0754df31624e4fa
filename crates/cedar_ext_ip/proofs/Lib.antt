pub mod Fours
pub mod IpTexts
pub mod Lacks
pub mod Prefixes
pub mod RangeTest
pub mod Sixes
pub mod WrittenTexts
