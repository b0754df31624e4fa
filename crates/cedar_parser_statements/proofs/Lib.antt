pub mod StatementMoves
pub mod StatementsSound
pub mod StatementsComplete
pub mod StatementClauses
pub mod EarlierReadings
pub mod EarlierPaths
