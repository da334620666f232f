pub mod PatternTurns
pub mod PatternNests
pub mod PatternRows
pub mod ArmPatterns
