pub mod ArmPatterns
