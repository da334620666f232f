pub mod BeforeColon
pub mod DeclaredInner
pub mod NeededAlone
pub mod WordsAlone
