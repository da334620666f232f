pub mod BareTypeTokens
pub mod CutMacros
pub mod Cutting
pub mod RespelledTypes
pub mod Respelling
pub mod SameSpelled
pub mod SameTokens
pub mod UnplacedSame
