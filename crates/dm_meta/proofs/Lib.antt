pub mod BarePaths
pub mod FrontParts
pub mod LicensedFronts
pub mod MetaFronts
pub mod MetaRules
