pub mod ChainLists
pub mod ChainSteps
pub mod PrefixSteps
pub mod BaseSteps
pub mod NestSteps
