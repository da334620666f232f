pub mod BoxSteps
pub mod MethodCalls
