pub mod FunctionViews
