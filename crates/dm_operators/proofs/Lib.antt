mod Rows
pub mod ConstructorLaws
pub mod TableLaws
pub mod OperandLaws
pub mod BinaryArms
pub mod BinaryLaws
pub mod MethodForms
pub mod ValueMethods
pub mod AssigningLaws
pub mod AssigningMethods
pub mod MemberNumbers
pub mod UnaryLaws
pub mod RefusalLaws
pub mod Operations
pub mod CoveringLaws
pub mod ValidLaws
pub mod MeaningLaws
mod WalkLaws
mod PlanLaws
