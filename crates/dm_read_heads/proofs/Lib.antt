pub mod AttrSteps
pub mod Turned
pub mod Fronts
pub mod AttrLists
pub mod MemberLists
pub mod MemberSteps
pub mod TokenSteps
pub mod HeadSteps
