pub mod TypeNames
pub mod Texts
pub mod Values
pub mod Writing
pub mod Answers
pub mod Grammar
pub mod Laws
pub mod annotations
