pub mod ExprLayers
pub mod SameExpr
pub mod SameLayers
pub mod Levels
pub mod Linked
pub mod Counting
pub mod SigLayers
pub mod SigTokens
