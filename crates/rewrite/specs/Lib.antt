pub mod Rewriter
pub mod Rewrite
