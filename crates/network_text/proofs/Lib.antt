pub mod CanonicalReads
pub mod WrittenReads
pub mod CanonicalSize
pub mod CanonicalPlain
pub mod CanonicalText
