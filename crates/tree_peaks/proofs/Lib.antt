pub mod Tops
pub mod Pushing
pub mod Carries
pub mod Folds
pub mod Always
