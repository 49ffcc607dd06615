pub mod Classes
pub mod Filling
pub mod MaskLaws
pub mod NoGotos
