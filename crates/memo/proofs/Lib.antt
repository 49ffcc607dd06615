pub mod Packs
pub mod Memos
pub mod PlaceRules
