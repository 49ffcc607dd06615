pub mod PointRules
pub mod EscapeRules
pub mod StringRules
