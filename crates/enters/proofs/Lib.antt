mod EnterRules
mod MarkLaws
mod MarkRules
