pub mod FirstLine
pub mod ReadLaws
pub mod WrongReads
