pub mod OneThread
pub mod PlainAsker
