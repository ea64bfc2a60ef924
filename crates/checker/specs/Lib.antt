pub mod Check
pub mod Coverage
