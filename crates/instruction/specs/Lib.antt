pub mod Test
pub mod Word
