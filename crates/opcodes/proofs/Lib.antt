pub mod EveryOpcode
