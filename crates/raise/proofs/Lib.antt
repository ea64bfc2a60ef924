-- Laws of raising: a mask joined at a place, registers in rows, masks that are joined at once for several flows, and the bits of masks that
-- are made.
pub mod Places
pub mod Registers
pub mod AtOnce
pub mod ByHandler
pub mod MaskBits
