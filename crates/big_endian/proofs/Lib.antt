pub mod BigEndian
pub mod TwosComplement
