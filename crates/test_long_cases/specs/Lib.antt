pub mod Ciphertexts
pub mod Inverse
