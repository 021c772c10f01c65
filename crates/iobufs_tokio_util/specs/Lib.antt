pub mod Decoding
pub mod DecodingLaws
