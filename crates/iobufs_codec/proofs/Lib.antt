mod Behind
mod DecodedBack
mod Examples
mod Turns
