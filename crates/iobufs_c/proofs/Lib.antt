mod Chunks
mod Places
mod Rooms
