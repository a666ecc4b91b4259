pub mod Fields
pub mod Contents
pub mod Frames
pub mod Heads
pub mod Writes
pub mod Laws
pub mod Firsts
