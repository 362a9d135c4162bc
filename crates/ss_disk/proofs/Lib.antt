mod Images
mod Stories
mod Writes
