mod Composed
mod Walked
