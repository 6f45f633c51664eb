pub mod Prints
mod Taken
