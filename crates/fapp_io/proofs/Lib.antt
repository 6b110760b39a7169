mod Counts
mod Known
