mod Known
mod Longest
mod Searched
