mod Halves
mod Telling
