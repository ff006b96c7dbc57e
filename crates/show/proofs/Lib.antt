mod Separated
