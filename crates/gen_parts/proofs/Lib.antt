mod Ints
