mod Trees
mod Decoding
