mod Begun
mod Judged
