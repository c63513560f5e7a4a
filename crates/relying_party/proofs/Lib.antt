mod Verified
mod Sets
