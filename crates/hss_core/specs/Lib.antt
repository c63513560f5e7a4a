pub mod Hss
