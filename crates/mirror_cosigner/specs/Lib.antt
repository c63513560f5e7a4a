pub mod Requests
pub mod Refusals
pub mod Reasons
pub mod Works
pub mod Agreement
pub mod CrashStates
pub mod Laws
