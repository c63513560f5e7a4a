pub mod Parties
pub mod Histories
pub mod Rules
pub mod KeyUses
pub mod Laws
pub mod Journals
pub mod Results
pub mod Reasons
