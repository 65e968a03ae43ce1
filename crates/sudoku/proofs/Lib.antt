pub mod Walks
pub mod Grid
pub mod PeerTable
pub mod Counting
pub mod Each
pub mod Listed
pub mod Made
pub mod Chains
