pub mod Fetched
pub mod Joined
pub mod OwnJoined
pub mod Requests
