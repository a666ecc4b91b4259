pub mod Unposted
