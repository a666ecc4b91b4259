pub mod Faults

-- what a session promises of its report
