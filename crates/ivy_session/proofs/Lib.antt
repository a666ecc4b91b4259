pub mod Reported

-- what callers of a session use of the seating of its nodes
