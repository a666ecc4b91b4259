mod StringRuns
mod Noting
