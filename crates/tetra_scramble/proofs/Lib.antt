pub mod Numbers
pub mod Recurrence
pub mod Table
