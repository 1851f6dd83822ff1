pub mod ProgramLines
pub mod Numbers
pub mod Printed
pub mod Points
pub mod Meaning
