-- Scripts: the command that a line is.
pub mod Commands
