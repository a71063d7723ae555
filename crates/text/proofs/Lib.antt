mod Running
mod Reading
