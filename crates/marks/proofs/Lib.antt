mod Every
mod Numbers
mod Same
mod Scanning
mod Spelled
