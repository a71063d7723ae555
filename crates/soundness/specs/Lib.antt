pub mod Strikes
pub mod Finding
pub mod Worked
