mod Collecting
mod Groups
mod Latest
mod Released
mod Sums
