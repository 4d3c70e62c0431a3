mod Choosing
mod FewMatch
mod Gathered
mod Gathering
mod Joining
mod SideBySide
mod Pairing
mod Reaching
mod Walking
pub mod OneMore
