pub mod TimerTree
pub mod Leaves
