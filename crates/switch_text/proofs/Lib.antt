mod Joined
mod Room
mod Overhang
mod Digits
mod Kept
mod Calling
mod Order
mod Winning
mod Merged
mod Few
mod UnderWay
mod Sliced
mod Cutting
mod Splitting
mod Slicing
mod SliceFronts
mod EventRoom
mod EventOrder
mod LoggedAhead
mod LoggedFound
mod EventPick
mod EventsUnderWay
mod EventCutting
mod EventSplitting
mod EventFronts
mod EventRounds
pub mod EventLemmas
pub mod CallerLemmas
