-- A book at its end (own): no call is made on it any more, but one last advance that is streamed.
use Rattle.std.specs.Prelude.{Bool, if◌then◌else◌}
use Rattle.domain_run.specs.Domain.{Domain}
use Rattle.domain_run.specs.Passing.{without_switches}
use Rattle.call_book.specs.Book.{BookView, state_of}

pub record EndingView : Type 0 where
  pub book : BookView
  -- whether its run was streamed: the switches are forgotten then
  pub streamed : Bool

-- what is left of a domain
abbrev pub left_of : Bool → Domain → Domain
left_of streamed d = if streamed then without_switches d else d

-- the state that is left is the run of the history; where it was streamed, without its switches
abbrev pub state_left : EndingView → Domain
state_left e = left_of e.streamed (state_of e.book)
