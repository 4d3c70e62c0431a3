-- A domain while its ticks are made piece by piece.
use Rattle.std.specs.Prelude.{Bool, true, false, List, []}
use Rattle.domain_run.specs.declared.happened.Happened.{Happened}
use Rattle.domain_run.specs.Domain.{Domain}
use Rattle.call_book.specs.declared.book.domain.ending.ticking.Ticking.{Ticking}
use Rattle.call_book.specs.declared.book.domain.ending.ticking.Ticking.TheVariants.{Silent, Logs}

-- the domain, with the switches that wait
abbrev pub domain_in : Ticking → Domain
domain_in (Silent repeating) = repeating
domain_in (Logs logged_run) = logged_run.domain

-- whether what happens is logged
abbrev pub logs_in : Ticking → Bool
logs_in (Silent repeating) = false
logs_in (Logs logged_run) = true

-- what happened and waits in the log
abbrev pub waits_in : Ticking → List Happened
waits_in (Silent repeating) = []
waits_in (Logs logged_run) = logged_run.logged
