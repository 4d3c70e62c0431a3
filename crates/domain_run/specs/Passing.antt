-- A domain whose switches so far are forgotten, all or the first ones, and one that had more before
-- them.
use Rattle.std.specs.Prelude.{ℕ, List, [], ◌++◌, drop}
use Rattle.domain_run.specs.Switch.{Switch}
use Rattle.domain_run.specs.Domain.{Domain}

abbrev pub without_switches : Domain → Domain
without_switches d = record d { switches = [] }

abbrev pub with_past : List Switch → Domain → Domain
with_past past d = record d { switches = past ++ d.switches }

-- of its switches the first `count` are forgotten
abbrev pub without_front : ℕ → Domain → Domain
without_front count d = record d { switches = drop count d.switches }
