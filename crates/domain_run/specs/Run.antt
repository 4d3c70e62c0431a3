-- A whole run: the calls on a domain one after another.
use Rattle.std.specs.Prelude.{ℕ, List, [], ◌∷◌}
use Rattle.domain_run.specs.declared.call.Call.{Call}
use Rattle.domain_run.specs.declared.call.Reply.{Reply}
use Rattle.domain_run.specs.Domain.{Domain, empty_domain}
use Rattle.domain_run.specs.Calls.{reply_to, after_call}

-- the domain that the calls leave
abbrev pub after_calls : Domain → List Call → Domain
after_calls d [] = d
after_calls d (c ∷ cs) = after_calls (after_call d c) cs

-- the reply to each, in order
abbrev pub replies_to : Domain → List Call → List Reply
replies_to d [] = []
replies_to d (c ∷ cs) = reply_to d c ∷ replies_to (after_call d c) cs

-- from the empty domain
abbrev pub run_of : ℕ → ℕ → List Call → Domain
run_of cpus limit calls = after_calls (empty_domain cpus limit) calls
