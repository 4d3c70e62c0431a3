-- The run of a scenario with its admissions in order: one and the same for every number of clients
-- (own).
use Rattle.std.specs.Prelude.{ℕ, ◌+◌, Bool, true, false, List, [], ◌∷◌, ◌++◌, length, filter}
use Rattle.domain_run.specs.declared.call.Reply.{Reply}
use Rattle.domain_run.specs.declared.call.Reply.TheVariants as replies
use Rattle.calls_text.specs.SectionView.{SectionView}
use Rattle.session.specs.SessionId.{SessionId}
use Rattle.session.specs.Asks.{Asked, Made, made_in, entries_from}
use Rattle.session.specs.RunEnd.{advance_of}

-- the reply that grants an admission
abbrev pub is_admitted_reply : Reply → Bool
is_admitted_reply replies.Admitted = true
is_admitted_reply _ = false

-- the calls that were granted in a domain, in the order of tasks
abbrev pub granted_in : SessionId → ℕ → List Asked → List Made
granted_in id d asked = filter (λ m. is_admitted_reply m.reply) (made_in id d asked)

-- the domain whose admitted tasks client 1 entered in their order, and which it then advanced
abbrev pub section_in_order : SessionId → List Asked → ℕ → ℕ → List ℕ → SectionView
section_in_order id asked duration d cpus = record {
  cpus = length cpus;
  limit = id.limit;
  entries = entries_from 1 0 (granted_in id d asked ++ advance_of duration 1);
}

-- these domains, from this one on
abbrev pub sections_from : SessionId → List Asked → ℕ → ℕ → List (List ℕ) → List SectionView
sections_from id asked duration d [] = []
sections_from id asked duration d (cpus ∷ sets) =
    section_in_order id asked duration d cpus ∷ sections_from id asked duration (d + 1) sets

-- all domains, in their order
abbrev pub sections_in_order : SessionId → List Asked → ℕ → List SectionView
sections_in_order id asked duration = sections_from id asked duration 0 id.cpu_sets
