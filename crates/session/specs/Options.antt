-- Which session the options of a run make (own).
use Rattle.std.specs.Prelude.{◌≡◌, ◌+◌, ◌*◌, length, replicate}
use Rattle.bw_gate.specs.Terms.{TermsView}
use Rattle.run_options.specs.declared.options.Options.{Options}
use Rattle.session.specs.SessionId.{SessionId, cpu_sets_from}

-- the gate's terms: the CPUs of each domain, the one limit that each is opened with, and 256 pieces
-- a domain and one a client
abbrev pub gate_terms_of : Options → TermsView
gate_terms_of o = record {
  cpus = o.domains.items;
  limits = replicate (length o.domains.items) o.limit;
  pieces = length o.domains.items * 256 + o.clients;
}

-- a session of these options
pub record IsSessionOf (o : Options) (id : SessionId) : Type 0 where
  pub terms : id.gate.terms ≡ gate_terms_of o
  pub cpu_sets : id.cpu_sets ≡ cpu_sets_from 0 o.domains.items
  pub limit : id.limit ≡ o.limit
  pub clients : id.clients ≡ o.clients
  pub max_calls : id.max_calls ≡ o.history
  pub workers : id.workers ≡ o.workers
