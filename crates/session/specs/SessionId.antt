-- Which session: its gate and its domains, which never change (own).
use Rattle.std.specs.Prelude.{◌≡◌, ℕ, ◌+◌, ◌≤◌, ◌<◌, List, [], ◌∷◌, length, All, slice_index_or}
use Rattle.std.specs.List.{range_with_len}
use Rattle.attr_check.specs.Ratio.{cap}
use Rattle.atomic_table.specs.Seated.{TableId}
use Rattle.bw_gate.specs.Terms.{cpus_in}
use Rattle.bw_gate.specs.Pieces.{GateId}
use Rattle.domain_run.specs.Domain.{IsLimit}

pub record SessionId : Type 0 where
  pub gate : GateId
  -- the spine of each domain's book, in the order of domains
  pub spines : List TableId
  -- the CPUs of the machine that each has
  pub cpu_sets : List (List ℕ)
  -- what may be given away of each CPU at its opening, in 1/2^20
  pub limit : ℕ
  -- its clients are 1 to so many
  pub clients : ℕ
  -- how many calls the history of each domain has room for
  pub max_calls : ℕ
  -- by how many workers each domain's book makes an advance; no answer depends on them
  pub workers : ℕ

-- no session in particular
abbrev pub no_session : SessionId
no_session = record {
  gate = record {
    table =
        record {
          words = 0;
          slots = 0;
          views_name = 0;
          atom = 0;
          block = 0;
          offset = 0;
          slot_names = [];
        };
    terms = record { cpus = []; limits = []; pieces = 0 };
  };
  spines = [];
  cpu_sets = [];
  limit = 0;
  clients = 0;
  max_calls = 0;
  workers = 0;
}

-- the spine of a domain's book
abbrev pub spine_of : SessionId → ℕ → TableId
spine_of id d = slice_index_or id.spines d id.gate.table

-- the CPUs of a domain
abbrev pub cpu_set_of : SessionId → ℕ → List ℕ
cpu_set_of id d = slice_index_or id.cpu_sets d []

-- the cap that a domain is opened with
abbrev pub cap_in : SessionId → ℕ → ℕ
cap_in id d = cap (length (cpu_set_of id d)) id.limit

-- a domain of the session
abbrev pub IsDomainIndex : SessionId → ℕ → Type 0
IsDomainIndex id d = d < length id.cpu_sets

-- the first domain has the first CPUs of the machine, the second the next ones, and so on
abbrev pub cpu_sets_from : ℕ → List ℕ → List (List ℕ)
cpu_sets_from base [] = []
cpu_sets_from base (cpus ∷ domains) = range_with_len base cpus ∷ cpu_sets_from (base + cpus) domains

-- what each session keeps: 1 to 8 domains, each of 1 to 64 CPUs, the limits of State, and for each
-- domain a word of the gate, which has as many CPUs
pub record IsSession (id : SessionId) : Type 0 where
  pub some : 0 < length id.cpu_sets
  pub few : length id.cpu_sets ≤ 8
  pub some_cpus : All (λ cpus. 0 < length cpus) id.cpu_sets
  pub most_cpus : All (λ cpus. length cpus ≤ 64) id.cpu_sets
  pub limit : IsLimit id.limit
  pub clients : id.clients ≤ 64
  pub books : length id.spines ≡ length id.cpu_sets
  pub words : length id.gate.terms.cpus ≡ length id.cpu_sets
  pub machines : (d : ℕ) → IsDomainIndex id d → cpus_in id.gate.terms d ≡ length (cpu_set_of id d)
