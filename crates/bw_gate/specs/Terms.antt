-- What a gate is opened with, and never changes (own).
use Rattle.std.specs.Prelude.{ℕ, ◌<◌, ◌≤◌, List, length, All, map, slice_index}
use Rattle.bw_gate.specs.declared.terms.Room.{Room}
use Rattle.bw_gate.specs.Word.{IsLimit}

-- the CPUs of each domain and the limit that it is opened with, and how many pieces there are:
-- blanks and tickets together
pub record TermsView : Type 0 where
  pub cpus : List ℕ
  pub limits : List ℕ
  pub pieces : ℕ

-- the CPUs of a domain
abbrev pub cpus_in : TermsView → ℕ → ℕ
cpus_in terms d = slice_index terms.cpus d

-- the limit that a domain is opened with
abbrev pub limit_in : TermsView → ℕ → ℕ
limit_in terms d = slice_index terms.limits d

-- 1 to 64 CPUs
pub record IsMachine (cpus : ℕ) : Type 0 where
  pub one : 1 ≤ cpus
  pub most : cpus ≤ 64

-- one to eight domains, each of 1 to 64 CPUs, and 1 to 4096 pieces
pub record AreTerms (terms : TermsView) : Type 0 where
  pub some : 0 < length terms.cpus
  pub few : length terms.cpus ≤ 8
  pub small : All IsMachine terms.cpus
  pub a_piece : 0 < terms.pieces
  pub not_many : terms.pieces ≤ 4096

-- the terms of a gate that is opened with some rooms
abbrev pub terms_of : List Room → ℕ → TermsView
terms_of rooms n =
    record { cpus = map (λ r. r.cpus) rooms; limits = map (λ r. r.limit) rooms; pieces = n }

-- rooms that a gate can be opened with
pub record AreRooms (rooms : List Room) (n : ℕ) : Type 0 where
  pub terms : AreTerms (terms_of rooms n)
  pub limits : All (λ r. IsLimit r.limit) rooms
