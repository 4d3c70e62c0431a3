-- The table under a spine, and the rule that holds between any two steps on it (own): there is one
-- list of entries, which the spine has; each client has at most one pass; and each pass has exactly
-- the list's entries of its client.
use Rattle.std.specs.Prelude.{ℕ, true, ◌≡◌, ◌≤◌, ◌+◌, ◌==◌, if◌then◌else◌, List, [], ◌∷◌, zero, suc, sum_by, All}
use Rattle.pass_seats.specs.declared.view.Mine.{Mine}
use Rattle.pass_seats.specs.declared.view.View.{View}
use Rattle.pass_seats.specs.Lists.{own}

module _ {E : Type 0} where
  -- how many of all views are the spine's
  abbrev pub spine_in : View E → ℕ
  spine_in v = if v.is_spine then 1 else 0

  abbrev pub spines : List (View E) → ℕ
  spines views = sum_by spine_in views

  -- how many passes of a client all views have: a pass alone is a view of one, and while a spine
  -- works with a pass, both are one view
  abbrev pub pass_in : ℕ → Mine E → ℕ
  pass_in c p = if p.client == c then 1 else 0

  abbrev pub passes_in : ℕ → View E → ℕ
  passes_in c v = sum_by (pass_in c) v.passes

  abbrev pub passes_of : ℕ → List (View E) → ℕ
  passes_of c views = sum_by (passes_in c) views

  -- a view knows the list: the spine all of it, a pass the entries of its client
  pub record Knows (log : List (ℕ × E)) (v : View E) : Type 0 where
    pub whole : v.is_spine ≡ true → v.log ≡ log
    pub mine : All (λ p. p.entries ≡ own p.client log) v.passes

  -- the rule
  pub record IsListed (views : List (View E)) : Type 0 where
    pub log : List (ℕ × E)
    pub known : All (Knows log) views
    pub one_spine : spines views ≤ 1
    pub one_pass : (c : ℕ) → passes_of c views ≤ 1

  -- passes with no entry, of so many clients, from one client on
  abbrev pub fresh : ℕ → ℕ → List (Mine E)
  fresh c zero = []
  fresh c (suc n) = record { client = c; entries = [] } ∷ fresh (c + 1) n

  -- the first view is that of the spine, with the passes of the clients 1, 2, ..
  abbrev pub opened : ℕ → View E
  opened clients = record { is_spine = true; log = []; passes = fresh 1 clients }
