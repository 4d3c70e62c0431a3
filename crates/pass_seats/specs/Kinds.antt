-- The steps on a spine's table (own). All are loads of its one word, each by one seat on its own
-- view.
use Rattle.std.specs.Prelude.{ℕ, ◌≡◌, true, false, List, [], ◌∷◌, ◌++◌, map, take, drop, All}
use Rattle.atomic_table.specs.Table.{Step, Me}
use Rattle.pass_seats.specs.declared.view.Mine.{Mine}
use Rattle.pass_seats.specs.declared.view.View.{View}
use Rattle.pass_seats.specs.Lists.{own}

module _ {E : Type 0} where
  -- join: the spine takes the passes of another view in, and the seat left behind has nothing
  abbrev pub joined : View E → View E → View E
  joined v w = record v { passes = v.passes ++ w.passes }

  abbrev pub spent_seat : View E
  spent_seat = record { is_spine = false; log = []; passes = [] }

  -- split: the first pass goes to a seat of its own
  abbrev pub first_pass : View E → View E
  first_pass v = record { is_spine = false; log = []; passes = take 1 v.passes }

  abbrev pub other_passes : View E → View E
  other_passes v = record v { passes = drop 1 v.passes }

  -- the entries of a client, as the spine lists them
  abbrev pub listed : ℕ → List E → List (ℕ × E)
  listed c entries = map (λ e. (c, e)) entries

  -- both lists grow by what is said: that of the spine, and that of the first pass
  abbrev pub grown : List E → View E → List (Mine E) → View E
  grown said v [] = v
  grown said v (p ∷ rest) = record v {
    log = v.log ++ listed p.client said;
    passes = record p { entries = p.entries ++ said } ∷ rest;
  }

  abbrev pub with_entries : List E → View E → View E
  with_entries said v = grown said v v.passes

  -- append: the joined view of a spine and one pass, with what is said behind both lists
  abbrev pub Appends : {S : Type 0} → List E → Step S → Me S (View E) → ℕ → Me S (View E) → Type 0
  Appends said s me n after = after ≡ (with_entries said me.0, me.1)

  -- agree: nothing changes, and each pass in the spine's view has exactly the spine's entries of
  -- its client
  abbrev pub Agrees : {S : Type 0} → Step S → Me S (View E) → ℕ → Me S (View E) → Type 0
  Agrees s me n after =
      (after ≡ me)
      × (me.0.is_spine ≡ true → All (λ p. p.entries ≡ own p.client me.0.log) me.0.passes)
