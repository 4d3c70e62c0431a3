-- The view of a seat whose one piece is a pass (own).
use Rattle.std.specs.Prelude.{ℕ, false, List, [], ◌∷◌}
use Rattle.pass_seats.specs.declared.view.Mine.{Mine}
use Rattle.pass_seats.specs.declared.view.View.{View}

module _ {E : Type 0} where
  abbrev pub first_entries : List (Mine E) → List E
  first_entries [] = []
  first_entries (p ∷ rest) = p.entries

  -- the entries of the first pass that some views have
  abbrev pub pass_entries : List (View E) → List E
  pass_entries [] = []
  pass_entries (v ∷ views) = first_entries v.passes

  -- the view of a pass
  abbrev pub pass_view : ℕ → List E → View E
  pass_view client entries = record {
    is_spine = false;
    log = [];
    passes = record { client = client; entries = entries } ∷ [];
  }
