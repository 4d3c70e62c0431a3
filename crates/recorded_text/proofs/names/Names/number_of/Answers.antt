use Rattle.std.proofs.Common.{◌≡◌, ℕ, List, [], Some, append-nil, sym, subst}
use Rattle.std.specs.Prelude.{slice_get}
use Rattle.recorded_text.specs.Names.{names_with}
use Rattle.recorded_text.proofs.Naming.{found_named, stored_named, kept_differ, known_called, new_called, texts}
use Rattle.recorded_text.proofs.names.Names.number_of.Goals as goal

pub invariant_of-self-in-None : goal.invariant_of-self-in-None
invariant_of-self-in-None c =
    kept_differ c.insert_full.result c.self.inside.set.keys c.insert_full.new.self.keys c.args.name.now c.in_ok-name-in-None.name c.self.invariant (sym c.in-None.ensures.found) c.in_ok-name-in-None.ensures.items c.insert_full.ensures.keys c.insert_full.ensures.err

pub returns-in-Some-clause-found : goal.returns-in-Some-clause-found
returns-in-Some-clause-found c =
    subst (λ (names : List (List ℕ)). slice_get names c.in-Some.number ≡ Some c.args.name.now) c.self.view_is (found_named c.args.name.now c.self.inside.set.keys c.in-Some.number (sym c.in-Some.ensures.index))

pub returns-in_ok-number-in-None-clause-found : goal.returns-in_ok-number-in-None-clause-found
returns-in_ok-number-in-None-clause-found c =
    stored_named c.args.name.now c.in_ok-name-in-None.name c.insert_full.new.self.keys c.in_ok-number-in-None.number c.in_ok-name-in-None.ensures.items c.in_ok-number-in-None.ensures.stored

pub returns-in-Some-clause-called : goal.returns-in-Some-clause-called
returns-in-Some-clause-called c =
    subst (λ (names : List (List ℕ)). names ≡ names_with names c.args.name.now) c.self.view_is (known_called c.args.name.now c.self.inside.set.keys (sym c.in-Some.ensures.found))

pub returns-in_ok-number-in-None-clause-called : goal.returns-in_ok-number-in-None-clause-called
returns-in_ok-number-in-None-clause-called c =
    let new = texts c.insert_full.new.self.keys in
    subst (λ (names : List (List ℕ)). new ≡ names_with names c.args.name.now) c.self.view_is
    (new_called c.self.inside.set.keys c.insert_full.new.self.keys c.args.name.now c.in_ok-name-in-None.name (sym c.in-None.ensures.found) c.in_ok-name-in-None.ensures.items c.in_ok-number-in-None.ensures.keys)

pub returns-in-Some-clause-grows : goal.returns-in-Some-clause-grows
returns-in-Some-clause-grows c = record { more = []; behind = sym (append-nil _) }

pub returns-in-Some-clause-err : goal.returns-in-Some-clause-err
returns-in-Some-clause-err c = tt

pub returns-in_ok-number-in-None-clause-err : goal.returns-in_ok-number-in-None-clause-err
returns-in_ok-number-in-None-clause-err c = tt
