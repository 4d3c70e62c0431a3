use Rattle.std.proofs.Common.{ℕ, ◌<◌, List, refl, sym, subst}
use Rattle.std.specs.Prelude.{nat_eq, All, Contains, IfSome, Option}
use Rattle.std.proofs.lemmas.Bool.{eqb-true}
use Rattle.indexmap.proofs.CallerLemmas.{Contains-insert_key}
use Rattle.calls_trace.proofs.Forelogged.{inserted_keeps, inserted_small, one_listed}
use Rattle.calls_trace.proofs.foreseen.Foreseen.list.Goals as goal

pub returns-in-Ok-clause-foreseen : goal.returns-in-Ok-clause-foreseen
returns-in-Ok-clause-foreseen c =
    let ks = c.args.self.now.numbers.keys in
    let n = c.in-Some.number in
    let h = c.requires.foreseen in
    let small = subst (λ (o : Option ℕ). IfSome o (λ k. k < 65536)) c.in-Some.is c.requires.small in
    one_listed c.args.self.now _ h refl refl
    (λ k was. subst (λ (xs : List ℕ). Contains xs k) (sym c.in-Ok.ensures.keys) (inserted_keeps ks n k was))
    (subst (All (λ k. k < 65536)) (sym c.in-Ok.ensures.keys) (inserted_small ks n h.small small))

pub returns-in-Ok-clause-listed : goal.returns-in-Ok-clause-listed
returns-in-Ok-clause-listed c =
    let ks = c.args.self.now.numbers.keys in
    let n = c.in-Some.number in
    subst (λ (o : Option ℕ). IfSome o (Contains c.insert.new.self.keys)) (sym c.in-Some.is)
    (subst (λ (xs : List ℕ). Contains xs n) (sym c.in-Ok.ensures.keys) (Contains-insert_key nat_eq (λ x y e. eqb-true x y e) ks n))
