use Rattle.std.proofs.Common.{◌≡◌, ◌∙◌, ◌++◌, ◌==◌, List, [], ◌∷◌, ℕ, true, false, refl, arith, length, map, subst, sym, append-nil, Result, Ok, Err}
use Rattle.std.specs.Prelude.{OnOk}
use Rattle.std.proofs.lemmas.Bool.Decides.{nat_tests}
use Rattle.recorded_text.specs.Names.{names_on}
use Rattle.recorded_text.specs.Steps.{step_view}
use Rattle.recorded_text.specs.Text.{is_bad_line, switches_in_line}
use Rattle.recorded_text.specs.private.SoFar.{LineFails}
use Rattle.recorded_text.proofs.reading.end_line.Goals as goal

no_rest : (rest : List ℕ) (n : ℕ) → n ≡ length rest → true ≡ (n == 0) → rest ≡ []
no_rest [] n e h = refl
no_rest (x ∷ rest) n e h = grind (arith, nat_tests)

nothing : {T E : Type 0} {rest : List ℕ} (r : Result T E) → rest ≡ [] → OnOk r (rest ≡ [])
nothing (Ok t) e = e
nothing (Err f) e = tt

pub take_line-requires : goal.take_line-requires
take_line-requires c = c.requires

pub returns-then-is_empty : goal.returns-then-is_empty
returns-then-is_empty c =
    let none = no_rest c.args.rest.now.items c.args.rest.now.len (omega (arith, c.args.rest.now.ok.0)) c.if-is_empty.ensures in
    let e = c.take_line.ensures in
    record {
      shown = rw none e.shown;
      called = rw none e.called;
      good = rw none e.good;
      empty = nothing c.take_line.result none;
      named = e.named;
      bad = rw none e.bad;
      grows = e.grows;
    }

pub returns-in-Err : goal.returns-in-Err
returns-in-Err c = record { shown = tt; called = tt; good = tt; empty = tt; named = tt; bad = tt; grows = record { more = []; behind = sym (append-nil _) } }

pub take_line-requires-2 : goal.take_line-requires-2
take_line-requires-2 c = c.requires

pub returns-in-Err-take_line : goal.returns-in-Err-take_line
returns-in-Err-take_line c = record {
  shown = tt;
  called = tt;
  good = tt;
  empty = tt;
  named = tt;
  bad = subst (λ (t : List ℕ). LineFails c.in-Err-take_line.fault t) (c.as_slice.ensures.value ∙ c.in-Ok.ensures.items) c.in-Err-take_line.ensures.bad;
  grows = c.in-Err-take_line.ensures.grows;
}

pub returns-in-Ok-take_line : goal.returns-in-Ok-take_line
returns-in-Ok-take_line c =
    let e = c.in-Ok-take_line.ensures in
    let line = c.as_slice.ensures.value ∙ c.in-Ok.ensures.items in
    record {
      shown = subst (λ (t : List ℕ). map (step_view c.take_line-2.new.names) c.take_line-2.new.steps.items ≡ map (step_view c.args.names.now) c.args.steps.now.items ++ switches_in_line t) line e.shown;
      called = subst (λ (t : List ℕ). c.take_line-2.new.names ≡ names_on c.args.names.now (switches_in_line t)) line e.called;
      good = subst (λ (t : List ℕ). is_bad_line t ≡ false) line e.good;
      empty = c.clear.ensures.items;
      named = e.named;
      bad = tt;
      grows = e.grows;
    }
