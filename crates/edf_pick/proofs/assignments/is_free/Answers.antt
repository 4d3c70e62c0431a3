use Rattle.std.proofs.Common.{◌≡◌, ◌∙◌, ℕ, Bool, true, false, None, Some, get_or, length, refl, sym, ap}
use Rattle.std.specs.Prelude.{Option, is_none, is_some, not}
use Rattle.std.proofs.lemmas.Bool.{le-ltb}
use Rattle.std.proofs.lemmas.Option.{slice_get-get_or, slice_get_past}
use Rattle.edf_pick.specs.Places as spec
use Rattle.edf_pick.proofs.assignments.is_free.Goals as goal

none_not : (o : Option ℕ) → is_none o ≡ not (is_some o)
none_not None = refl
none_not (Some n) = refl

not_not : (b : Bool) → b ≡ not (not b)
not_not true = refl
not_not false = refl

pub returns-then-cpu-places : goal.returns-then-cpu-places
returns-then-cpu-places c =
    let places = c.args.places.now in
    let cpu = c.args.cpu in
    not_not c.is_none.result ∙ ap (λ (b : Bool). not b) (sym c.is_none.ensures) ∙ sym (none_not (get_or places cpu None))
    ∙ sym (ap spec.is_free (slice_get-get_or places cpu None c.if-cpu-places.true))

pub returns-else-cpu-places : goal.returns-else-cpu-places
returns-else-cpu-places c =
    let places = c.args.places.now in
    let cpu = c.args.cpu in
    le-ltb cpu (length places) c.if-cpu-places.false ∙ sym (ap spec.is_free (slice_get_past places cpu c.if-cpu-places.false))
