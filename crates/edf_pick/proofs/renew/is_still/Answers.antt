use Rattle.std.proofs.Common.{[], length, ap, inl, inr, arith}
use Rattle.edf_pick.specs.Places.{Places}
use Rattle.edf_pick.proofs.Chosen.{none_chosen, before_first}
use Rattle.edf_pick.proofs.renew.is_still.Goals as goal

pub returns-then-all_stay-clause-chosen : goal.returns-then-all_stay-clause-chosen
returns-then-all_stay-clause-chosen c = λ e.
    let stays = c.args.running.now in
    let ready_rest = c.args.ready_rest.now in
    let places = c.args.placement.now in
    let begun = none_chosen stays ready_rest places c.requires c.as_slice.ensures.rising in
    let same = ap (λ (ps : Places). length ps) c.occupants.ensures.occupants in
    record {
      choosing = begun;
      all = elim (c.none_earlier.ensures.all e) [ inl none ↦ inl none | inr full ↦ inr (omega (arith, full, same)) ];
      first = before_first stays [] ready_rest places begun (c.none_earlier.ensures.first e);
    }
