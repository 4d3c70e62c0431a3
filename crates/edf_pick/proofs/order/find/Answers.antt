use Rattle.std.proofs.Common.{◌≡◌, ℕ, true, false, get_or, sym, ◌∙◌, ap, arith}
use Rattle.std.specs.List.{remove}
use Rattle.std.proofs.lemmas.Grind.{common_steps}
use Rattle.edf_pick.specs.declared.candidate.Candidate.{Candidate}
use Rattle.edf_pick.specs.Order.{has_candidate, is_same}
use Rattle.edf_pick.proofs.Rising.{place, without_place, absent_place, without_absent}
use Rattle.edf_pick.proofs.order.find.Goals as goal
use Rattle.edf_pick.proofs.order.find.Goals.{Joined-else-place-queue, else-place-queue-via-then-place-queue+else-is_same, else-place-queue-via-else-place-queue}

-- what is read past the end
nobody : Candidate
nobody = record { deadline = 0; number = 0; home = 0 }

pub returns-then-is_same-clause-at : goal.returns-then-is_same-clause-at
unfolding nobody
returns-then-is_same-clause-at c =
    let queue = c.args.queue.now in
    let one = c.args.c.now in
    let at = c.place_of-place.ensures.place in
    let same : is_same (get_or queue (place one queue) nobody) one ≡ true = ap (λ (k : ℕ). is_same (get_or queue k nobody) one) (sym at) ∙ sym c.is_same.ensures ∙ c.if-is_same.true in
    without_place one queue nobody c.requires (omega (arith, at)) same ∙ ap (λ (k : ℕ). remove queue k) (sym at)

absent : (c : Joined-else-place-queue) → has_candidate c.args.c.now c.args.queue.now ≡ false
unfolding nobody
absent c =
    let queue = c.args.queue.now in
    let one = c.args.c.now in
    let at = c.place_of-place.ensures.place in
    elim c.else-place-queue.branch [
      | else-place-queue-via-then-place-queue+else-is_same w ↦
          absent_place one queue nobody c.requires (λ h. ap (λ (k : ℕ). is_same (get_or queue k nobody) one) (sym at) ∙ sym w.is_same.ensures ∙ w.if-is_same.false)
      | else-place-queue-via-else-place-queue w ↦ absent_place one queue nobody c.requires (λ h. absurd (omega (arith, at)))
    ]

pub returns-clause-there : goal.returns-clause-there
returns-clause-there c = sym (absent c)

pub returns-clause-nowhere : goal.returns-clause-nowhere
returns-clause-nowhere c = without_absent c.args.c.now c.args.queue.now (absent c)

pub place_of-place-requires : goal.place_of-place-requires
place_of-place-requires c = grind (arith, common_steps)

pub returns-then-is_same-clause-there : goal.returns-then-is_same-clause-there
returns-then-is_same-clause-there c = grind (arith, common_steps)
