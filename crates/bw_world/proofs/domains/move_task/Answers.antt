use Rattle.std.proofs.Common.{rules, sym, ap, ◌∙◌}
use Rattle.bw_world.specs.DomainStep.{released, entered}
use Rattle.bw_world.specs.WorldStep.{WorldStep, fits_move}
use Rattle.bw_world.proofs.Moved.{place_at, homes, move_from_nowhere, move_to_nowhere, move_misfit, move_done, taken_out, other_one, handed_over, put_back}
use Rattle.bw_world.proofs.WorldLaw.{on_err}
use Rattle.bw_world.proofs.domains.move_task.Goals as goal

pub returns-in_default-clause-outcome : goal.returns-in_default-clause-outcome
returns-in_default-clause-outcome c =
    let none = place_at c.args.old c.args.domains.now.items _ _ c.as_slice.ensures.value (sym c.in_default.is ∙ c.home_of.ensures.home) in
    ap (λ (s : WorldStep). s.outcome) (sym (move_from_nowhere c.args.old c.args.new c.args.number c.args.domains.now.items none))

pub returns-in_default-clause-domains : goal.returns-in_default-clause-domains
returns-in_default-clause-domains c =
    let none = place_at c.args.old c.args.domains.now.items _ _ c.as_slice.ensures.value (sym c.in_default.is ∙ c.home_of.ensures.home) in
    ap (λ (s : WorldStep). s.domains) (sym (move_from_nowhere c.args.old c.args.new c.args.number c.args.domains.now.items none))

pub returns-in_default-home_of-clause-outcome : goal.returns-in_default-home_of-clause-outcome
returns-in_default-home_of-clause-outcome c =
    let none = place_at c.args.new c.args.domains.now.items _ _ c.as_slice-2.ensures.value (sym c.in_default-home_of.is ∙ c.home_of-2.ensures.home) in
    ap (λ (s : WorldStep). s.outcome) (sym (move_to_nowhere c.args.old c.args.new c.args.number c.args.domains.now.items none))

pub returns-in_default-home_of-clause-domains : goal.returns-in_default-home_of-clause-domains
returns-in_default-home_of-clause-domains c =
    let none = place_at c.args.new c.args.domains.now.items _ _ c.as_slice-2.ensures.value (sym c.in_default-home_of.is ∙ c.home_of-2.ensures.home) in
    ap (λ (s : WorldStep). s.domains) (sym (move_to_nowhere c.args.old c.args.new c.args.number c.args.domains.now.items none))

pub returns-in_default-task_to_move-clause-outcome : goal.returns-in_default-task_to_move-clause-outcome
returns-in_default-task_to_move-clause-outcome c =
    let h = homes c.args.old c.args.new c.args.domains.now.items _ _ _ _ _ _ c.as_slice.ensures.value c.in-Some.ensures.home c.in-Some.ensures.within c.index-left.ensures c.as_slice-2.ensures.value c.in-Some-home_of.ensures.home c.in-Some-home_of.ensures.within c.index.ensures in
    ap (λ (s : WorldStep). s.outcome) (sym (move_misfit c.args.old c.args.new c.args.number c.args.domains.now.items _ _ _ _ h c.in_default-task_to_move.ensures.misfit))

pub returns-in_default-task_to_move-clause-domains : goal.returns-in_default-task_to_move-clause-domains
returns-in_default-task_to_move-clause-domains c =
    let h = homes c.args.old c.args.new c.args.domains.now.items _ _ _ _ _ _ c.as_slice.ensures.value c.in-Some.ensures.home c.in-Some.ensures.within c.index-left.ensures c.as_slice-2.ensures.value c.in-Some-home_of.ensures.home c.in-Some-home_of.ensures.within c.index.ensures in
    ap (λ (s : WorldStep). s.domains) (sym (move_misfit c.args.old c.args.new c.args.number c.args.domains.now.items _ _ _ _ h c.in_default-task_to_move.ensures.misfit))

pub hand_over-made-requires-clause-fits : goal.hand_over-made-requires-clause-fits
hand_over-made-requires-clause-fits c =
    let h = homes c.args.old c.args.new c.args.domains.now.items _ _ _ _ _ _ c.as_slice.ensures.value c.in-Some.ensures.home c.in-Some.ensures.within c.index-left.ensures c.as_slice-2.ensures.value c.in-Some-home_of.ensures.home c.in-Some-home_of.ensures.within c.index.ensures in
    let left = taken_out c.args.old c.args.new c.args.domains.now.items _ _ _ _ c.index_mut.result.now c.replace-left.result h c.replace-left.ensures.value c.index_mut.ensures.value in
    let right = other_one c.args.old c.args.new c.args.number c.args.domains.now.items _ _ _ _ c.replace-left.new.dest c.index_mut-2.result.now h c.in-Some-task_to_move.ensures.fits c.index_mut-2.ensures.value in
    ap (λ n. fits_move c.args.old c.args.new n c.replace-left.result c.index_mut-2.result.now) c.in-Some-task_to_move.ensures.number
    ∙ ap (λ d. fits_move c.args.old c.args.new c.args.number d c.index_mut-2.result.now) left
    ∙ ap (fits_move c.args.old c.args.new c.args.number c.index-left.result.now) right
    ∙ c.in-Some-task_to_move.ensures.fits

pub returns-in_err-made-clause-err : goal.returns-in_err-made-clause-err
returns-in_err-made-clause-err c =
    let h = homes c.args.old c.args.new c.args.domains.now.items _ _ _ _ _ _ c.as_slice.ensures.value c.in-Some.ensures.home c.in-Some.ensures.within c.index-left.ensures c.as_slice-2.ensures.value c.in-Some-home_of.ensures.home c.in-Some-home_of.ensures.within c.index.ensures in
    let left = taken_out c.args.old c.args.new c.args.domains.now.items _ _ _ _ c.index_mut.result.now c.replace-left.result h c.replace-left.ensures.value c.index_mut.ensures.value in
    let right = other_one c.args.old c.args.new c.args.number c.args.domains.now.items _ _ _ _ c.replace-left.new.dest c.index_mut-2.result.now h c.in-Some-task_to_move.ensures.fits c.index_mut-2.ensures.value in
    on_err c.from_residual.result (put_back c.args.old c.args.new c.args.number c.args.domains.now.items _ _ _ _ c.replace-left.new.dest _ _ h c.in-Some-task_to_move.ensures.fits (c.in_err-made.ensures.err_from ∙ left) (c.in_err-made.ensures.err_to ∙ right))

pub returns-in_err-made-clause-err_only : goal.returns-in_err-made-clause-err_only
returns-in_err-made-clause-err_only c =
    let h = homes c.args.old c.args.new c.args.domains.now.items _ _ _ _ _ _ c.as_slice.ensures.value c.in-Some.ensures.home c.in-Some.ensures.within c.index-left.ensures c.as_slice-2.ensures.value c.in-Some-home_of.ensures.home c.in-Some-home_of.ensures.within c.index.ensures in
    on_err c.from_residual.result (record { would_do = ap (λ (s : WorldStep). s.outcome) (move_done c.args.old c.args.new c.args.number c.args.domains.now.items _ _ _ _ h c.in-Some-task_to_move.ensures.fits); longer = search rules })

pub returns-clause-outcome : goal.returns-clause-outcome
returns-clause-outcome c =
    let h = homes c.args.old c.args.new c.args.domains.now.items _ _ _ _ _ _ c.as_slice.ensures.value c.in-Some.ensures.home c.in-Some.ensures.within c.index-left.ensures c.as_slice-2.ensures.value c.in-Some-home_of.ensures.home c.in-Some-home_of.ensures.within c.index.ensures in
    ap (λ (s : WorldStep). s.outcome) (sym (move_done c.args.old c.args.new c.args.number c.args.domains.now.items _ _ _ _ h c.in-Some-task_to_move.ensures.fits))

pub returns-clause-domains : goal.returns-clause-domains
returns-clause-domains c =
    let h = homes c.args.old c.args.new c.args.domains.now.items _ _ _ _ _ _ c.as_slice.ensures.value c.in-Some.ensures.home c.in-Some.ensures.within c.index-left.ensures c.as_slice-2.ensures.value c.in-Some-home_of.ensures.home c.in-Some-home_of.ensures.within c.index.ensures in
    let left = taken_out c.args.old c.args.new c.args.domains.now.items _ _ _ _ c.index_mut.result.now c.replace-left.result h c.replace-left.ensures.value c.index_mut.ensures.value in
    let right = other_one c.args.old c.args.new c.args.number c.args.domains.now.items _ _ _ _ c.replace-left.new.dest c.index_mut-2.result.now h c.in-Some-task_to_move.ensures.fits c.index_mut-2.ensures.value in
    let entered_is = c.in_ok-made.ensures.to ∙ ap (λ n. (entered c.args.new n c.index_mut-2.result.now).domain) c.in-Some-task_to_move.ensures.number ∙ ap (λ d. (entered c.args.new c.args.number d).domain) right in
    handed_over c.args.old c.args.new c.args.number c.args.domains.now.items _ _ _ _ c.replace-left.new.dest _ _ h c.in-Some-task_to_move.ensures.fits (c.in_ok-made.ensures.from ∙ ap (λ d. (released c.args.old d).domain) left) entered_is
