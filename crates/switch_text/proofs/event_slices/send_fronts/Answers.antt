use Rattle.std.proofs.Common.{◌≡◌, ◌++◌, ◌≤◌, ◌+◌, ◌*◌, List, [], ℕ, length, map, take, refl, subst, sym, ap, ◌∙◌, arith}
use Rattle.std.specs.Prelude.{IfOk, IfErr}
use Rattle.std.proofs.lemmas.Bool.{eqb-true}
use Rattle.std.proofs.lemmas.List.{length-map}
use Rattle.counted_io.specs.Sides.{inner_of}
use Rattle.counted_io.specs.Faults.{TakesFront}
use Rattle.switch_text.specs.Events.{Event}
use Rattle.switch_text.specs.private.Ready.{RunsHaveNames}
use Rattle.switch_text.specs.private.Sending.{Sends}
use Rattle.switch_text.specs.private.Sliced.{names_by}
use Rattle.switch_text.specs.private.EventSlicing.{sequence_lines, switches_part}
use Rattle.switch_text.proofs.SliceFronts.{fronts_of, fronts_long, fronts_printable, fronts_named, no_items}
use Rattle.switch_text.proofs.EventFronts.{logged_fronts_of, logged_fronts_long, fronts_tellable, fronts_are, whole_parts, no_events}
use Rattle.switch_text.proofs.event_slices.send_fronts.Goals as goal

-- what is required has no names here: after the two of the slices and the writer stand `few`,
-- `named`, `many`, `slots`, `texts`, `room` and `faults`, in this order

pub returns-then-is_empty-clause-ok : goal.returns-then-is_empty-clause-ok
returns-then-is_empty-clause-ok g c =
    let none : c.args.slices.now ≡ [] = no_items c.args.slices.now (eqb-true (length c.args.slices.now) 0 (sym c.is_empty.ensures ∙ c.if-is_empty.true)) in
    no_events g.S.EventSlices.sliced c.args.cut (g.W.Write.contents (inner_of c.args.writer.now)) c.args.batch.now c.args.slices.now none

pub send_events-requires : goal.send_events-requires
send_events-requires g c =
    let f = g.S.EventSlices.sliced in
    let cut = c.args.cut in
    let xs = c.args.slices.now in
    let r = c.requires.1.1 in
    let runs = take (length xs) c.run_fronts-runs.result in
    let ts = take (length xs) c.logged_fronts-logged.result in
    let are = fronts_of (λ x. switches_part (f x)) cut xs c.run_fronts-runs.result (length xs) refl c.run_fronts-runs.ensures.fronts in
    let long = fronts_long (λ x. switches_part (f x)) xs c.run_fronts-runs.result (length xs) refl (omega (arith, r.0, c.run_fronts-runs.ensures.long)) in
    let logged_are = logged_fronts_of f cut xs c.logged_fronts-logged.result (length xs) refl c.logged_fronts-logged.ensures.fronts in
    let logged_long = logged_fronts_long f xs c.logged_fronts-logged.result (length xs) refl (omega (arith, r.0, c.logged_fronts-logged.ensures.long)) in
    let parts = fronts_named cut (map (λ x. switches_part (f x)) xs) runs long are in
    let here = subst (λ rs. RunsHaveNames (names_by rs) runs) (whole_parts f xs) parts in
    let named = subst (λ (names : ℕ → ℕ → List ℕ). RunsHaveNames names runs) (sym r.1.0) here in
    let printable = fronts_printable cut (map (λ x. switches_part (f x)) xs) runs long are in
    let tellable = fronts_tellable cut (map f xs) ts logged_long logged_are in
    λ κs lives. (lives, (omega (arith, long, length-map xs (λ x. switches_part (f x)), r.0), (omega (arith, logged_long, length-map xs f, r.0), (printable, (tellable, (named, r.1.1))))))

pub returns-clause-ok : goal.returns-clause-ok
returns-clause-ok g c =
    let f = g.S.EventSlices.sliced in
    let cut = c.args.cut in
    let xs = c.args.slices.now in
    let r = c.requires.1.1 in
    let runs = take (length xs) c.run_fronts-runs.result in
    let ts = take (length xs) c.logged_fronts-logged.result in
    let are = fronts_of (λ x. switches_part (f x)) cut xs c.run_fronts-runs.result (length xs) refl c.run_fronts-runs.ensures.fronts in
    let long = fronts_long (λ x. switches_part (f x)) xs c.run_fronts-runs.result (length xs) refl (omega (arith, r.0, c.run_fronts-runs.ensures.long)) in
    let logged_are = logged_fronts_of f cut xs c.logged_fronts-logged.result (length xs) refl c.logged_fronts-logged.ensures.fronts in
    let logged_long = logged_fronts_long f xs c.logged_fronts-logged.result (length xs) refl (omega (arith, r.0, c.logged_fronts-logged.ensures.long)) in
    let events = fronts_are f cut xs runs ts long logged_long are logged_are in
    let before = g.W.Write.contents (inner_of c.args.writer.now) in
    let after = g.W.Write.contents (inner_of c.send_events.new.writer) in
    subst (λ (es : List Event). IfOk c.send_events.result (λ n. Sends before after (c.args.batch.now ++ sequence_lines es) n c.send_events.new.batch)) events c.send_events.ensures.ok

pub returns-clause-bound : goal.returns-clause-bound
returns-clause-bound g c =
    let f = g.S.EventSlices.sliced in
    let cut = c.args.cut in
    let xs = c.args.slices.now in
    let r = c.requires.1.1 in
    let runs = take (length xs) c.run_fronts-runs.result in
    let ts = take (length xs) c.logged_fronts-logged.result in
    let are = fronts_of (λ x. switches_part (f x)) cut xs c.run_fronts-runs.result (length xs) refl c.run_fronts-runs.ensures.fronts in
    let long = fronts_long (λ x. switches_part (f x)) xs c.run_fronts-runs.result (length xs) refl (omega (arith, r.0, c.run_fronts-runs.ensures.long)) in
    let logged_are = logged_fronts_of f cut xs c.logged_fronts-logged.result (length xs) refl c.logged_fronts-logged.ensures.fronts in
    let logged_long = logged_fronts_long f xs c.logged_fronts-logged.result (length xs) refl (omega (arith, r.0, c.logged_fronts-logged.ensures.long)) in
    let events = fronts_are f cut xs runs ts long logged_long are logged_are in
    subst (λ (es : List Event). IfOk c.send_events.result (λ n. n + length c.send_events.new.batch ≤ length c.args.batch.now + 512 * length es)) events c.send_events.ensures.bound

pub returns-clause-err : goal.returns-clause-err
returns-clause-err g c =
    let f = g.S.EventSlices.sliced in
    let cut = c.args.cut in
    let xs = c.args.slices.now in
    let r = c.requires.1.1 in
    let runs = take (length xs) c.run_fronts-runs.result in
    let ts = take (length xs) c.logged_fronts-logged.result in
    let are = fronts_of (λ x. switches_part (f x)) cut xs c.run_fronts-runs.result (length xs) refl c.run_fronts-runs.ensures.fronts in
    let long = fronts_long (λ x. switches_part (f x)) xs c.run_fronts-runs.result (length xs) refl (omega (arith, r.0, c.run_fronts-runs.ensures.long)) in
    let logged_are = logged_fronts_of f cut xs c.logged_fronts-logged.result (length xs) refl c.logged_fronts-logged.ensures.fronts in
    let logged_long = logged_fronts_long f xs c.logged_fronts-logged.result (length xs) refl (omega (arith, r.0, c.logged_fronts-logged.ensures.long)) in
    let events = fronts_are f cut xs runs ts long logged_long are logged_are in
    let before = g.W.Write.contents (inner_of c.args.writer.now) in
    let after = g.W.Write.contents (inner_of c.send_events.new.writer) in
    subst (λ (es : List Event). IfErr c.send_events.result (TakesFront before after (c.args.batch.now ++ sequence_lines es))) events c.send_events.ensures.err

pub returns-clause-stopped : goal.returns-clause-stopped
returns-clause-stopped g c =
    let f = g.S.EventSlices.sliced in
    let cut = c.args.cut in
    let xs = c.args.slices.now in
    let r = c.requires.1.1 in
    let runs = take (length xs) c.run_fronts-runs.result in
    let ts = take (length xs) c.logged_fronts-logged.result in
    let are = fronts_of (λ x. switches_part (f x)) cut xs c.run_fronts-runs.result (length xs) refl c.run_fronts-runs.ensures.fronts in
    let long = fronts_long (λ x. switches_part (f x)) xs c.run_fronts-runs.result (length xs) refl (omega (arith, r.0, c.run_fronts-runs.ensures.long)) in
    let logged_are = logged_fronts_of f cut xs c.logged_fronts-logged.result (length xs) refl c.logged_fronts-logged.ensures.fronts in
    let logged_long = logged_fronts_long f xs c.logged_fronts-logged.result (length xs) refl (omega (arith, r.0, c.logged_fronts-logged.ensures.long)) in
    let events = fronts_are f cut xs runs ts long logged_long are logged_are in
    subst (λ (es : List Event). IfErr c.send_events.result (λ n. n ≤ length c.args.batch.now + 512 * length es)) events c.send_events.ensures.stopped
