use Rattle.std.proofs.Common.{◌≡◌, ◌++◌, ◌≤◌, ◌+◌, ◌*◌, List, [], ℕ, length, map, take, refl, subst, sym, ap, ◌∙◌, arith}
use Rattle.std.specs.Prelude.{IfOk, IfErr}
use Rattle.std.proofs.lemmas.Bool.{eqb-true}
use Rattle.std.proofs.lemmas.List.{length-map}
use Rattle.counted_io.specs.Sides.{inner_of}
use Rattle.counted_io.specs.Faults.{TakesFront}
use Rattle.switch_text.specs.Trace.{Entry, entries_in_order, text_of_entries}
use Rattle.switch_text.specs.private.Ready.{RunsHaveNames}
use Rattle.switch_text.specs.private.Sending.{Sends}
use Rattle.switch_text.specs.private.Sliced.{lines_in, runs_before}
use Rattle.switch_text.proofs.SliceFronts.{fronts_of, fronts_long, fronts_entries, fronts_printable, fronts_named, no_items, Sends-nothing}
use Rattle.switch_text.proofs.slices.send_fronts.Goals as goal

-- what is required has no names here: after the two of the slices and the writer stand `few`,
-- `named`, `many`, `slots`, `texts`, `room` and `faults`, in this order

pub returns-then-is_empty-clause-ok : goal.returns-then-is_empty-clause-ok
returns-then-is_empty-clause-ok g c =
    let f = g.S.Slices.sliced in
    let none : c.args.slices.now ≡ [] = no_items c.args.slices.now (eqb-true (length c.args.slices.now) 0 (sym c.is_empty.ensures ∙ c.if-is_empty.true)) in
    let before = g.W.Write.contents (inner_of c.args.writer.now) in
    subst (λ (xs : List g.row.S.Denot). Sends before before (c.args.batch.now ++ lines_in (runs_before c.args.cut (map f xs))) 0 c.args.batch.now) (sym none) (Sends-nothing before c.args.batch.now)

pub send_runs-requires : goal.send_runs-requires
send_runs-requires g c =
    let f = g.S.Slices.sliced in
    let xs = c.args.slices.now in
    let runs = take (length xs) c.fronts-runs.result in
    let is = fronts_of f c.args.cut xs c.fronts-runs.result (length xs) refl c.fronts-runs.ensures.fronts in
    let long = fronts_long f xs c.fronts-runs.result (length xs) refl (omega (arith, c.requires.1.1.0, c.fronts-runs.ensures.long)) in
    let r = c.requires.1.1 in
    let named = subst (λ (names : ℕ → ℕ → List ℕ). RunsHaveNames names runs) (sym r.1.0) (fronts_named c.args.cut (map f xs) runs long is) in
    λ κs lives. (lives, (omega (arith, long, length-map xs f, r.0), (fronts_printable c.args.cut (map f xs) runs long is, (named, r.1.1))))

pub returns-clause-ok : goal.returns-clause-ok
returns-clause-ok g c =
    let f = g.S.Slices.sliced in
    let xs = c.args.slices.now in
    let runs = take (length xs) c.fronts-runs.result in
    let is = fronts_of f c.args.cut xs c.fronts-runs.result (length xs) refl c.fronts-runs.ensures.fronts in
    let long = fronts_long f xs c.fronts-runs.result (length xs) refl (omega (arith, c.requires.1.1.0, c.fronts-runs.ensures.long)) in
    let before = g.W.Write.contents (inner_of c.args.writer.now) in
    let after = g.W.Write.contents (inner_of c.send_runs.new.writer) in
    let lines = ap (λ (es : List Entry). text_of_entries (entries_in_order es)) (fronts_entries c.args.cut (map f xs) runs long is) in
    subst (λ (text : List ℕ). IfOk c.send_runs.result (λ n. Sends before after (c.args.batch.now ++ text) n c.send_runs.new.batch)) lines c.send_runs.ensures.ok

pub returns-clause-bound : goal.returns-clause-bound
returns-clause-bound g c =
    let f = g.S.Slices.sliced in
    let xs = c.args.slices.now in
    let runs = take (length xs) c.fronts-runs.result in
    let is = fronts_of f c.args.cut xs c.fronts-runs.result (length xs) refl c.fronts-runs.ensures.fronts in
    let long = fronts_long f xs c.fronts-runs.result (length xs) refl (omega (arith, c.requires.1.1.0, c.fronts-runs.ensures.long)) in
    subst (λ (es : List Entry). IfOk c.send_runs.result (λ n. n + length c.send_runs.new.batch ≤ length c.args.batch.now + 512 * length es)) (fronts_entries c.args.cut (map f xs) runs long is) c.send_runs.ensures.bound

pub returns-clause-err : goal.returns-clause-err
returns-clause-err g c =
    let f = g.S.Slices.sliced in
    let xs = c.args.slices.now in
    let runs = take (length xs) c.fronts-runs.result in
    let is = fronts_of f c.args.cut xs c.fronts-runs.result (length xs) refl c.fronts-runs.ensures.fronts in
    let long = fronts_long f xs c.fronts-runs.result (length xs) refl (omega (arith, c.requires.1.1.0, c.fronts-runs.ensures.long)) in
    let before = g.W.Write.contents (inner_of c.args.writer.now) in
    let after = g.W.Write.contents (inner_of c.send_runs.new.writer) in
    let lines = ap (λ (es : List Entry). text_of_entries (entries_in_order es)) (fronts_entries c.args.cut (map f xs) runs long is) in
    subst (λ (text : List ℕ). IfErr c.send_runs.result (TakesFront before after (c.args.batch.now ++ text))) lines c.send_runs.ensures.err

pub returns-clause-stopped : goal.returns-clause-stopped
returns-clause-stopped g c =
    let f = g.S.Slices.sliced in
    let xs = c.args.slices.now in
    let runs = take (length xs) c.fronts-runs.result in
    let is = fronts_of f c.args.cut xs c.fronts-runs.result (length xs) refl c.fronts-runs.ensures.fronts in
    let long = fronts_long f xs c.fronts-runs.result (length xs) refl (omega (arith, c.requires.1.1.0, c.fronts-runs.ensures.long)) in
    subst (λ (es : List Entry). IfErr c.send_runs.result (λ n. n ≤ length c.args.batch.now + 512 * length es)) (fronts_entries c.args.cut (map f xs) runs long is) c.send_runs.ensures.stopped
