use Rattle.std.proofs.Common.{◌≡◌, ℕ, List, ◌++◌, replicate, ap, ◌∙◌, subst}
use Rattle.counted_io.specs.Sides.{inner_of}
use Rattle.draft.specs.Columns.{right}
use Rattle.figure_text.specs.private.Outgoing.{Puts, Stops}
use Rattle.figure_text.proofs.Sending.{puts_then, stops_then, stops_before, on_ok, on_err, anyway}
use Rattle.figure_text.proofs.jobs.put_name.Goals as goal

pub returns-in_err-put-clause-err : goal.returns-in_err-put-clause-err
returns-in_err-put-clause-err g c =
    let name = c.args.name.now in
    let whole : c.spaces.result.now ++ name ≡ right 15 name = ap (λ (xs : List ℕ). xs ++ name) (c.spaces.ensures ∙ ap (λ (n : ℕ). replicate n 32) c.saturating_sub.ensures) in
    let before = g.W.Write.contents (inner_of c.args.writer.now) in
    let mid = g.W.Write.contents (inner_of c.put.new.writer) in
    anyway c.from_residual.result
    (subst (Stops before mid c.args.out.now c.put.new.self) whole
    (stops_before before mid c.args.out.now c.put.new.self c.spaces.result.now name c.in_err-put.ensures.err))

pub returns-clause-ok : goal.returns-clause-ok
returns-clause-ok g c =
    let name = c.args.name.now in
    let whole : c.spaces.result.now ++ name ≡ right 15 name = ap (λ (xs : List ℕ). xs ++ name) (c.spaces.ensures ∙ ap (λ (n : ℕ). replicate n 32) c.saturating_sub.ensures) in
    let before = g.W.Write.contents (inner_of c.args.writer.now) in
    let mid = g.W.Write.contents (inner_of c.put.new.writer) in
    let after = g.W.Write.contents (inner_of c.put-2.new.writer) in
    on_ok c.put-2.result
    (λ p. subst (Puts before after c.args.out.now c.put-2.new.self) whole
    (puts_then before mid after c.args.out.now c.put.new.self c.put-2.new.self c.spaces.result.now name c.in_ok-put.ensures.ok p))
    c.put-2.ensures.ok

pub returns-clause-err : goal.returns-clause-err
returns-clause-err g c =
    let name = c.args.name.now in
    let whole : c.spaces.result.now ++ name ≡ right 15 name = ap (λ (xs : List ℕ). xs ++ name) (c.spaces.ensures ∙ ap (λ (n : ℕ). replicate n 32) c.saturating_sub.ensures) in
    let before = g.W.Write.contents (inner_of c.args.writer.now) in
    let mid = g.W.Write.contents (inner_of c.put.new.writer) in
    let after = g.W.Write.contents (inner_of c.put-2.new.writer) in
    on_err c.put-2.result
    (λ s. subst (Stops before after c.args.out.now c.put-2.new.self) whole
    (stops_then before mid after c.args.out.now c.put.new.self c.put-2.new.self c.spaces.result.now name c.in_ok-put.ensures.ok s))
    c.put-2.ensures.err
