use Rattle.std.proofs.Common.{◌∙◌, ◌++◌, codes, sym, subst, ℕ, arith, List}
use Rattle.tasks_text.specs.BadLine.{IsBadTaskLine}
use Rattle.tasks_text.proofs.Stops.{bad_line, one_more, one_longer, not_empty, empty_lacks, no_tasks}
use Rattle.std.proofs.lemmas.Bool.{eqb-true}
use Rattle.tasks_text.proofs.reading.tasks_after_header.Goals as goal

pub returns-in-Err-Bad-clause-fault : goal.returns-in-Err-Bad-clause-fault
returns-in-Err-Bad-clause-fault c =
    let whole : List ℕ = codes "dltasks 1\n" ++ c.args.text.now in
    subst (λ (n : ℕ). IsBadTaskLine whole n) (sym c.loop-rest.invariant.place) (bad_line whole c.loop-rest.rest.now c.loop-rest.tasks.items c.loop-rest.invariant.read (rw c.in-Err-Bad.field-0-is at c.in-Err-Bad.ensures.fault) (not_empty c.loop-rest.rest.now c.loop-rest.tasks.items (sym c.loop-rest-test.ensures)))

pub loop-rest-preserved : goal.loop-rest-preserved
loop-rest-preserved c = record {
  read = one_more (codes "dltasks 1\n" ++ c.args.text.now) c.loop-rest.rest.now c.in-Ok.after.now c.loop-rest.tasks.items c.take_line.new.tasks.items c.loop-rest.invariant.read c.in-Ok.ensures.taken;
  place = omega (arith, c.loop-rest.invariant.place, one_longer c.loop-rest.tasks.items c.take_line.new.tasks.items c.loop-rest.rest.now c.in-Ok.after.now c.in-Ok.ensures.taken);
}

pub returns-then-is_empty-clause-fault : goal.returns-then-is_empty-clause-fault
returns-then-is_empty-clause-fault c =
    let whole : List ℕ = codes "dltasks 1\n" ++ c.args.text.now in
    subst (λ (n : ℕ). IsBadTaskLine whole n) (sym c.loop-rest.invariant.place) (bad_line whole c.loop-rest.rest.now c.loop-rest.tasks.items c.loop-rest.invariant.read
    (empty_lacks c.loop-rest.tasks.items c.loop-rest.rest.now (eqb-true _ _ (sym c.is_empty.ensures ∙ c.loop-rest-test.false)))
    (λ e. no_tasks c.loop-rest.tasks.items (omega (arith, c.loop-rest.tasks.ok, eqb-true _ _ (sym c.if-is_empty.ensures)))))
