use Rattle.std.proofs.Common.{ℕ, length, sym, subst, refl, ◌∙◌, arith}
use Rattle.std.proofs.lemmas.Grind.{common_steps}
use Rattle.domain_run.specs.private.Choosing.{AreWithin}
use Rattle.domain_run.specs.private.StaleCharges.{IsMarked}
use Rattle.domain_run.specs.private.Owed.{owed_all}
use Rattle.domain_run.proofs.Stale.{marked_more, marked_trans, marked_next}
use Rattle.domain_run.proofs.Choosing.{nobody, homed_more, homed_none}
use Rattle.domain_run.proofs.task_table.choosing.home_all.Goals as goal

pub loop-i-init : goal.loop-i-init
loop-i-init c = record {
  wide = refl;
  counts = c.requires.counts;
  written = sym (homed_none c.occupants-places.result.now (owed_all c.args.charges.now c.args.tasks.now));
  clock = refl;
  long = refl;
  marked = marked_more c.args.stale.now.rated c.args.stale.now.cpus c.args.stale.now.cpus c.args.charges.now.charges (owed_all c.args.charges.now c.args.tasks.now) (λ i e. e);
  moved = λ j d h few. absurd (omega (arith, h));
  rated = refl;
  sum = refl;
  limit = refl;
}

pub home_on-requires-clause-there : goal.home_on-requires-clause-there
home_on-requires-clause-there c =
    let within = subst (AreWithin (length c.args.accounts.now.all)) (sym c.moves-moves.ensures) c.requires.there in
    let less = within c.loop-i.i nobody (omega arith) in
    omega (arith, less, c.loop-i.invariant.wide)

pub home_on-requires-clause-counts : goal.home_on-requires-clause-counts
home_on-requires-clause-counts c = c.loop-i.invariant.counts

pub loop-i-preserved : goal.loop-i-preserved
loop-i-preserved c =
    let l = c.loop-i in
    let e = c.home_on.ensures in
    record {
      wide = e.wide ∙ l.invariant.wide;
      counts = e.counts;
      written = e.tasks ∙ homed_more c.occupants-places.result.now c.moves-moves.result.now (owed_all c.args.charges.now c.args.tasks.now) (owed_all l.charges l.tasks) l.i nobody c.occupant_of-occupant.result (omega arith) l.invariant.written c.occupant_of-occupant.ensures;
      clock = e.clock ∙ l.invariant.clock;
      long = e.charges ∙ l.invariant.long;
      marked = marked_trans c.args.stale.now.rated c.args.stale.now.cpus l.stale.cpus c.home_on.new.stale.cpus c.args.charges.now.charges l.charges.charges c.home_on.new.charges.charges (owed_all c.args.charges.now c.args.tasks.now) (owed_all l.charges l.tasks) (owed_all c.home_on.new.charges c.home_on.new.tasks) l.invariant.marked
          (subst (λ (r : ℕ). IsMarked r l.stale.cpus c.home_on.new.stale.cpus l.charges.charges c.home_on.new.charges.charges (owed_all l.charges l.tasks) (owed_all c.home_on.new.charges c.home_on.new.tasks)) l.invariant.rated e.marked);
      moved = λ j d h few. marked_next l.stale.cpus c.home_on.new.stale.cpus l.i c.moves-moves.result.now j d nobody h few l.invariant.moved e.marked.bare e.here (omega arith);
      rated = e.rated ∙ l.invariant.rated;
      sum = e.sum ∙ l.invariant.sum;
      limit = e.limit ∙ l.invariant.limit;
    }

pub returns-clause-wide : goal.returns-clause-wide
returns-clause-wide c = grind (arith, common_steps)

pub returns-clause-counts : goal.returns-clause-counts
returns-clause-counts c = grind (arith, common_steps)

pub returns-clause-tasks : goal.returns-clause-tasks
returns-clause-tasks c = grind (arith, common_steps)

pub returns-clause-clock : goal.returns-clause-clock
returns-clause-clock c = grind (arith, common_steps)

pub returns-clause-charges : goal.returns-clause-charges
returns-clause-charges c = grind (arith, common_steps)

pub returns-clause-marked : goal.returns-clause-marked
returns-clause-marked c = grind (arith, common_steps)

pub returns-clause-moved : goal.returns-clause-moved
returns-clause-moved c = grind (arith, common_steps)

pub returns-clause-rated : goal.returns-clause-rated
returns-clause-rated c = grind (arith, common_steps)

pub returns-clause-sum : goal.returns-clause-sum
returns-clause-sum c = grind (arith, common_steps)

pub returns-clause-limit : goal.returns-clause-limit
returns-clause-limit c = grind (arith, common_steps)
