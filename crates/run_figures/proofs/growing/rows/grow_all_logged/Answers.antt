use Rattle.std.proofs.Common.{subst, sym, arith}
use Rattle.run_figures.specs.private.Growing.{grown_logged, IsLoggedCounted, IsLoggedSoon}
use Rattle.run_figures.proofs.RowsBoth.{item_there, each_there, one_more_there, all_there}
use Rattle.run_figures.proofs.growing.rows.grow_all_logged.Goals as goal

pub grow_logged-requires-clause-counted : goal.grow_logged-requires-clause-counted
grow_logged-requires-clause-counted c =
    each_there IsLoggedCounted (grown_logged c.args.shift c.args.periods) c.loop-place.place _ c.index_mut.result.now c.args.before.now c.args.table.now.items c.loop-place.table.items c.loop-place.invariant.rows c.index_mut.ensures.value c.requires.same (omega arith) c.requires.counted

pub loop-place-preserved : goal.loop-place-preserved
loop-place-preserved c = record {
  rows = one_more_there (grown_logged c.args.shift c.args.periods) c.loop-place.place _ c.index_mut.result.now c.grow_logged.new.logged c.args.before.now c.args.table.now.items c.loop-place.table.items c.loop-place.invariant.rows c.index_mut.ensures.value c.requires.same (omega arith) c.grow_logged.ensures;
  same_room = c.loop-place.invariant.same_room;
}

pub returns-clause-grown : goal.returns-clause-grown
returns-clause-grown c =
    all_there (grown_logged c.args.shift c.args.periods) c.loop-place.place c.args.before.now c.args.table.now.items c.loop-place.table.items c.loop-place.invariant.rows c.requires.same (omega arith)

pub grow_logged-requires-clause-soon : goal.grow_logged-requires-clause-soon
grow_logged-requires-clause-soon c =
    subst (IsLoggedSoon c.args.shift)
    (sym (item_there (grown_logged c.args.shift c.args.periods) c.loop-place.place c.index_mut.result.now c.args.before.now c.args.table.now.items c.loop-place.table.items c.loop-place.invariant.rows c.index_mut.ensures.value))
    (c.requires.soon c.loop-place.place c.index_mut.result.now (omega (arith, c.requires.same)))
