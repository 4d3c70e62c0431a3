use Rattle.std.proofs.Common.{◌≡◌, ◌++◌, take}
use Rattle.run_figures.specs.private.Past.{items_of}
use Rattle.run_figures.proofs.past.Past.extend.Given as goal

abbrev pub invariant-loop-one : goal.invariant-loop-one
invariant-loop-one g l = record {
  items : (later : _) → items_of later l.self.items ≡ items_of later l.initial.self.items ++ take l.one-index l.many;
  count : l.self.count ≡ l.initial.self.count;
}
