use Rattle.std.specs.Str.Iter.{chars_rest}
use Rattle.std.proofs.Common.{◌≡◌, true, rules}
use Rattle.json_order.specs.Grammar.{is_space}
use Rattle.json_order.proofs.Crossings.{spaced_more}
use Rattle.json_order.proofs.whole.behind_space.Goals as goal

pub spaces-preserved : goal.spaces-preserved
spaces-preserved c =
    let h : is_space c.in-Some.c ≡ true = search rules in
    spaced_more c.args.rest.now (chars_rest c.spaces.chars) (chars_rest c.next.new.self) c.in-Some.c c.spaces.invariant h c.in-Some.ensures.steps.0
