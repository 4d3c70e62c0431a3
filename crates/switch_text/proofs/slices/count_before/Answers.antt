use Rattle.std.proofs.Common.{◌-◌, length, sym, ◌∙◌, arith}
use Rattle.switch_text.proofs.Splitting.{IsEarly, IsLate, counted_before, counted_from, all_firsts, no_others, last_before, others_late, firsts_early}
use Rattle.switch_text.proofs.slices.count_before.Goals as goal

pub returns-then-is_before-clause-front : goal.returns-then-is_before-clause-front
returns-then-is_before-clause-front c =
    let ss = c.args.switches.now in
    let cut = c.args.cut in
    let early : IsEarly cut c.index-switches-len.result = sym c.is_before.ensures ∙ c.if-is_before.true in
    let all = last_before cut ss (length ss - 1) c.index-switches-len.result c.requires (omega (arith, c.if-len-gt0.true)) (sym c.index-switches-len.is) early in
    counted_before cut ss (length ss) (all_firsts cut ss all) (no_others cut ss)

pub returns-then-is_before-clause-rest : goal.returns-then-is_before-clause-rest
returns-then-is_before-clause-rest c =
    let ss = c.args.switches.now in
    let cut = c.args.cut in
    let early : IsEarly cut c.index-switches-len.result = sym c.is_before.ensures ∙ c.if-is_before.true in
    let all = last_before cut ss (length ss - 1) c.index-switches-len.result c.requires (omega (arith, c.if-len-gt0.true)) (sym c.index-switches-len.is) early in
    counted_from cut ss (length ss) (all_firsts cut ss all) (no_others cut ss)

pub returns-then-not-is_before-clause-front : goal.returns-then-not-is_before-clause-front
returns-then-not-is_before-clause-front c =
    let ss = c.args.switches.now in
    let cut = c.args.cut in
    let n = c.count.count in
    let late : IsLate cut c.index-switches-count.result = sym c.is_before-in-count.ensures ∙ c.if-not-is_before.true in
    counted_before cut ss n (firsts_early cut ss n c.count.invariant.inside c.count.invariant.early) (others_late cut ss n c.index-switches-count.result c.requires c.count-test.true (sym c.index-switches-count.is) late)

pub returns-then-not-is_before-clause-rest : goal.returns-then-not-is_before-clause-rest
returns-then-not-is_before-clause-rest c =
    let ss = c.args.switches.now in
    let cut = c.args.cut in
    let n = c.count.count in
    let late : IsLate cut c.index-switches-count.result = sym c.is_before-in-count.ensures ∙ c.if-not-is_before.true in
    counted_from cut ss n (firsts_early cut ss n c.count.invariant.inside c.count.invariant.early) (others_late cut ss n c.index-switches-count.result c.requires c.count-test.true (sym c.index-switches-count.is) late)
