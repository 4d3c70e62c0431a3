use Rattle.std.proofs.Common.{◌≡◌, ◌≢◌, ◌<◌, length, set, get_or, sym, ap, ◌∙◌, arith}
use Rattle.std.proofs.lemmas.List.{length-set, get_or-set_same, get_or-set_other, get_or_default}
use Rattle.std.specs.Mem.Slots.{slots_items}
use borrow.Author.Count.{below_more}
use Rattle.bw_gate.specs.Word.{used_of as used_part}
use Rattle.bw_gate.proofs.Views.{at_is}
use Rattle.bw_gate.proofs.dealing.words_of.Goals as goal

pub loop-i-preserved : goal.loop-i-preserved
loop-i-preserved c =
    let inv = c.loop-i.invariant in
    let xs = c.loop-i.word in
    let i = c.loop-i.i in
    let n = c.used_of.result in
    let m = c.word.result in
    let ys = slots_items c.args.closed.now.words in
    let short : i < length xs = omega (arith, inv.0) in
    let at = at_is ys i m c.word.ensures in
    let here : n ≡ used_part (get_or ys i 0) = c.used_of.ensures ∙ ap used_part (sym (get_or_default ys i 0 m at.0 ∙ at.1)) in (
      length-set xs i n ∙ inv.0,
      below_more (λ d. get_or (set xs i n) d 0 ≡ used_part (get_or ys d 0)) i (λ d lt. let ne : d ≢ i = omega arith in get_or-set_other xs i d n 0 ne ∙ inv.1 d lt) (get_or-set_same xs i n 0 short ∙ here),
      (λ d le. let ne : d ≢ i = omega arith in get_or-set_other xs i d n 0 ne ∙ inv.2 d (omega arith)),
    )
