use Rattle.std.proofs.Common.{◌∷◌, ◌++◌, [], get_or, sym, ap, ◌∙◌, arith}
use Rattle.std.proofs.lemmas.List.{length-set, length-map, take_more_set, map_more}
use Rattle.bw_gate.specs.declared.terms.Room.{Room}
use Rattle.bw_gate.specs.Word.{first_word}
use Rattle.bw_gate.proofs.Rooms.{none, cap_at}
use Rattle.bw_gate.proofs.terms.first_words.Goals as goal

pub overflow_mul-row : goal.overflow_mul-row
overflow_mul-row c = let small = cap_at c.args.rooms.now c.args.pieces c.requires c.loop-i.i (omega arith) in omega (arith, small)

pub overflow_mul-row-in-loop-i : goal.overflow_mul-row-in-loop-i
overflow_mul-row-in-loop-i c = let small = cap_at c.args.rooms.now c.args.pieces c.requires c.loop-i.i (omega arith) in omega (arith, small)

pub loop-i-preserved : goal.loop-i-preserved
loop-i-preserved c =
    let rooms = c.args.rooms.now in
    let i = c.loop-i.i in
    let inv = c.loop-i.invariant in
    let long = length-map rooms (λ (r : Room). r.cpus) in
    let few = c.requires.terms.few in
    let word = first_word (get_or rooms i none) in (
      length-set c.loop-i.row i word ∙ inv.0,
      take_more_set c.loop-i.row i word (omega (arith, long, few, inv.0)) ∙ ap (λ ws. ws ++ word ∷ []) inv.1 ∙ sym (map_more first_word rooms i none (omega arith)),
    )
