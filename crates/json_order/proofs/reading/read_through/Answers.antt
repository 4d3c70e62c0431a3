use Rattle.std.specs.Prelude.{encode_utf8_all}
use Rattle.std.specs.Str.Iter.{chars_rest}
use Rattle.std.proofs.Common.{length, refl, ap, arith}
use Rattle.json_order.specs.private.Places.{code_state}
use Rattle.json_order.proofs.Turns.{Told, fault_told, stands_more, stands_fine, left_length}
use Rattle.json_order.proofs.reading.read_through.Goals as goal

pub returns-in-Err-clause-fault : goal.returns-in-Err-clause-fault
returns-in-Err-clause-fault c =
    let ys = c.loop-c.invariant.stands.0 in
    let left = left_length c.args.text.now ys (chars_rest c.loop-c.chars) (chars_rest c.next.new.self) c.in-Some.c c.len_utf8.result c.loop-c.invariant.stands.1 c.in-Some.ensures.steps.0 c.len_utf8.ensures.len in
    let rest = ap length c.as_str-rest.ensures in
    let told : Told c.in-Err.kind (length (encode_utf8_all ys)) c.fault_at.result.kind c.fault_at.result.at =
    record { same = c.fault_at.ensures.kind; memory = c.fault_at.ensures.memory; other = λ n. let at = c.fault_at.ensures.other n in omega arith } in
    fault_told c.args.text.now ys c.in-Some.c (chars_rest c.loop-c.chars) (chars_rest c.next.new.self) (code_state c.loop-c.place c.loop-c.stack.items)
    c.in-Err.kind (length (encode_utf8_all ys)) c.fault_at.result.kind c.fault_at.result.at
    c.utf8.text c.loop-c.invariant.stands.1 c.in-Some.ensures.steps.0 c.loop-c.invariant.stands.2 c.in-Err.ensures.err refl told

pub loop-c-preserved : goal.loop-c-preserved
loop-c-preserved c =
    let u = code_state c.turn.new.place c.turn.new.stack.items in
    let more = stands_more c.args.text.now (chars_rest c.loop-c.chars) (chars_rest c.next.new.self) c.in-Some.c (code_state c.loop-c.place c.loop-c.stack.items) u c.loop-c.invariant.stands c.in-Some.ensures.steps.0 c.in-Ok.ensures.ok in
    record { stands = more; fine = stands_fine c.args.text.now (chars_rest c.next.new.self) u more }
