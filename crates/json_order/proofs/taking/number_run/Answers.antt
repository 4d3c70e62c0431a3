use Rattle.std.specs.Char.{is_ascii_digit}
use Rattle.std.specs.List.{All}
use Rattle.std.proofs.Common.{◌≡◌, ◌≤◌, ◌+◌, ◌-◌, Some, true, length, take, drop, slice_index_or, ap, ◌∙◌, subst, arith, rules}
use Rattle.std.proofs.lemmas.List.{take_all, take_more, length-drop}
use Rattle.json_order.specs.private.AtOnce.{parts_after, is_in_digits}
use Rattle.json_order.specs.private.Machine.{part_step}
use Rattle.json_order.proofs.AtOnce.{parts_more, parts_digits}
use Rattle.json_order.proofs.taking.number_run.Goals as goal

pub parts-preserved : goal.parts-preserved
parts-preserved c =
    let e : part_step c.parts.read (slice_index_or c.args.bytes.now c.parts.len 0) ≡ Some c.in-Some.next = search rules in
    record {
      within = omega arith;
      read =
          ap (parts_after c.args.part) (take_more c.args.bytes.now c.parts.len 0 c.parts-test.true)
          ∙ parts_more (take c.parts.len c.args.bytes.now) (slice_index_or c.args.bytes.now c.parts.len 0) c.args.part c.parts.read c.in-Some.next c.parts.invariant.read e;
    }

pub parts-preserved-then-is_in_digits : goal.parts-preserved-then-is_in_digits
parts-preserved-then-is_in_digits c =
    let e : part_step c.parts.read (slice_index_or c.args.bytes.now c.parts.len 0) ≡ Some c.in-Some.next = search rules in
    let read : parts_after c.args.part (take (c.parts.len + 1) c.args.bytes.now) ≡ Some c.in-Some.next =
    ap (parts_after c.args.part) (take_more c.args.bytes.now c.parts.len 0 c.parts-test.true)
    ∙ parts_more (take c.parts.len c.args.bytes.now) (slice_index_or c.args.bytes.now c.parts.len 0) c.args.part c.parts.read c.in-Some.next c.parts.invariant.read e in
    let inside : is_in_digits c.in-Some.next ≡ true = search rules in
    let left = length-drop (c.parts.len + 1) c.args.bytes.now in
    let whole : take (length c.args.bytes.now - (c.parts.len + 1)) (drop (c.parts.len + 1) c.args.bytes.now) ≡ drop (c.parts.len + 1) c.args.bytes.now = take_all (length c.args.bytes.now - (c.parts.len + 1)) (drop (c.parts.len + 1) c.args.bytes.now) (omega (arith, left)) in
    let digits = subst (λ xs. All (λ b. is_ascii_digit b ≡ true) (take c.digits_len-len.result xs)) whole c.digits_len-len.ensures.digits in
    let within = subst (λ xs. c.digits_len-len.result ≤ length xs) whole c.digits_len-len.ensures.within in
    record {
      within = omega (arith, left, within, c.parts-test.true);
      read = parts_digits c.args.bytes.now (c.parts.len + 1) c.digits_len-len.result c.args.part c.in-Some.next read inside digits;
    }
