use Rattle.std.specs.Prelude.{encode_utf8}
use Rattle.std.specs.Str.Iter.{chars_rest}
use Rattle.std.proofs.Common.{◌≡◌, ◌++◌, length, string_bytes, rules, sym, ap, subst, arith}
use Rattle.json_order.specs.private.AtOnce.{MovesPlain, TakesQuoted}
use Rattle.json_order.specs.declared.place.Escape.TheVariants.{Outside}
use Rattle.json_order.proofs.AtOnce.{quoted_more, takes_plain}
use Rattle.json_order.proofs.Escapes.{escape_taken, escape_shorter, plain_shorter}
use Rattle.json_order.proofs.taking.take_characters.Goals as goal

pub returns-in-None-clause-ok : goal.returns-in-None-clause-ok
returns-in-None-clause-ok c =
    let plain : MovesPlain (string_bytes c.loop-behind.text) (string_bytes c.move_plain.new.text) (chars_rest c.loop-behind.chars) c.in_ok-behind.behind.now = subst (λ x. MovesPlain (string_bytes c.loop-behind.text) (string_bytes c.move_plain.new.text) x c.in_ok-behind.behind.now) c.as_str.ensures c.in_ok-behind.ensures.ok in
    quoted_more (string_bytes c.args.text.now) (string_bytes c.loop-behind.text) (string_bytes c.move_plain.new.text) Outside Outside Outside c.args.rest.now (chars_rest c.loop-behind.chars) c.in_ok-behind.behind.now c.loop-behind.invariant
    (takes_plain (string_bytes c.loop-behind.text) (string_bytes c.move_plain.new.text) (chars_rest c.loop-behind.chars) c.in_ok-behind.behind.now plain)

pub loop-behind-preserved : goal.loop-behind-preserved
loop-behind-preserved c =
    let plain : MovesPlain (string_bytes c.loop-behind.text) (string_bytes c.move_plain.new.text) (chars_rest c.loop-behind.chars) c.in_ok-behind.behind.now = subst (λ x. MovesPlain (string_bytes c.loop-behind.text) (string_bytes c.move_plain.new.text) x c.in_ok-behind.behind.now) c.as_str.ensures c.in_ok-behind.ensures.ok in
    let moved = quoted_more (string_bytes c.args.text.now) (string_bytes c.loop-behind.text) (string_bytes c.move_plain.new.text) Outside Outside Outside c.args.rest.now (chars_rest c.loop-behind.chars) c.in_ok-behind.behind.now c.loop-behind.invariant
    (takes_plain (string_bytes c.loop-behind.text) (string_bytes c.move_plain.new.text) (chars_rest c.loop-behind.chars) c.in_ok-behind.behind.now plain) in
    let pushed : string_bytes c.push.new.self ≡ string_bytes c.move_plain.new.text ++ encode_utf8 c.in-Some.c = search rules in
    let one = escape_taken (string_bytes c.move_plain.new.text) c.in-Some.c c.in_ok-behind.behind.now c.in-Some.after.now c.in-Some.ensures in
    let taken = quoted_more (string_bytes c.args.text.now) (string_bytes c.move_plain.new.text) (string_bytes c.push.new.self) Outside Outside Outside c.args.rest.now c.in_ok-behind.behind.now c.in-Some.after.now moved
    (subst (λ x. TakesQuoted (string_bytes c.move_plain.new.text) Outside x Outside c.in_ok-behind.behind.now c.in-Some.after.now) (sym pushed) one) in
    subst (λ x. TakesQuoted (string_bytes c.args.text.now) Outside (string_bytes c.push.new.self) Outside c.args.rest.now x) (sym c.chars-chars-in-Some.ensures.rest) taken

pub loop-behind-smaller : goal.loop-behind-smaller
loop-behind-smaller c =
    let plain : MovesPlain (string_bytes c.loop-behind.text) (string_bytes c.move_plain.new.text) (chars_rest c.loop-behind.chars) c.in_ok-behind.behind.now = subst (λ x. MovesPlain (string_bytes c.loop-behind.text) (string_bytes c.move_plain.new.text) x c.in_ok-behind.behind.now) c.as_str.ensures c.in_ok-behind.ensures.ok in
    omega (
      arith,
      plain_shorter (string_bytes c.loop-behind.text) (string_bytes c.move_plain.new.text) (chars_rest c.loop-behind.chars) c.in_ok-behind.behind.now plain,
      escape_shorter c.in-Some.c c.in_ok-behind.behind.now c.in-Some.after.now c.in-Some.ensures,
      ap length c.chars-chars-in-Some.ensures.rest,
    )
