use Rattle.std.proofs.Common.{◌≡◌, [], string_bytes, subst, sym, rules}
use Rattle.json_order.specs.declared.place.Escape.TheVariants.{Outside}
use Rattle.json_order.specs.private.AtOnce.{TakesQuoted}
use Rattle.json_order.proofs.AtOnce.{quoted_more, takes_plain}
use Rattle.json_order.proofs.taking.text_of.Goals as goal

pub returns-then-is_empty-clause-ok : goal.returns-then-is_empty-clause-ok
returns-then-is_empty-clause-ok c = takes_plain [] c.plain_front.result.0.now c.args.rest.now c.plain_front.result.1.now c.plain_front.ensures

pub returns-clause-ok : goal.returns-clause-ok
returns-clause-ok c =
    let front = c.plain_front.result.0.now in
    let after = c.plain_front.result.1.now in
    let copied : string_bytes c.in_ok-text.text ≡ front = search rules in
    quoted_more [] (string_bytes c.in_ok-text.text) (string_bytes c.take_characters.new.text) Outside Outside Outside c.args.rest.now after c.in_ok-behind.behind.now
    (subst (λ x. TakesQuoted [] Outside x Outside c.args.rest.now after) (sym copied) (takes_plain [] front c.args.rest.now after c.plain_front.ensures)) c.in_ok-behind.ensures.ok
