use Rattle.std.proofs.Common.{◌≡◌, false, rules}
use Rattle.json_order.specs.Lent.{text_bytes}
use Rattle.json_order.specs.Grammar.{has_key}
use Rattle.json_order.specs.private.Entries.{keys_of}
use Rattle.json_order.specs.private.Whole.{IsQuoted}
use Rattle.json_order.proofs.Crossings.{key_read}
use Rattle.json_order.proofs.whole.key.Goals as goal

pub returns-clause-ok : goal.returns-clause-ok
returns-clause-ok c =
    let text = text_bytes c.in-Some-2.text in
    let ms = c.args.members.now.list.items in
    let inside : IsQuoted text c.in-Some.begun.now c.in-Some-2.behind.now = rw c.in-Some-2.is at c.in_ok-text.ensures.ok in
    let fresh : has_key (keys_of ms) text ≡ false = search rules in
    key_read ms text c.args.rest.now c.in-Some.begun.now c.in-Some-2.behind.now c.behind_space.result.now c.in-Some-behind_char.after.now c.behind_space-2.result.now
    c.in-Some.ensures inside c.behind_space.ensures c.in-Some-behind_char.ensures fresh c.behind_space-2.ensures
