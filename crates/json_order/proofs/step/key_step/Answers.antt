use Rattle.std.proofs.Common.{rules, ◌≡◌, Some, string_bytes, true, false}
use Rattle.json_order.specs.Grammar.{has_key}
use Rattle.json_order.specs.private.Entries.{keys_of}
use Rattle.json_order.specs.private.Machine.{quote_step, closed}
use Rattle.json_order.proofs.Trees.{key_repeats, key_follows}
use Rattle.json_order.proofs.step.key_step.Goals as goal

pub returns-then-has-clause-err : goal.returns-then-has-clause-err
returns-then-has-clause-err c = λ fs.
    let e : quote_step (string_bytes c.args.text) c.args.escape c.args.c ≡ Some (closed (string_bytes c.quote_step.new.text)) = search rules in
    let h : has_key (keys_of c.args.members.list.items) (string_bytes c.quote_step.new.text) ≡ true = search rules in
    key_repeats c.args.members.list.items fs (quote_step (string_bytes c.args.text) c.args.escape c.args.c) (string_bytes c.quote_step.new.text) e h

pub returns-else-has-clause-ok : goal.returns-else-has-clause-ok
returns-else-has-clause-ok c = λ fs.
    let e : quote_step (string_bytes c.args.text) c.args.escape c.args.c ≡ Some (closed (string_bytes c.quote_step.new.text)) = search rules in
    let h : has_key (keys_of c.args.members.list.items) (string_bytes c.quote_step.new.text) ≡ false = search rules in
    key_follows c.args.members.list.items fs (quote_step (string_bytes c.args.text) c.args.escape c.args.c) (string_bytes c.quote_step.new.text) e h
