use Rattle.std.proofs.Common.{◌≡◌, [], ◌++◌, append-nil, refl, sym, take, string_bytes, rules}
use Rattle.std.specs.List.{prefix_len}
use Rattle.json_order.specs.Grammar.{is_plain}
use Rattle.json_order.proofs.AtOnce.{moves_plain}
use Rattle.json_order.proofs.taking.move_plain.Goals as goal

pub returns-then-bytes-eq92-clause-ok : goal.returns-then-bytes-eq92-clause-ok
returns-then-bytes-eq92-clause-ok c = ([], refl, tt, sym (append-nil (string_bytes c.args.text.now)))

pub returns-clause-ok : goal.returns-clause-ok
returns-clause-ok c =
    let same : c.as_bytes-bytes.result.now ≡ c.args.rest.now = c.as_bytes-bytes.ensures.value in
    let run : c.plain_len.result ≡ prefix_len is_plain c.args.rest.now = rw same at c.plain_len.ensures.value in
    let moved : string_bytes c.push_text.new.text ≡ string_bytes c.args.text.now ++ take c.plain_len.result c.args.rest.now = search rules in
    moves_plain (string_bytes c.args.text.now) (string_bytes c.push_text.new.text) c.args.rest.now c.split_at.result.1.now c.plain_len.result c.utf8.rest run moved c.split_at.ensures.back
