use Rattle.std.proofs.Common.{◌≡◌, [], take, rules}
use Rattle.std.specs.List.{prefix_len}
use Rattle.json_order.specs.Grammar.{is_plain}
use Rattle.json_order.proofs.AtOnce.{moves_plain}
use Rattle.json_order.proofs.taking.plain_front.Goals as goal

pub returns : goal.returns
returns c =
    let same : c.as_bytes.result.now ≡ c.args.rest.now = c.as_bytes.ensures.value in
    let run : c.plain_len.result ≡ prefix_len is_plain c.args.rest.now = rw same at c.plain_len.ensures.value in
    let taken : c.split_at.result.0.now ≡ take c.plain_len.result c.args.rest.now = search rules in
    moves_plain [] c.split_at.result.0.now c.args.rest.now c.split_at.result.1.now c.plain_len.result c.utf8.rest run taken c.split_at.ensures.back
