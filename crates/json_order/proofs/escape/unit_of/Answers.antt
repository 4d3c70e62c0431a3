use Rattle.std.specs.Str.{IsUtf8}
use Rattle.std.proofs.Common.{drop, subst}
use Rattle.json_order.specs.Grammar.{IsHex}
use Rattle.json_order.proofs.Escapes.{hex_cut}
use Rattle.json_order.proofs.escape.unit_of.Goals as goal

pub split_at-requires : goal.split_at-requires
split_at-requires c =
    let text = c.in_ok-digits.digits.now in
    let utf8 : IsUtf8 text = subst IsUtf8 c.as_bytes.ensures.value c.as_bytes.ensures.utf8 in
    let hex : IsHex 4 0 c.in_ok-unit.unit text (drop 4 text) = subst (λ x. IsHex 4 0 c.in_ok-unit.unit x (drop 4 x)) c.as_bytes.ensures.value c.in_ok-unit.ensures.digits in
    hex_cut c.in_ok-unit.unit text (drop 4 text) utf8 hex
