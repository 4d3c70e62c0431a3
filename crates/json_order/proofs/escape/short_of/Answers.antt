use Rattle.std.specs.Prelude.{encode_utf8}
use Rattle.std.proofs.Common.{◌≡◌, ◌++◌, ◌∷◌, [], Some, rules, sym, ap, ◌∙◌}
use Rattle.json_order.specs.Grammar.{short_escape}
use Rattle.json_order.proofs.Escapes.{short_is}
use Rattle.json_order.proofs.escape.short_of.Goals as goal

pub returns : goal.returns
returns c =
    let h = c.in_ok-strip_prefix.ensures.cases in
    let letter = c.in_ok-letter.letter in
    let tail = c.in_ok-strip_prefix.field-0.now in
    let spelt : short_escape letter ≡ Some c.in_ok-c.c = search rules in
    let slash : c.args.rest.now ≡ 92 ∷ tail = h.1.1 ∙ ap (λ x. (92 ∷ []) ++ x) (sym h.2) in
    let next : tail ≡ encode_utf8 letter ++ c.as_str.result.now = sym c.chars-chars.ensures.rest ∙ c.in_ok-letter.ensures.steps.0 ∙ ap (λ x. encode_utf8 letter ++ x) (sym c.as_str.ensures) in
    short_is letter c.in_ok-c.c c.args.rest.now tail c.as_str.result.now spelt slash next
