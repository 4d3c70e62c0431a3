use Rattle.std.specs.Str.{bytes_eq}
use Rattle.std.proofs.Common.{◌≡◌, ◌<◌, ◌-◌, ◌&&◌, length, rules, sym, ap, ◌∙◌, arith}
use Rattle.std.proofs.lemmas.Bool.{eq-eqb}
use Rattle.json_order.specs.Lent.{text_bytes}
use Rattle.json_order.specs.private.Entries.{keys_of}
use Rattle.json_order.specs.private.KeySets.{is_key_named}
use Rattle.json_order.proofs.KeySets.{named_at}
use Rattle.json_order.proofs.key_set.is_at.Goals as goal

pub returns : goal.returns
returns c =
    let ms = c.args.members.now in
    let i = c.args.slot.number - 1 in
    let inside : i < length ms = omega (arith, c.requires.some, c.requires.within) in
    let same : c.are_same.result ≡ bytes_eq (text_bytes c.index-members-slot.result.0) c.args.key.now = search rules in
    same
    ∙ sym (named_at ms i c.index-members-slot.result c.args.key.now inside c.index-members-slot.is)
    ∙ ap (λ b. b && is_key_named (keys_of ms) i c.args.key.now) (sym (eq-eqb c.args.slot.mark c.args.mark c.if-slot-mark.false))
