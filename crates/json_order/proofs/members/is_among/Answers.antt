use Rattle.std.proofs.Common.{◌≡◌, ◌+◌, ◌∷◌, [], ◌++◌, rules, true, false, cond, take, drop, sym, ap, ◌∙◌, subst}
use Rattle.std.specs.Str.{bytes_eq}
use Rattle.std.proofs.lemmas.List.{take_more, take_all, take-append-drop}
use Rattle.json_order.specs.Lent.{text_bytes}
use Rattle.json_order.specs.Grammar.{has_key}
use Rattle.json_order.specs.private.Entries.{keys_of}
use Rattle.json_order.proofs.Keys.{has_push, has_front}
use Rattle.json_order.proofs.members.is_among.Goals as goal

pub returns-then-is_same : goal.returns-then-is_same
returns-then-is_same c =
    let i = c.loop-name.name-index in
    let more = take_more c.args.members.now i c.loop-name-item.result c.loop-name-test.true in
    let pushed = has_push (take i c.args.members.now) c.loop-name-item.result.0 c.loop-name-item.result.1 c.args.key.now in
    let same : bytes_eq (text_bytes c.loop-name-item.result.0) c.args.key.now ≡ true = search rules in
    let here : has_key (keys_of (take (i + 1) c.args.members.now)) c.args.key.now ≡ true =
    ap (λ x. has_key (keys_of x) c.args.key.now) (more ∙ ap (λ m. take i c.args.members.now ++ m ∷ []) (sym c.loop-name-item.is))
    ∙ pushed ∙ ap (λ b. cond b true (has_key (keys_of (take i c.args.members.now)) c.args.key.now)) same in
    sym (subst (λ x. has_key (keys_of x) c.args.key.now ≡ true) (take-append-drop (i + 1) c.args.members.now)
    (has_front (take (i + 1) c.args.members.now) (drop (i + 1) c.args.members.now) c.args.key.now here))

pub loop-name-preserved : goal.loop-name-preserved
loop-name-preserved c =
    let i = c.loop-name.name-index in
    let more = take_more c.args.members.now i c.loop-name-item.result c.loop-name-test.true in
    let pushed = has_push (take i c.args.members.now) c.loop-name-item.result.0 c.loop-name-item.result.1 c.args.key.now in
    let same : bytes_eq (text_bytes c.loop-name-item.result.0) c.args.key.now ≡ false = search rules in
    ap (λ x. has_key (keys_of x) c.args.key.now) (more ∙ ap (λ m. take i c.args.members.now ++ m ∷ []) (sym c.loop-name-item.is))
    ∙ pushed ∙ ap (λ b. cond b true (has_key (keys_of (take i c.args.members.now)) c.args.key.now)) same ∙ c.loop-name.invariant

pub returns : goal.returns
returns c = sym (sym (ap (λ x. has_key (keys_of x) c.args.key.now) (take_all c.loop-name.name-index c.args.members.now c.loop-name-test.false)) ∙ c.loop-name.invariant)
