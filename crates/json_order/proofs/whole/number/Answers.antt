use Rattle.std.proofs.Common.{◌≡◌, ◌≤◌, ◌+◌, ◌++◌, ◌∷◌, Some, length, take, sym, ap, ◌∙◌, subst, rules}
use Rattle.std.proofs.lemmas.Str.{encode_ascii}
use Rattle.json_order.specs.private.AtOnce.{parts_after}
use Rattle.json_order.specs.private.Whole.{ReadsNumber}
use Rattle.json_order.specs.declared.lent.LentText.TheVariants.{InPlace}
use Rattle.json_order.proofs.AtOnce.{number_cut}
use Rattle.json_order.proofs.Crossings.{number_read}
use Rattle.json_order.proofs.Trees.{number_seen}
use Rattle.json_order.proofs.whole.number.Goals as goal

pub split_at-requires : goal.split_at-requires
split_at-requires c =
    let begun = c.args.behind.now in
    let n = c.number_run-len.result.0 in
    let bytes : c.as_bytes.result.now ≡ begun = c.as_bytes.ensures.value in
    let here : c.args.rest.now ≡ c.args.c ∷ begun = c.requires ∙ ap (λ x. x ++ begun) (encode_ascii c.args.c c.in-Some.ensures.ascii) in
    number_cut c.args.c c.args.rest.now begun n c.in-Some.part c.number_run-len.result.1 c.utf8.rest c.in-Some.ensures.ascii here
    (subst (λ x. n ≤ length x) bytes c.number_run-len.ensures.within)
    (subst (λ x. parts_after c.in-Some.part (take n x) ≡ Some c.number_run-len.result.1) bytes c.number_run-len.ensures.read)

pub returns : goal.returns
returns c =
    let begun = c.args.behind.now in
    let n = c.number_run-len.result.0 in
    let text = c.split_at.result.0.now in
    let bytes : c.as_bytes.result.now ≡ begun = c.as_bytes.ensures.value in
    let here : c.args.rest.now ≡ c.args.c ∷ begun = c.requires ∙ ap (λ x. x ++ begun) (encode_ascii c.args.c c.in-Some.ensures.ascii) in
    let run = subst (λ x. parts_after c.in-Some.part (take n x) ≡ Some c.number_run-len.result.1) bytes c.number_run-len.ensures.read in
    let taken : text ≡ take (n + 1) c.args.rest.now = search rules in
    subst (λ v. ReadsNumber v c.args.rest.now c.split_at.result.1.now) (sym (number_seen (InPlace c.split_at.result.0)))
    (number_read c.args.c text c.args.rest.now begun c.split_at.result.1.now n c.in-Some.part c.number_run-len.result.1 c.in-Some.ensures.begins c.requires here run (sym c.is_done.ensures ∙ c.if-not-is_done.false) taken c.split_at.ensures.back)
