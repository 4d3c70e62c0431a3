use Rattle.std.specs.List.{All}
use Rattle.std.specs.BTreeSet.{contains_text}
use Rattle.std.proofs.Common.{◌≡◌, ◌≤◌, Some, length, sym, ap, ◌∙◌, subst}
use Rattle.json_order.specs.private.Entries.{keys_of}
use Rattle.json_order.specs.private.Marks.{mark_of}
use Rattle.json_order.specs.private.KeySets.{window, finds, or_beside}
use Rattle.json_order.proofs.KeySets.{window_numbers, told}
use Rattle.json_order.proofs.key_set.KeySet.has.Goals as goal

pub found_in-requires : goal.found_in-requires
found_in-requires c =
    let slots = c.args.self.now.slots.items in
    let ms = c.args.members.now in
    let same : c.window.result.now ≡ window c.args.mark slots = c.window.ensures ∙ ap (window c.args.mark) c.deref.ensures.value in
    subst (λ w. All (λ s. s.number ≤ length ms) w) (sym same) (window_numbers slots c.args.self.now.others ms c.args.mark c.requires.keys)

pub returns-in-Some : goal.returns-in-Some
returns-in-Some c =
    let slots = c.args.self.now.slots.items in
    let ks = keys_of c.args.members.now in
    let key = c.args.key.now in
    let same : c.window.result.now ≡ window c.args.mark slots = c.window.ensures ∙ ap (window c.args.mark) c.deref.ensures.value in
    let found : Some c.in-Some.found ≡ finds (window (mark_of key) slots) ks (mark_of key) key = c.in-Some.ensures ∙ ap (λ w. finds w ks c.args.mark key) same ∙ ap (λ m. finds (window m slots) ks m key) c.requires.mark in
    ap (λ o. or_beside o (contains_text c.args.self.now.others key)) found ∙ told slots c.args.self.now.others ks c.requires.keys key
