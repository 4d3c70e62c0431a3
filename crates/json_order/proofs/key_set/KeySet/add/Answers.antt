use Rattle.std.specs.BTreeSet.{contains_text}
use Rattle.std.specs.Str.{bytes_eq}
use Rattle.std.proofs.Common.{◌≡◌, ◌+◌, ◌≤◌, true, cond, length, take, drop, string_bytes, rules, sym, ap, ◌∙◌, arith}
use Rattle.std.proofs.lemmas.Map.Text.{btree_set_updates_text}
use Rattle.json_order.specs.private.Entries.{keys_of}
use Rattle.json_order.specs.private.KeySets.{start_of, window, slots_taken}
use Rattle.json_order.proofs.KeySets.{added, added_beside, keys_length}
use Rattle.json_order.proofs.key_set.KeySet.add.Goals as goal

pub returns-then-used-lt-WIDTH-clause-ok : goal.returns-then-used-lt-WIDTH-clause-ok
returns-then-used-lt-WIDTH-clause-ok c =
    let slots = c.args.self.now.slots.items in
    let ms = c.args.members.now in
    let n = c.start_of-start.result in
    let count : c.len.result ≡ length slots = search rules in
    let start : n ≡ start_of (length slots) c.args.mark = c.start_of-start.ensures.start ∙ ap (λ x. start_of x c.args.mark) count in
    let used : c.taken-used.result ≡ slots_taken (take 8 (drop n slots)) = c.taken-used.ensures ∙ ap slots_taken (c.window.ensures ∙ ap (window c.args.mark) c.deref.ensures.value) ∙ ap (λ x. slots_taken (take 8 (drop x slots))) (sym start) in
    let wide : n + 8 ≤ length slots = omega (arith, c.start_of-start.ensures.within) in
    let next : c.in-Ok.number ≡ length ms + 1 = search rules in
    let number : c.in-Ok.number ≡ length (keys_of ms) + 1 = next ∙ ap (λ x. x + 1) (sym (keys_length ms)) in
    added slots c.args.self.now.others (keys_of ms) c.args.key.now record { mark = c.args.mark; number = c.in-Ok.number } n c.taken-used.result c.requires.keys
    (start ∙ ap (start_of (length slots)) c.requires.mark) wide used c.if-used-lt-WIDTH.true c.requires.mark number

pub returns-clause-ok : goal.returns-clause-ok
returns-clause-ok c =
    let slots = c.args.self.now.slots.items in
    let n = c.start_of-start.result in
    let count : c.len.result ≡ length slots = search rules in
    let start : n ≡ start_of (length slots) c.args.mark = c.start_of-start.ensures.start ∙ ap (λ x. start_of x c.args.mark) count in
    let used : c.taken-used.result ≡ slots_taken (take 8 (drop n slots)) = c.taken-used.ensures ∙ ap slots_taken (c.window.ensures ∙ ap (window c.args.mark) c.deref.ensures.value) ∙ ap (λ x. slots_taken (take 8 (drop x slots))) (sym start) in
    let same : string_bytes c.in_ok-from_str.field-0 ≡ c.args.key.now = search rules in
    added_beside slots c.args.self.now.others c.insert.new.self (keys_of c.args.members.now) c.args.key.now n c.taken-used.result c.requires.keys
    (start ∙ ap (start_of (length slots)) c.requires.mark) used c.if-used-lt-WIDTH.false
    (λ key. btree_set_updates_text (string_bytes c.in_ok-from_str.field-0) c.args.self.now.others c.insert.new.self true c.in_ok-insert.ensures.updates key ∙ ap (λ x. cond (bytes_eq x key) true (contains_text c.args.self.now.others key)) same)
