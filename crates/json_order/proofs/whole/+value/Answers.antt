use Rattle.std.specs.Prelude.{IfSome, encode_utf8}
use Rattle.std.specs.Str.Iter.{chars_rest}
use Rattle.std.proofs.Common.{◌≡◌, ◌+◌, [], ◌∷◌, ◌++◌, map, refl, sym, ap, ◌∙◌, subst, arith}
use Rattle.std.proofs.lemmas.List.{map_push}
use Rattle.json_order.specs.Lent.{text_bytes, lent_json}
use Rattle.json_order.specs.private.Machine.{state, at_first_item, at_first_key, behind}
use Rattle.json_order.specs.private.Places.{entries_of_tree}
use Rattle.json_order.specs.private.Whole.{Crosses, ReadsValue, ReadsKey, before_item, before_key}
use Rattle.json_order.specs.declared.word.Word.TheVariants.{Null, True, False}
use Rattle.json_order.proofs.Crossings.{reads_spaced, list_begun, list_empty, list_more, list_whole, item_shorter, object_begun, object_empty, object_more, object_pushed, object_whole, member_shorter, list_read, object_read, text_read, word_value, first_char, if_read, if_some}
use Rattle.json_order.proofs.whole.+value.Goals as goal
use Rattle.json_order.proofs.whole.+value.Goals.{nested-then-c-eq91+in_ok-read, nested-else-c-eq91+in_ok-read-2}

-- LISTS

pub list-returns-in-Some-clause-ok : goal.list-returns-in-Some-clause-ok
list-returns-in-Some-clause-ok t c =
    subst (λ v. Crosses (c.args.depth + 1) (state at_first_item) (state (behind v)) c.args.rest.now c.in-Some.after.now) (sym c.empty_list.ensures)
    (list_empty c.args.depth c.args.rest.now c.behind_space-left.result.now c.in-Some.after.now c.behind_space-left.ensures c.in-Some.ensures)

pub list-items-init : goal.list-items-init
list-items-init t c = (
  c.behind_space-left.utf8,
  subst (λ xs. Crosses (c.args.depth + 1) (state at_first_item) (before_item (map lent_json xs)) c.args.rest.now c.behind_space-left.result.now) (sym c.new-items.ensures.items)
      (list_begun c.args.depth c.args.rest.now c.behind_space-left.result.now c.behind_space-left.ensures),
)

pub list-returns-in-Some-behind_char-clause-ok : goal.list-returns-in-Some-behind_char-clause-ok
list-returns-in-Some-behind_char-clause-ok t c =
    let v = lent_json c.in-Some-2.item in
    let vs = map lent_json c.items.items.items in
    let read : ReadsValue c.args.depth v c.items.left.now c.in-Some-2.behind.now = rw c.in-Some-2.is at c.in_ok-item.ensures.ok in
    let spaced = reads_spaced c.args.depth v c.items.left.now c.in-Some-2.behind.now c.behind_space-end.result.now read c.behind_space-end.ensures in
    subst (λ v. Crosses (c.args.depth + 1) (state at_first_item) (state (behind v)) c.args.rest.now c.in-Some-behind_char.after.now) (sym c.in_ok-whole_list.ensures.ok)
    (list_whole c.args.depth vs v c.args.rest.now c.items.left.now c.behind_space-end.result.now c.in-Some-behind_char.after.now c.items.invariant.1 spaced c.in-Some-behind_char.ensures)

pub list-items-preserved : goal.list-items-preserved
list-items-preserved t c =
    let v = lent_json c.in-Some-2.item in
    let xs = c.items.items.items in
    let read : ReadsValue c.args.depth v c.items.left.now c.in-Some-2.behind.now = rw c.in-Some-2.is at c.in_ok-item.ensures.ok in
    let spaced = reads_spaced c.args.depth v c.items.left.now c.in-Some-2.behind.now c.behind_space-end.result.now read c.behind_space-end.ensures in
    let same : map lent_json c.push.new.self.items ≡ map lent_json xs ++ v ∷ [] = ap (λ ys. map lent_json ys) c.in_ok-push.ensures.items ∙ map_push lent_json xs c.in-Some-2.item in (
      c.behind_space-left-in-items.utf8,
      subst (λ vs. Crosses (c.args.depth + 1) (state at_first_item) (before_item vs) c.args.rest.now c.behind_space-left-in-items.result.now) (sym same)
          (list_more c.args.depth (map lent_json xs) v c.args.rest.now c.items.left.now c.behind_space-end.result.now c.in-Some-behind_char-2.next.now c.behind_space-left-in-items.result.now c.items.invariant.1 spaced c.in-Some-behind_char-2.ensures c.behind_space-left-in-items.ensures),
    )

pub list-items-smaller : goal.list-items-smaller
list-items-smaller t c =
    let v = lent_json c.in-Some-2.item in
    let read : ReadsValue c.args.depth v c.items.left.now c.in-Some-2.behind.now = rw c.in-Some-2.is at c.in_ok-item.ensures.ok in
    let spaced = reads_spaced c.args.depth v c.items.left.now c.in-Some-2.behind.now c.behind_space-end.result.now read c.behind_space-end.ensures in
    item_shorter c.args.depth v c.items.left.now c.behind_space-end.result.now c.in-Some-behind_char-2.next.now c.behind_space-left-in-items.result.now spaced c.in-Some-behind_char-2.ensures c.behind_space-left-in-items.ensures

-- OBJECTS

pub object-returns-in-Some-clause-ok : goal.object-returns-in-Some-clause-ok
object-returns-in-Some-clause-ok t c =
    subst (λ v. Crosses (c.args.depth + 1) (state at_first_key) (state (behind v)) c.args.rest.now c.in-Some.after.now) (sym c.empty_object.ensures)
    (object_empty c.args.depth c.args.rest.now c.behind_space-left.result.now c.in-Some.after.now c.behind_space-left.ensures c.in-Some.ensures)

pub object-members-init : goal.object-members-init
object-members-init t c = (
  c.behind_space-left.utf8,
  subst (λ xs. Crosses (c.args.depth + 1) (state at_first_key) (before_key (entries_of_tree xs)) c.args.rest.now c.behind_space-left.result.now) (sym c.new-members.ensures)
      (object_begun c.args.depth c.args.rest.now c.behind_space-left.result.now c.behind_space-left.ensures),
)

pub object-returns-in-Some-behind_char-clause-ok : goal.object-returns-in-Some-behind_char-clause-ok
object-returns-in-Some-behind_char-clause-ok t c =
    let v = lent_json c.in-Some-3.item in
    let key = text_bytes c.in-Some-2.name.text in
    let ms = c.members.members.list.items in
    let named : ReadsKey (entries_of_tree ms) key c.members.left.now c.in-Some-2.begun.now = rw c.in-Some-2.is at c.in_ok-name.ensures.ok in
    let read : ReadsValue c.args.depth v c.in-Some-2.begun.now c.in-Some-3.behind.now = rw c.in-Some-3.is at c.in_ok-item.ensures.ok in
    let spaced = reads_spaced c.args.depth v c.in-Some-2.begun.now c.in-Some-3.behind.now c.behind_space-end.result.now read c.behind_space-end.ensures in
    let same = object_pushed _ ms (c.in-Some-2.name.text, c.in-Some-3.item) c.in_ok-whole_object.ensures.ok in
    subst (λ v. Crosses (c.args.depth + 1) (state at_first_key) (state (behind v)) c.args.rest.now c.in-Some-behind_char.after.now) (sym same)
    (object_whole c.args.depth (entries_of_tree ms) key v c.args.rest.now c.members.left.now c.in-Some-2.begun.now c.behind_space-end.result.now c.in-Some-behind_char.after.now c.members.invariant.1 named spaced c.in-Some-behind_char.ensures)

pub object-members-preserved : goal.object-members-preserved
object-members-preserved t c =
    let v = lent_json c.in-Some-3.item in
    let key = text_bytes c.in-Some-2.name.text in
    let ms = c.members.members.list.items in
    let named : ReadsKey (entries_of_tree ms) key c.members.left.now c.in-Some-2.begun.now = rw c.in-Some-2.is at c.in_ok-name.ensures.ok in
    let read : ReadsValue c.args.depth v c.in-Some-2.begun.now c.in-Some-3.behind.now = rw c.in-Some-3.is at c.in_ok-item.ensures.ok in
    let spaced = reads_spaced c.args.depth v c.in-Some-2.begun.now c.in-Some-3.behind.now c.behind_space-end.result.now read c.behind_space-end.ensures in
    let same : entries_of_tree c.push.new.self.list.items ≡ entries_of_tree ms ++ (key, v) ∷ [] = ap entries_of_tree c.in_ok-push.ensures.ok ∙ map_push (λ m. (text_bytes m.0, lent_json m.1)) ms (c.in-Some-2.name.text, c.in-Some-3.item) in (
      c.behind_space-left-in-members.utf8,
      subst (λ es. Crosses (c.args.depth + 1) (state at_first_key) (before_key es) c.args.rest.now c.behind_space-left-in-members.result.now) (sym same)
          (object_more c.args.depth (entries_of_tree ms) key v c.args.rest.now c.members.left.now c.in-Some-2.begun.now c.behind_space-end.result.now c.in-Some-behind_char-2.next.now c.behind_space-left-in-members.result.now c.members.invariant.1 named spaced c.in-Some-behind_char-2.ensures c.behind_space-left-in-members.ensures),
    )

pub object-members-smaller : goal.object-members-smaller
object-members-smaller t c =
    let v = lent_json c.in-Some-3.item in
    let key = text_bytes c.in-Some-2.name.text in
    let ms = c.members.members.list.items in
    let named : ReadsKey (entries_of_tree ms) key c.members.left.now c.in-Some-2.begun.now = rw c.in-Some-2.is at c.in_ok-name.ensures.ok in
    let read : ReadsValue c.args.depth v c.in-Some-2.begun.now c.in-Some-3.behind.now = rw c.in-Some-3.is at c.in_ok-item.ensures.ok in
    let spaced = reads_spaced c.args.depth v c.in-Some-2.begun.now c.in-Some-3.behind.now c.behind_space-end.result.now read c.behind_space-end.ensures in
    member_shorter c.args.depth (entries_of_tree ms) key v c.members.left.now c.in-Some-2.begun.now c.behind_space-end.result.now c.in-Some-behind_char-2.next.now c.behind_space-left-in-members.result.now named spaced c.in-Some-behind_char-2.ensures c.behind_space-left-in-members.ensures

-- VALUES

pub nested-returns-in-Some-clause-ok : goal.nested-returns-in-Some-clause-ok
nested-returns-in-Some-clause-ok t c =
    let v = lent_json c.in-Some.tree in
    let rest = c.args.rest.now in
    let after = c.in-Some.after.now in
    elim c.if-c-eq91.branch [
      | nested-then-c-eq91+in_ok-read w ↦
          let is : c.args.c ≡ 91 = w.if-c-eq91.true in
          let read = subst (λ o. IfSome o (λ t. Crosses (c.args.depth + 1) (state at_first_item) (state (behind (lent_json t.0))) rest t.1.now)) (sym w.read-is ∙ c.in-Some.is) w.in_ok-read.ensures.ok in
          list_read c.args.depth (c.args.depth + 1) v (encode_utf8 c.args.c ++ rest) rest after refl (ap (λ x. encode_utf8 x ++ rest) is) read
      | nested-else-c-eq91+in_ok-read-2 w ↦
          let read = subst (λ o. IfSome o (λ t. Crosses (c.args.depth + 1) (state at_first_key) (state (behind (lent_json t.0))) rest t.1.now)) (sym w.read-is ∙ c.in-Some.is) w.in_ok-read-2.ensures.ok in
          let is : c.args.c ≡ 123 = omega (arith, c.requires, w.if-c-eq91.false) in
          object_read c.args.depth (c.args.depth + 1) v (encode_utf8 c.args.c ++ rest) rest after refl (ap (λ x. encode_utf8 x ++ rest) is) read
    ]

pub value-returns-in-34-clause-ok : goal.value-returns-in-34-clause-ok
value-returns-in-34-clause-ok t c =
    let next = first_char c.args.rest.now (chars_rest c.chars-chars.result) (chars_rest c.next.new.self) c.as_str-after.result.now c.in-Some.c 34 c.chars-chars.ensures.rest c.in-Some.ensures.steps.0 c.in-34.is c.as_str-after.ensures in
    if_read c.text.result _ _ (λ r k. text_read c.args.depth (lent_json r.0) k.0 c.args.rest.now c.as_str-after.result.now r.1.now k.1 next k.2) c.text.ensures.ok

pub value-returns-in-n-clause-ok : goal.value-returns-in-n-clause-ok
value-returns-in-n-clause-ok t c =
    let next = first_char c.args.rest.now (chars_rest c.chars-chars.result) (chars_rest c.next.new.self) c.as_str-after.result.now c.in-Some.c 110 c.chars-chars.ensures.rest c.in-Some.ensures.steps.0 c.in-n.is c.as_str-after.ensures in
    if_some c.word.result _ _ (λ r k. word_value c.args.depth Null 110 (lent_json r.0) c.args.rest.now c.as_str-after.result.now r.1.now (λ fs. refl) k.0 next k.1) c.word.ensures

pub value-returns-in-t-clause-ok : goal.value-returns-in-t-clause-ok
value-returns-in-t-clause-ok t c =
    let next = first_char c.args.rest.now (chars_rest c.chars-chars.result) (chars_rest c.next.new.self) c.as_str-after.result.now c.in-Some.c 116 c.chars-chars.ensures.rest c.in-Some.ensures.steps.0 c.in-t.is c.as_str-after.ensures in
    if_some c.word-in-t.result _ _ (λ r k. word_value c.args.depth True 116 (lent_json r.0) c.args.rest.now c.as_str-after.result.now r.1.now (λ fs. refl) k.0 next k.1) c.word-in-t.ensures

pub value-returns-in-f-clause-ok : goal.value-returns-in-f-clause-ok
value-returns-in-f-clause-ok t c =
    let next = first_char c.args.rest.now (chars_rest c.chars-chars.result) (chars_rest c.next.new.self) c.as_str-after.result.now c.in-Some.c 102 c.chars-chars.ensures.rest c.in-Some.ensures.steps.0 c.in-f.is c.as_str-after.ensures in
    if_some c.word-in-f.result _ _ (λ r k. word_value c.args.depth False 102 (lent_json r.0) c.args.rest.now c.as_str-after.result.now r.1.now (λ fs. refl) k.0 next k.1) c.word-in-f.ensures
