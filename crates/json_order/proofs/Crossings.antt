-- Values, keys, lists and objects that are read whole.
use Rattle.std.specs.Prelude.{◌==◌, nat_lt, if◌then◌else◌, encode_utf8, encode_utf8_all}
use Rattle.std.specs.Str.{IsUtf8}
use Rattle.std.specs.Char.{is_ascii_digit}
use Rattle.std.proofs.Common.{ℕ, ◌+◌, ◌<◌, ◌≤◌, ◌≡◌, true, false, List, [], ◌∷◌, ◌++◌, length, take, drop, refl, sym, ap, ◌∙◌, subst, arith, Option, Some, None, Result, Ok, Err, IfOk, IfSome, append-nil, append_assoc, length-append}
use Rattle.std.proofs.lemmas.Bool.Decides.{nat_tests}
use Rattle.std.proofs.lemmas.List.{map_push}
use Rattle.std.proofs.lemmas.Str.{encode_ascii, encodes-append}
use Rattle.json_order.specs.Json.{Json, string, array, object, no_items, no_members, number}
use Rattle.json_order.specs.Lent.{text_bytes, lent_json}
use Rattle.json_order.specs.Seen.{items_with, members_with}
use Rattle.json_order.specs.Grammar.{is_space, is_mark, AreSpaces, IsSpaced, has_key}
use Rattle.json_order.specs.Fault.{strict, Spells}
use Rattle.json_order.specs.private.Entries.{keys_of}
use Rattle.json_order.specs.private.AtOnce.{TakesTo, parts_after}
use Rattle.json_order.specs.private.Machine.{Entries, Place, at_value, at_first_item, behind, at_first_key, at_next_key, in_key, behind_key, in_string, in_number, in_word, Frame, in_list, in_object, State, state, goes, value_move, behind_move, move, under_rules, step, run, part_step, is_done, quote_step, ended_value}
use Rattle.json_order.specs.private.Places.{entries_of_tree, letters_from, value_of}
use Rattle.json_order.specs.private.Whole.{Crosses, IsBehindValue, ReadsValue, ReadsNumber, IsQuoted, ReadsWord, before_item, before_key, ReadsKey, IsWholeText}
use Rattle.json_order.specs.declared.fault.JsonKind.{JsonKind}
use Rattle.json_order.specs.declared.place.Escape.TheVariants.{Outside}
use Rattle.json_order.specs.declared.place.Part.{Part}
use Rattle.json_order.specs.declared.place.Part.TheVariants.{Minus, Zero, Whole, Dot, Fraction, Mark, Sign, Exponent}
use Rattle.json_order.specs.declared.word.Word.{Word}
use Rattle.json_order.specs.declared.lent.LentText.{LentText}
use Rattle.json_order.specs.declared.lent.LentTree.{LentTree}
use Rattle.json_order.proofs.AtOnce.{run_append, takes_number, front_more, back_more, word_run, word_ascii}
use Rattle.json_order.proofs.Bytes.{end_value}
use Rattle.json_order.proofs.Numbers.{is_eq}
use Rattle.json_order.proofs.Spaces.{split}
use Rattle.json_order.proofs.Trees.{key_follows}
use Rattle.json_order.proofs.Turns.{all_seen}

-- FROM STATE TO STATE

crosses_one : (d : ℕ) (s t : List Frame → State) (c : ℕ) (before after : List ℕ) → ((fs : List Frame) → length fs + d ≤ 16 → step strict (s fs) c ≡ Ok (t fs)) → before ≡ encode_utf8 c ++ after → Crosses d s t before after
crosses_one d s t c before after h next = (c ∷ [], next ∙ ap (λ x. x ++ after) (sym (append-nil (encode_utf8 c))), h)

crosses_more : (d : ℕ) (s t u : List Frame → State) (before mid after : List ℕ) → Crosses d s t before mid → Crosses d t u mid after → Crosses d s u before after
crosses_more d s t u before mid after p q = (
  p.0 ++ q.0,
  p.1 ∙ ap (λ x. encode_utf8_all p.0 ++ x) q.1 ∙ sym (append_assoc (encode_utf8_all p.0) (encode_utf8_all q.0) after) ∙ ap (λ x. x ++ after) (sym (encodes-append p.0 q.0)),
  λ fs l. run_append (Ok (s fs)) p.0 q.0 ∙ ap (λ o. run strict o q.0) (p.2 fs l) ∙ q.2 fs l,
)

crosses_takes : (d : ℕ) (p q : Place) (before after : List ℕ) → TakesTo p q before after → Crosses d (state p) (state q) before after
crosses_takes d p q before after t = (t.0, t.1, λ fs l. t.2 fs)

-- what may stand within sixteen others may stand within fewer
crosses_deeper : (d : ℕ) (s t : List Frame → State) (before after : List ℕ) → Crosses 0 s t before after → Crosses d s t before after
crosses_deeper d s t before after k = (k.0, k.1, λ fs l. k.2 fs (omega (arith, l)))

-- in one more list or object
crosses_under : (d : ℕ) (f : Frame) (s t : List Frame → State) (before after : List ℕ) → Crosses d s t before after → Crosses (d + 1) (λ fs. s (f ∷ fs)) (λ fs. t (f ∷ fs)) before after
crosses_under d f s t before after k = (k.0, k.1, λ fs l. k.2 (f ∷ fs) (omega (arith, l)))

crosses_to : (d : ℕ) (s t u : List Frame → State) (before after : List ℕ) → ((fs : List Frame) → t fs ≡ u fs) → Crosses d s t before after → Crosses d s u before after
crosses_to d s t u before after same k = (k.0, k.1, λ fs l. k.2 fs l ∙ ap (λ x. Ok x) (same fs))

crosses_shorter : (d : ℕ) (s t : List Frame → State) (before after : List ℕ) → Crosses d s t before after → length after ≤ length before
crosses_shorter d s t before after k = let e = ap length k.1 in let l = length-append (encode_utf8_all k.0) after in omega arith

-- WHITE SPACE

space_small : (c : ℕ) → is_space c ≡ true → c < 128
space_small c h = grind (arith, nat_tests)

spaces_ascii : (spaces : List ℕ) → AreSpaces spaces → encode_utf8_all spaces ≡ spaces
spaces_ascii [] h = refl
spaces_ascii (c ∷ cs) h = ap (λ x. x ++ encode_utf8_all cs) (encode_ascii c (space_small c h.0)) ∙ ap (λ x. c ∷ x) (spaces_ascii cs h.1)

are_more : (spaces : List ℕ) (c : ℕ) → AreSpaces spaces → is_space c ≡ true → AreSpaces (spaces ++ c ∷ [])
are_more [] c h e = (e, tt)
are_more (x ∷ xs) c h e = (h.0, are_more xs c h.1 e)

pub spaced_more : (rest mid after : List ℕ) (c : ℕ) → IsSpaced rest mid → is_space c ≡ true → mid ≡ encode_utf8 c ++ after → IsSpaced rest after
spaced_more rest mid after c w e next = (
  w.0 ++ c ∷ [],
  are_more w.0 c w.1 e,
  w.2 ∙ ap (λ x. w.0 ++ x) (next ∙ ap (λ x. x ++ after) (encode_ascii c (space_small c e))) ∙ sym (append_assoc w.0 (c ∷ []) after),
)

spaced_shorter : (before after : List ℕ) → IsSpaced before after → length after ≤ length before
spaced_shorter before after w = let e = ap length w.2 in let l = length-append w.0 after in omega arith

abbrev Stays : (List Frame → State) → Type 0
Stays s = (fs : List Frame) (c : ℕ) → is_space c ≡ true → step strict (s fs) c ≡ Ok (s fs)

stays : (s : List Frame → State) → Stays s → (spaces : List ℕ) → AreSpaces spaces → (fs : List Frame) → run strict (Ok (s fs)) spaces ≡ Ok (s fs)
stays s h [] all fs = refl
stays s h (c ∷ cs) all fs = ap (λ o. run strict o cs) (h fs c all.0) ∙ stays s h cs all.1 fs

crosses_spaces : (d : ℕ) (s : List Frame → State) → Stays s → (before after : List ℕ) → IsSpaced before after → Crosses d s s before after
crosses_spaces d s h before after w = (w.0, w.2 ∙ ap (λ x. x ++ after) (sym (spaces_ascii w.0 w.1)), λ fs l. stays s h w.0 w.1 fs)

-- BEHIND A VALUE

record Ends (c : ℕ) : Type 0 where
  pub digit : is_ascii_digit c ≡ false
  pub dot : (c == 46) ≡ false
  pub mark : is_mark c ≡ false

space_ends : (c : ℕ) → is_space c ≡ true → Ends c
space_ends c h = record { digit = grind (arith, nat_tests); dot = grind (arith, nat_tests); mark = grind (arith, nat_tests) }

done_ends : (p : Part) (c : ℕ) → is_done p ≡ true → Ends c → part_step p c ≡ None
done_ends Zero c h e = rw (e.dot, e.mark) refl
done_ends Whole c h e = rw (e.digit, e.dot, e.mark) refl
done_ends Fraction c h e = rw (e.digit, e.mark) refl
done_ends Exponent c h e = rw e.digit refl
done_ends Minus c h e = cc
done_ends Dot c h e = cc
done_ends Mark c h e = cc
done_ends Sign c h e = cc

behind_step : (p : Place) (v : Json) (fs : List Frame) (c : ℕ) → IsBehindValue p v → Ends c → move p fs c ≡ behind_move v fs c
behind_step (behind w) v fs c b e = ap (λ x. behind_move x fs c) b
behind_step (in_number text q) v fs c b e = rw (b.0, done_ends q c b.0 e) (ap (λ x. behind_move x fs c) b.1)
behind_step (in_word [] w) v fs c b e = ap (λ x. behind_move x fs c) b
behind_step at_value v fs c b e = absurd b
behind_step at_first_item v fs c b e = absurd b
behind_step at_first_key v fs c b e = absurd b
behind_step (at_next_key es) v fs c b e = absurd b
behind_step (in_key es text q) v fs c b e = absurd b
behind_step (behind_key es key) v fs c b e = absurd b
behind_step (in_string text q) v fs c b e = absurd b
behind_step (in_word (l ∷ ls) w) v fs c b e = absurd b

pub reads_spaced : (d : ℕ) (v : Json) (before mid after : List ℕ) → ReadsValue d v before mid → IsSpaced mid after → ReadsValue d v before after
reads_spaced d v before mid after r w = go w.0 w.1 w.2
  where
    go : (spaces : List ℕ) → AreSpaces spaces → mid ≡ spaces ++ after → ReadsValue d v before after
    go [] all e = subst (λ x. ReadsValue d v before x) e r
    go (c ∷ cs) all e =
        let first = crosses_one d (state r.0) (state (behind v)) c mid (cs ++ after) (λ fs l. ap (under_rules strict) (behind_step r.0 v fs c r.1 (space_ends c all.0)) ∙ rw all.0 refl) (e ∙ ap (λ x. x ++ (cs ++ after)) (sym (encode_ascii c (space_small c all.0)))) in
        let others = crosses_spaces d (state (behind v)) (λ fs c e. rw e refl) (cs ++ after) after (cs, all.1, refl) in
        (behind v, refl, crosses_more d (state at_value) (state r.0) (state (behind v)) before mid after r.2 (crosses_more d (state r.0) (state (behind v)) (state (behind v)) mid (cs ++ after) after first others))

-- LISTS

same_place : (s t : State) (r : Result State JsonKind) → r ≡ Ok s → r ≡ Ok t → s.place ≡ t.place
same_place s t r e f = let h : s ≡ t = cc in ap (λ x. x.place) h

run_err : (cs : List ℕ) (k : JsonKind) → run strict (Err k) cs ≡ Err k
run_err [] k = refl
run_err (c ∷ cs) k = run_err cs k

-- behind a `[` a first item is read as any other
first_item : (cs : List ℕ) (p : Place) (v : Json) (fs : List Frame) → IsBehindValue p v → run strict (Ok (state at_value (in_list [] ∷ fs))) cs ≡ Ok (state p (in_list [] ∷ fs)) → run strict (Ok (state at_first_item fs)) cs ≡ Ok (state p (in_list [] ∷ fs))
first_item [] p v fs b r = absurd (subst (λ q. IsBehindValue q v) (sym (same_place (state at_value (in_list [] ∷ fs)) (state p (in_list [] ∷ fs)) (Ok (state at_value (in_list [] ∷ fs))) refl r)) b)
first_item (c ∷ cs) p v fs b r =
    split (λ x. run strict (under_rules strict (if x then goes (state at_value (in_list [] ∷ fs)) else value_move (in_list [] ∷ fs) c)) cs ≡ Ok (state p (in_list [] ∷ fs)) → run strict (under_rules strict (if x then goes (state at_first_item fs) else if c == 93 then goes (state (behind (array no_items)) fs) else value_move (in_list [] ∷ fs) c)) cs ≡ Ok (state p (in_list [] ∷ fs))) (is_space c)
    (λ e r. first_item cs p v fs b r)
    (λ e r. split (λ x. run strict (under_rules strict (if x then goes (state (behind (array no_items)) fs) else value_move (in_list [] ∷ fs) c)) cs ≡ Ok (state p (in_list [] ∷ fs))) (c == 93) (λ g. absurd (refused (is_eq c 93 g) r)) (λ _. r)) r
  where
    refused : c ≡ 93 → run strict (under_rules strict (value_move (in_list [] ∷ fs) c)) cs ≡ Ok (state p (in_list [] ∷ fs)) → ⊥
    refused e r = let t = sym (run_err cs _) ∙ subst (λ x. run strict (under_rules strict (value_move (in_list [] ∷ fs) x)) cs ≡ Ok (state p (in_list [] ∷ fs))) e r in cc

abbrev ReadsItem : ℕ → Json → List Json → List ℕ → List ℕ → Type 0
ReadsItem d v vs before after = (p : Place) × IsBehindValue p v × Crosses (d + 1) (before_item vs) (λ fs. state p (in_list vs ∷ fs)) before after

item_read : (d : ℕ) (v : Json) (vs : List Json) (before after : List ℕ) → ReadsValue d v before after → ReadsItem d v vs before after
item_read d v [] before after r = (r.0, r.1, (r.2.0, r.2.1, λ fs l. first_item r.2.0 r.0 v fs r.1 (r.2.2 (in_list [] ∷ fs) (omega (arith, l)))))
item_read d v (w ∷ vs) before after r = (r.0, r.1, crosses_under d (in_list (w ∷ vs)) (state at_value) (state r.0) before after r.2)

more_items : (vs : List Json) (v : Json) (fs : List Frame) → state at_value (in_list (vs ++ v ∷ []) ∷ fs) ≡ before_item (vs ++ v ∷ []) fs
more_items [] v fs = refl
more_items (w ∷ vs) v fs = refl

pub list_begun : (d : ℕ) (rest left : List ℕ) → IsSpaced rest left → Crosses (d + 1) (state at_first_item) (before_item []) rest left
list_begun d rest left w = crosses_spaces (d + 1) (state at_first_item) (λ fs c e. rw e refl) rest left w

pub list_empty : (d : ℕ) (rest left after : List ℕ) → IsSpaced rest left → left ≡ encode_utf8 93 ++ after → Crosses (d + 1) (state at_first_item) (state (behind (array no_items))) rest after
list_empty d rest left after w e =
    crosses_more (d + 1) (state at_first_item) (state at_first_item) (state (behind (array no_items))) rest left after (list_begun d rest left w)
    (crosses_one (d + 1) (state at_first_item) (state (behind (array no_items))) 93 left after (λ fs l. refl) e)

-- an item more and a comma
pub list_more : (d : ℕ) (vs : List Json) (v : Json) (rest left mid next after : List ℕ) → Crosses (d + 1) (state at_first_item) (before_item vs) rest left → ReadsValue d v left mid → mid ≡ encode_utf8 44 ++ next → IsSpaced next after → Crosses (d + 1) (state at_first_item) (before_item (vs ++ v ∷ [])) rest after
list_more d vs v rest left mid next after k r e w =
    let i = item_read d v vs left mid r in
    let inside = λ (fs : List Frame). state at_value (in_list (vs ++ v ∷ []) ∷ fs) in
    let comma = crosses_one (d + 1) (λ fs. state i.0 (in_list vs ∷ fs)) inside 44 mid next (λ fs l. ap (under_rules strict) (behind_step i.0 v (in_list vs ∷ fs) 44 i.1 (record { digit = refl; dot = refl; mark = refl }))) e in
    let spaces = crosses_spaces (d + 1) inside (λ fs c e. rw e refl) next after w in
    crosses_to (d + 1) (state at_first_item) inside (before_item (vs ++ v ∷ [])) rest after (more_items vs v)
    (crosses_more (d + 1) (state at_first_item) (before_item vs) inside rest left after k
    (crosses_more (d + 1) (before_item vs) (λ fs. state i.0 (in_list vs ∷ fs)) inside left mid after i.2
    (crosses_more (d + 1) (λ fs. state i.0 (in_list vs ∷ fs)) inside inside mid next after comma spaces)))

-- the last item and the bracket
pub list_whole : (d : ℕ) (vs : List Json) (v : Json) (rest left mid after : List ℕ) → Crosses (d + 1) (state at_first_item) (before_item vs) rest left → ReadsValue d v left mid → mid ≡ encode_utf8 93 ++ after → Crosses (d + 1) (state at_first_item) (state (behind (array (items_with (vs ++ v ∷ []) no_items)))) rest after
list_whole d vs v rest left mid after k r e =
    let i = item_read d v vs left mid r in
    let done = behind (array (items_with (vs ++ v ∷ []) no_items)) in
    let bracket = crosses_one (d + 1) (λ fs. state i.0 (in_list vs ∷ fs)) (state done) 93 mid after (λ fs l. ap (under_rules strict) (behind_step i.0 v (in_list vs ∷ fs) 93 i.1 (record { digit = refl; dot = refl; mark = refl }))) e in
    crosses_more (d + 1) (state at_first_item) (before_item vs) (state done) rest left after k
    (crosses_more (d + 1) (before_item vs) (λ fs. state i.0 (in_list vs ∷ fs)) (state done) left mid after i.2 bracket)

one_shorter : (c : ℕ) (before after : List ℕ) → c < 128 → before ≡ encode_utf8 c ++ after → length after < length before
one_shorter c before after h e = let f = ap length (e ∙ ap (λ x. x ++ after) (encode_ascii c h)) in omega arith

pub item_shorter : (d : ℕ) (v : Json) (left mid next after : List ℕ) → ReadsValue d v left mid → mid ≡ encode_utf8 44 ++ next → IsSpaced next after → length after < length left
item_shorter d v left mid next after r e w =
    let a = crosses_shorter d (state at_value) (state r.0) left mid r.2 in
    let b = one_shorter 44 mid next (omega arith) e in
    let c = spaced_shorter next after w in omega (arith, a, b, c)

-- OBJECTS

quote_begins : (es : Entries) (fs : List Frame) → step strict (before_key es fs) 34 ≡ Ok (state (in_key es [] Outside) fs)
quote_begins [] fs = refl
quote_begins (e ∷ es) fs = refl

pub key_read : (ms : List (LentText × LentTree)) (text : List ℕ) (rest begun mid colon next after : List ℕ) →
    rest ≡ encode_utf8 34 ++ begun → IsQuoted text begun mid → IsSpaced mid colon → colon ≡ encode_utf8 58 ++ next → has_key (keys_of ms) text ≡ false → IsSpaced next after → ReadsKey (entries_of_tree ms) text rest after
key_read ms text rest begun mid colon next after e q w f fresh z =
    let es = entries_of_tree ms in
    let named = λ (fs : List Frame). state at_value (in_object es text ∷ fs) in
    let a = crosses_one 0 (before_key es) (state (in_key es [] Outside)) 34 rest begun (λ fs l. quote_begins es fs) e in
    let b = crosses_takes 0 (in_key es [] Outside) (in_key es text Outside) begun q.0 (q.1.1 es) in
    let c = crosses_one 0 (state (in_key es text Outside)) (state (behind_key es text)) 34 q.0 mid (λ fs l. key_follows ms fs (quote_step text Outside 34) text refl fresh) q.2 in
    let s = crosses_spaces 0 (state (behind_key es text)) (λ fs c e. rw e refl) mid colon w in
    let g = crosses_one 0 (state (behind_key es text)) named 58 colon next (λ fs l. refl) f in
    let t = crosses_spaces 0 named (λ fs c e. rw e refl) next after z in
    crosses_more 0 (before_key es) (state (in_key es [] Outside)) named rest begun after a
    (crosses_more 0 (state (in_key es [] Outside)) (state (in_key es text Outside)) named begun q.0 after b
    (crosses_more 0 (state (in_key es text Outside)) (state (behind_key es text)) named q.0 mid after c
    (crosses_more 0 (state (behind_key es text)) (state (behind_key es text)) named mid colon after s
    (crosses_more 0 (state (behind_key es text)) named named colon next after g t))))

abbrev ReadsMember : ℕ → Json → Entries → List ℕ → List ℕ → List ℕ → Type 0
ReadsMember d v es key before after = (p : Place) × IsBehindValue p v × Crosses (d + 1) (before_key es) (λ fs. state p (in_object es key ∷ fs)) before after

member_read : (d : ℕ) (v : Json) (es : Entries) (key : List ℕ) (before mid after : List ℕ) → ReadsKey es key before mid → ReadsValue d v mid after → ReadsMember d v es key before after
member_read d v es key before mid after k r = (
  r.0,
  r.1,
  crosses_more (d + 1) (before_key es) (λ fs. state at_value (in_object es key ∷ fs)) (λ fs. state r.0 (in_object es key ∷ fs)) before mid after
      (crosses_deeper (d + 1) (before_key es) (λ fs. state at_value (in_object es key ∷ fs)) before mid k)
      (crosses_under d (in_object es key) (state at_value) (state r.0) mid after r.2),
)

more_members : (es : Entries) (e : List ℕ × Json) (fs : List Frame) → state (at_next_key (es ++ e ∷ [])) fs ≡ before_key (es ++ e ∷ []) fs
more_members [] e fs = refl
more_members (x ∷ es) e fs = refl

pub object_begun : (d : ℕ) (rest left : List ℕ) → IsSpaced rest left → Crosses (d + 1) (state at_first_key) (before_key []) rest left
object_begun d rest left w = crosses_spaces (d + 1) (state at_first_key) (λ fs c e. rw e refl) rest left w

pub object_empty : (d : ℕ) (rest left after : List ℕ) → IsSpaced rest left → left ≡ encode_utf8 125 ++ after → Crosses (d + 1) (state at_first_key) (state (behind (object no_members))) rest after
object_empty d rest left after w e =
    crosses_more (d + 1) (state at_first_key) (state at_first_key) (state (behind (object no_members))) rest left after (object_begun d rest left w)
    (crosses_one (d + 1) (state at_first_key) (state (behind (object no_members))) 125 left after (λ fs l. refl) e)

-- a member more and a comma
pub object_more : (d : ℕ) (es : Entries) (key : List ℕ) (v : Json) (rest left begun mid next after : List ℕ) → Crosses (d + 1) (state at_first_key) (before_key es) rest left → ReadsKey es key left begun → ReadsValue d v begun mid → mid ≡ encode_utf8 44 ++ next → IsSpaced next after → Crosses (d + 1) (state at_first_key) (before_key (es ++ (key, v) ∷ [])) rest after
object_more d es key v rest left begun mid next after k n r e w =
    let i = member_read d v es key left begun mid n r in
    let named = state (at_next_key (es ++ (key, v) ∷ [])) in
    let comma = crosses_one (d + 1) (λ fs. state i.0 (in_object es key ∷ fs)) named 44 mid next (λ fs l. ap (under_rules strict) (behind_step i.0 v (in_object es key ∷ fs) 44 i.1 (record { digit = refl; dot = refl; mark = refl }))) e in
    let spaces = crosses_spaces (d + 1) named (λ fs c e. rw e refl) next after w in
    crosses_to (d + 1) (state at_first_key) named (before_key (es ++ (key, v) ∷ [])) rest after (more_members es (key, v))
    (crosses_more (d + 1) (state at_first_key) (before_key es) named rest left after k
    (crosses_more (d + 1) (before_key es) (λ fs. state i.0 (in_object es key ∷ fs)) named left mid after i.2
    (crosses_more (d + 1) (λ fs. state i.0 (in_object es key ∷ fs)) named named mid next after comma spaces)))

-- the last member and the brace
-- an object of some members and a last one, by what it has of keys and values
pub object_pushed : (v : Json) (ms : List (LentText × LentTree)) (m : LentText × LentTree) → v ≡ object (members_with (entries_of_tree (ms ++ m ∷ [])) no_members) → v ≡ object (members_with (entries_of_tree ms ++ (text_bytes m.0, lent_json m.1) ∷ []) no_members)
object_pushed v ms m h = h ∙ ap (λ es. object (members_with es no_members)) (map_push (λ m. (text_bytes m.0, lent_json m.1)) ms m)

pub object_whole : (d : ℕ) (es : Entries) (key : List ℕ) (v : Json) (rest left begun mid after : List ℕ) → Crosses (d + 1) (state at_first_key) (before_key es) rest left → ReadsKey es key left begun → ReadsValue d v begun mid → mid ≡ encode_utf8 125 ++ after → Crosses (d + 1) (state at_first_key) (state (behind (object (members_with (es ++ (key, v) ∷ []) no_members)))) rest after
object_whole d es key v rest left begun mid after k n r e =
    let i = member_read d v es key left begun mid n r in
    let done = behind (object (members_with (es ++ (key, v) ∷ []) no_members)) in
    let brace = crosses_one (d + 1) (λ fs. state i.0 (in_object es key ∷ fs)) (state done) 125 mid after (λ fs l. ap (under_rules strict) (behind_step i.0 v (in_object es key ∷ fs) 125 i.1 (record { digit = refl; dot = refl; mark = refl }))) e in
    crosses_more (d + 1) (state at_first_key) (before_key es) (state done) rest left after k
    (crosses_more (d + 1) (before_key es) (λ fs. state i.0 (in_object es key ∷ fs)) (state done) left mid after i.2 brace)

pub member_shorter : (d : ℕ) (es : Entries) (key : List ℕ) (v : Json) (left begun mid next after : List ℕ) → ReadsKey es key left begun → ReadsValue d v begun mid → mid ≡ encode_utf8 44 ++ next → IsSpaced next after → length after < length left
member_shorter d es key v left begun mid next after n r e w =
    let a = crosses_shorter 0 (before_key es) (λ fs. state at_value (in_object es key ∷ fs)) left begun n in
    let b = item_shorter d v begun mid next after r e w in omega (arith, a, b)

-- VALUES

pub first_char : (rest chars new after : List ℕ) (c k : ℕ) → chars ≡ rest → chars ≡ encode_utf8 c ++ new → c ≡ k → after ≡ new → rest ≡ encode_utf8 k ++ after
first_char rest chars new after c k e f g h = sym e ∙ f ∙ ap (λ x. encode_utf8 x ++ new) g ∙ ap (λ x. encode_utf8 k ++ x) (sym h)

shallow : (n d : ℕ) → n + d ≤ 16 → 0 < d → nat_lt n 16 ≡ true
shallow n d h g = grind (arith, nat_tests)

pub list_read : (inner d : ℕ) (v : Json) (rest begun after : List ℕ) → inner + 1 ≡ d → rest ≡ encode_utf8 91 ++ begun → Crosses (inner + 1) (state at_first_item) (state (behind v)) begun after → ReadsValue d v rest after
list_read inner d v rest begun after e next k = (
  behind v,
  refl,
  crosses_more d (state at_value) (state at_first_item) (state (behind v)) rest begun after
      (crosses_one d (state at_value) (state at_first_item) 91 rest begun (λ fs l. rw (shallow (length fs) d l (omega (arith, e))) refl) next)
      (subst (λ x. Crosses x (state at_first_item) (state (behind v)) begun after) e k),
)

pub object_read : (inner d : ℕ) (v : Json) (rest begun after : List ℕ) → inner + 1 ≡ d → rest ≡ encode_utf8 123 ++ begun → Crosses (inner + 1) (state at_first_key) (state (behind v)) begun after → ReadsValue d v rest after
object_read inner d v rest begun after e next k = (
  behind v,
  refl,
  crosses_more d (state at_value) (state at_first_key) (state (behind v)) rest begun after
      (crosses_one d (state at_value) (state at_first_key) 123 rest begun (λ fs l. rw (shallow (length fs) d l (omega (arith, e))) refl) next)
      (subst (λ x. Crosses x (state at_first_key) (state (behind v)) begun after) e k),
)

pub text_read : (d : ℕ) (v : Json) (bytes rest begun after : List ℕ) → v ≡ string bytes → rest ≡ encode_utf8 34 ++ begun → IsQuoted bytes begun after → ReadsValue d v rest after
text_read d v bytes rest begun after same e q = (
  behind (string bytes),
  sym same,
  crosses_more d (state at_value) (state (in_string [] Outside)) (state (behind (string bytes))) rest begun after
      (crosses_one d (state at_value) (state (in_string [] Outside)) 34 rest begun (λ fs l. refl) e)
      (crosses_more d (state (in_string [] Outside)) (state (in_string bytes Outside)) (state (behind (string bytes))) begun q.0 after
      (crosses_takes d (in_string [] Outside) (in_string bytes Outside) begun q.0 q.1.0)
      (crosses_one d (state (in_string bytes Outside)) (state (behind (string bytes))) 34 q.0 after (λ fs l. refl) q.2)),
)

pub word_read : (w : Word) (tail rest after : List ℕ) → tail ≡ letters_from w 1 → rest ≡ tail ++ after → ReadsWord w rest after
word_read w tail rest after e next = (letters_from w 1, next ∙ ap (λ x. x ++ after) (e ∙ sym (word_ascii w)), λ fs l. word_run (letters_from w 1) (value_of w) fs)

pub word_value : (d : ℕ) (w : Word) (c : ℕ) (v : Json) (rest begun after : List ℕ) → ((fs : List Frame) → step strict (state at_value fs) c ≡ Ok (state (in_word (letters_from w 1) (value_of w)) fs)) → v ≡ value_of w → rest ≡ encode_utf8 c ++ begun → ReadsWord w begun after → ReadsValue d v rest after
word_value d w c v rest begun after first same e k = (
  in_word [] (value_of w),
  sym same,
  crosses_more d (state at_value) (state (in_word (letters_from w 1) (value_of w))) (state (in_word [] (value_of w))) rest begun after
      (crosses_one d (state at_value) (state (in_word (letters_from w 1) (value_of w))) c rest begun (λ fs l. first fs) e)
      (crosses_deeper d (state (in_word (letters_from w 1) (value_of w))) (state (in_word [] (value_of w))) begun after k),
)

pub number_read : (c : ℕ) (text rest begun after : List ℕ) (n : ℕ) (p q : Part) → ((fs : List Frame) → step strict (state at_value fs) c ≡ Ok (state (in_number (c ∷ []) p) fs)) → rest ≡ encode_utf8 c ++ begun → rest ≡ c ∷ begun → parts_after p (take n begun) ≡ Some q → is_done q ≡ true → text ≡ take (n + 1) rest → after ≡ drop (n + 1) rest → ReadsNumber (number text) rest after
number_read c text rest begun after n p q first e here run done same left = (
  in_number text q,
  (done, refl),
  crosses_more 0 (state at_value) (state (in_number (c ∷ []) p)) (state (in_number text q)) rest begun after
      (crosses_one 0 (state at_value) (state (in_number (c ∷ []) p)) c rest begun (λ fs l. first fs) e)
      (crosses_takes 0 (in_number (c ∷ []) p) (in_number text q) begun after (takes_number (c ∷ []) text begun after n p q run (same ∙ ap (λ x. take (n + 1) x) here ∙ front_more n c begun) (left ∙ ap (λ x. drop (n + 1) x) here ∙ back_more n c begun))),
)

-- THE WHOLE TEXT

nothing : (xs : List ℕ) → length xs ≡ 0 → xs ≡ []
nothing [] e = refl
nothing (x ∷ xs) e = absurd (omega arith)

pub text_whole : (text left mid after : List ℕ) (v : Json) → IsSpaced text left → ReadsValue 16 v left mid → IsSpaced mid after → length after ≡ 0 → IsWholeText text v
text_whole text left mid after v w r z e =
    let first = crosses_spaces 16 (state at_value) (λ fs c e. rw e refl) text left w in
    let read = reads_spaced 16 v left mid after r z in
    let whole = crosses_more 16 (state at_value) (state at_value) (state read.0) text left after first read.2 in
    (read.0, read.1, (whole.0, whole.1 ∙ ap (λ x. encode_utf8_all whole.0 ++ x) (nothing after e), whole.2 [] (omega arith)))

behind_ended : (p : Place) (v : Json) → IsBehindValue p v → ended_value p [] ≡ Some v
behind_ended (behind w) v b = ap (λ x. Some x) b
behind_ended (in_number text q) v b = rw b.0 (ap (λ x. Some x) b.1)
behind_ended (in_word [] w) v b = ap (λ x. Some x) b
behind_ended at_value v b = absurd b
behind_ended at_first_item v b = absurd b
behind_ended at_first_key v b = absurd b
behind_ended (at_next_key es) v b = absurd b
behind_ended (in_key es text q) v b = absurd b
behind_ended (behind_key es key) v b = absurd b
behind_ended (in_string text q) v b = absurd b
behind_ended (in_word (l ∷ ls) w) v b = absurd b

pub whole_value : (text : List ℕ) (v : Json) → IsUtf8 text → IsWholeText text v → Spells strict text v × ((u : Json) → Spells strict text u → u ≡ v)
whole_value text v utf8 h =
    let s = h.2 in
    end_value text s.0 (state h.0 []) v (all_seen text s.0 [] utf8 s.1 refl) s.2 (behind_ended h.0 v h.1)

-- a fact of what is read, if something is
pub if_read : {T : Type 0} (r : Result (Option T) JsonKind) (P Q : T → Type 0) → ((t : T) → P t → Q t) → IfOk r (λ o. IfSome o P) → IfOk r (λ o. IfSome o Q)
if_read (Ok (Some t)) P Q f h = f t h
if_read (Ok None) P Q f h = h
if_read (Err k) P Q f h = h

pub if_some : {T : Type 0} (o : Option T) (P Q : T → Type 0) → ((t : T) → P t → Q t) → IfSome o P → IfSome o Q
if_some (Some t) P Q f h = f t h
if_some None P Q f h = h
