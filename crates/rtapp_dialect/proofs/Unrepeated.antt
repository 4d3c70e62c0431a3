-- A text that spells a JSON value without repeated keys has none.
use Rattle.std.specs.Prelude.{◌==◌, ◌||◌, not, encode_utf8, encode_utf8_all, codes, nat_lt, count_by, fold}
use Rattle.std.specs.Str.{bytes_eq}
use Rattle.std.proofs.Common.{ℕ, suc, ◌+◌, ◌-◌, ◌<◌, ◌≤◌, ◌≡◌, Bool, true, false, List, [], ◌∷◌, ◌++◌, cond, length, take, drop, get_or, refl, sym, ap, ◌∙◌, subst, arith, append_assoc, append-nil}
use Rattle.std.proofs.lemmas.Bool.Decides.{nat_tests}
use Rattle.std.proofs.lemmas.Str.{encode_ascii, encodes-append, encodes_same}
use Rattle.std.proofs.lemmas.Slice.Eq.{bytes_eq-Decides}
use Rattle.std.proofs.Math.Seq.{take-append_seam, drop-append_seam, get_or-append_seam}
use Rattle.std.proofs.lemmas.List.{length-append}
use Rattle.json_order.specs.Json.{Json, null, boolean, number, string, array, object, Items, no_items, item, Members, no_members, member}
use Rattle.json_order.specs.Grammar.{Rules, is_space, AreSpaces, IsSpaced, IsNumber, AreCharacters, IsString, has_key, IsKey, IsValue, AreItems, AreMoreItems, AreMembers, AreMoreMembers}
use Rattle.rtapp_dialect.specs.Filling.{quote_after, last_after, inside_after, is_key_place, string_part}
use Rattle.rtapp_dialect.specs.Repeats.{spelled_at, key_span, last_mark, earlier_in, ends_key, shuts, starts_bracket, start_after, keys_after, marks_after, repeat_at, repeat_if, repeats_from, repeats_in}
use Rattle.rtapp_dialect.specs.Numbers.{IsUnrepeatedJson}
use Rattle.rtapp_dialect.specs.declared.bracket.Bracket.{Bracket}
use Rattle.rtapp_dialect.specs.declared.bracket.Bracket.TheVariants.{Square, Curly}
use Rattle.rtapp_dialect.specs.declared.keys.Span.{Span}
use Rattle.rtapp_dialect.specs.declared.spot.Quote.{Quote}
use Rattle.rtapp_dialect.specs.declared.spot.Quote.TheVariants.{Closed, Open, Escaped}
use Rattle.rtapp_dialect.specs.declared.spot.Last.{Last}
use Rattle.rtapp_dialect.specs.declared.spot.Last.TheVariants.{Opening, Comma, Key, Other}
use Rattle.rtapp_dialect.proofs.Strictness.{is_tame, AreTame, tame_quote, tame_last, tame_inside, space_quote, space_last, space_inside, number_tame, no_key, first_key, next_key, out_of}
use Rattle.rtapp_dialect.proofs.Characters.{IsWide, AreWide, wide, wide_quote, not_small, is_small}
use Rattle.rtapp_dialect.proofs.Figures.{AreSmall, number_small}
use Rattle.rtapp_dialect.proofs.Spelling.{characters_one, ends_string, GoesOn, body_of}

-- from here on no key repeats, wherever the last string starts
abbrev pub Quiet : List ℕ → Quote → Last → List Bracket → List ℕ → List Span → List ℕ → Type 0
Quiet text q l a ms ks x =
    (P : List ℕ) (st : ℕ) → text ≡ P ++ encode_utf8_all x → repeats_from text q l a st ms ks (length P) (encode_utf8_all x) ≡ []

-- BYTES OUTSIDE STRINGS

one_longer : (P : List ℕ) (c : ℕ) → length (P ++ (c ∷ [])) ≡ length P + 1
one_longer P c = length-append P (c ∷ [])

-- the first byte of an ASCII character
first_byte : (c : ℕ) (x : List ℕ) → c < 128 → encode_utf8_all (c ∷ x) ≡ c ∷ encode_utf8_all x
first_byte c x h = ap (λ (y : List ℕ). y ++ encode_utf8_all x) (encode_ascii c h)

quiet_step : (text : List ℕ) (q r : Quote) (l m : Last) (a b : List Bracket) (ms ns : List ℕ) (ks js : List Span) (c : ℕ) (x : List ℕ) → c < 128 →
    ends_key q l c ≡ false → quote_after q c ≡ r → last_after q l a c ≡ m → inside_after q a c ≡ b →
    marks_after (starts_bracket q c) (shuts q c) (length ks) ms ≡ ns → ((s : Span) → keys_after false (shuts q c) (last_mark ms) ks s ≡ js) →
    Quiet text r m b ns js x → Quiet text q l a ms ks (c ∷ x)
quiet_step text q r l m a b ms ns ks js c x small no_end e f g d k after = λ P st is.
    let byte = first_byte c x small in
    let moved : text ≡ (P ++ (c ∷ [])) ++ encode_utf8_all x = is ∙ ap (λ (y : List ℕ). P ++ y) byte ∙ sym (append_assoc P (c ∷ []) (encode_utf8_all x)) in
    let there = after (P ++ (c ∷ [])) (start_after q st (length P) c) moved in
    let placed : repeats_from text r m b (start_after q st (length P) c) ns js (length P + 1) (encode_utf8_all x) ≡ [] =
    subst (λ (n : ℕ). repeats_from text r m b (start_after q st (length P) c) ns js n (encode_utf8_all x) ≡ []) (one_longer P c) there in
    ap (repeats_from text q l a st ms ks (length P)) byte
    ∙ ap (λ (y : Bool). repeat_if y (length P) (earlier_in text ms ks (key_span st (length P))) ++ repeats_from text (quote_after q c) (last_after q l a c) (inside_after q a c) (start_after q st (length P) c) (marks_after (starts_bracket q c) (shuts q c) (length ks) ms) (keys_after y (shuts q c) (last_mark ms) ks (key_span st (length P))) (length P + 1) (encode_utf8_all x)) no_end
    ∙ rw (e, f, g, d, k (key_span st (length P))) placed

tame_small : (c : ℕ) → c < 128 → c < 128
tame_small c h = h

tame_shuts : (c : ℕ) → is_tame c ≡ true → shuts Closed c ≡ false
tame_shuts c h = grind (arith, nat_tests)

tame_starts : (c : ℕ) → is_tame c ≡ true → starts_bracket Closed c ≡ false
tame_starts c h = grind (arith, nat_tests)

space_shuts : (c : ℕ) → is_space c ≡ true → shuts Closed c ≡ false
space_shuts c h = grind (arith, nat_tests)

space_starts : (c : ℕ) → is_space c ≡ true → starts_bracket Closed c ≡ false
space_starts c h = grind (arith, nat_tests)

space_small : (c : ℕ) → is_space c ≡ true → c < 128
space_small c h = grind (arith, nat_tests)

kept_marks : (p q : Bool) (n : ℕ) (ms : List ℕ) → p ≡ false → q ≡ false → marks_after p q n ms ≡ ms
kept_marks p q n ms e f = rw (e, f) refl

kept_keys : (q : Bool) (n : ℕ) (ks : List Span) (s : Span) → q ≡ false → keys_after false q n ks s ≡ ks
kept_keys q n ks s f = rw f refl

quiet_tame : (text : List ℕ) (l : Last) (a : List Bracket) (ms : List ℕ) (ks : List Span) (c : ℕ) (x : List ℕ) → c < 128 → is_tame c ≡ true → Quiet text Closed Other a ms ks x → Quiet text Closed l a ms ks (c ∷ x)
quiet_tame text l a ms ks c x small t after =
    quiet_step text Closed Closed l Other a a ms ms ks ks c x small refl (tame_quote c t) (tame_last l a c t) (tame_inside a c t)
    (kept_marks (starts_bracket Closed c) (shuts Closed c) (length ks) ms (tame_starts c t) (tame_shuts c t)) (λ s. kept_keys (shuts Closed c) (last_mark ms) ks s (tame_shuts c t)) after

quiet_space : (text : List ℕ) (l : Last) (a : List Bracket) (ms : List ℕ) (ks : List Span) (c : ℕ) (x : List ℕ) → is_space c ≡ true → Quiet text Closed l a ms ks x → Quiet text Closed l a ms ks (c ∷ x)
quiet_space text l a ms ks c x t after =
    quiet_step text Closed Closed l l a a ms ms ks ks c x (space_small c t) refl (space_quote c t) (space_last l a c t) (space_inside a c t)
    (kept_marks (starts_bracket Closed c) (shuts Closed c) (length ks) ms (space_starts c t) (space_shuts c t)) (λ s. kept_keys (shuts Closed c) (last_mark ms) ks s (space_shuts c t)) after

quiet_spaces : (text : List ℕ) (l : Last) (a : List Bracket) (ms : List ℕ) (ks : List Span) (cs x : List ℕ) → AreSpaces cs → Quiet text Closed l a ms ks x → Quiet text Closed l a ms ks (cs ++ x)
quiet_spaces text l a ms ks [] x s after = after
quiet_spaces text l a ms ks (c ∷ cs) x s after = quiet_space text l a ms ks c (cs ++ x) s.0 (quiet_spaces text l a ms ks cs x s.1 after)

quiet_spaced : (text : List ℕ) (l : Last) (a : List Bracket) (ms : List ℕ) (ks : List Span) (x y : List ℕ) → IsSpaced x y → Quiet text Closed l a ms ks y → Quiet text Closed l a ms ks x
quiet_spaced text l a ms ks x y (cs, s, e) after = subst (Quiet text Closed l a ms ks) (sym e) (quiet_spaces text l a ms ks cs y s after)

-- BYTES OF A STRING

-- a byte of a string that goes on
string_byte : (text : List ℕ) (q : Quote) (l : Last) (a : List Bracket) (st : ℕ) (ms : List ℕ) (ks : List Span) (n c : ℕ) (rest : List ℕ) → ends_string q c ≡ false →
    repeats_from text q l a st ms ks n (c ∷ rest) ≡ repeats_from text (quote_after q c) l a st ms ks (n + 1) rest
string_byte text Closed l a st ms ks n c rest h = cc
string_byte text Escaped l a st ms ks n c rest h = refl
string_byte text Open Opening a st ms ks n c rest h = refl
string_byte text Open Comma a st ms ks n c rest h = refl
string_byte text Open Other a st ms ks n c rest h = refl
string_byte text Open Key a st ms ks n c rest h = rw h refl

wide_no_end : (b : ℕ) → 128 ≤ b → (b == 34) ≡ false
wide_no_end b h = grind (arith, nat_tests)

wide_more : (text : List ℕ) (l : Last) (a : List Bracket) (st : ℕ) (ms : List ℕ) (ks : List Span) (bs : List ℕ) (n : ℕ) (rest : List ℕ) → AreWide bs →
    repeats_from text Open l a st ms ks n (bs ++ rest) ≡ repeats_from text Open l a st ms ks (n + length bs) rest
wide_more text l a st ms ks [] n rest w = ap (λ (k : ℕ). repeats_from text Open l a st ms ks k rest) (let e : n ≡ n + 0 = omega arith in e)
wide_more text l a st ms ks (b ∷ bs) n rest w =
    string_byte text Open l a st ms ks n b (bs ++ rest) (wide_no_end b w.0)
    ∙ ap (λ (q : Quote). repeats_from text q l a st ms ks (n + 1) (bs ++ rest)) (wide_quote b w.0)
    ∙ wide_more text l a st ms ks bs (n + 1) rest w.1
    ∙ ap (λ (k : ℕ). repeats_from text Open l a st ms ks k rest) (let e : n + 1 + length bs ≡ n + length (b ∷ bs) = omega arith in e)

-- a character that is not ASCII
wide_character : (text : List ℕ) (q : Quote) (l : Last) (a : List Bracket) (st : ℕ) (ms : List ℕ) (ks : List Span) (c : ℕ) (bs : List ℕ) (n : ℕ) (rest : List ℕ) → 128 ≤ c → IsWide bs → ends_string q c ≡ false →
    repeats_from text q l a st ms ks n (bs ++ rest) ≡ repeats_from text (quote_after q c) l a st ms ks (n + length bs) rest
wide_character text q l a st ms ks c [] n rest m w h = absurd w
wide_character text Closed l a st ms ks c (b ∷ bs) n rest m w h = cc
wide_character text Escaped l a st ms ks c (b ∷ bs) n rest m w h =
    wide_more text l a st ms ks bs (n + 1) rest w.1
    ∙ ap (λ (k : ℕ). repeats_from text Open l a st ms ks k rest) (let e : n + 1 + length bs ≡ n + length (b ∷ bs) = omega arith in e)
wide_character text Open l a st ms ks c (b ∷ bs) n rest m w h =
    wide_more text l a st ms ks (b ∷ bs) n rest w ∙ ap (λ (q : Quote). repeats_from text q l a st ms ks (n + length (b ∷ bs)) rest) (sym (wide_quote c m))

one_character : (text : List ℕ) (q : Quote) (l : Last) (a : List Bracket) (st : ℕ) (ms : List ℕ) (ks : List Span) (c n : ℕ) (rest : List ℕ) (b : Bool) → nat_lt c 128 ≡ b → ends_string q c ≡ false →
    repeats_from text q l a st ms ks n (encode_utf8 c ++ rest) ≡ repeats_from text (quote_after q c) l a st ms ks (n + length (encode_utf8 c)) rest
one_character text q l a st ms ks c n rest true e h =
    rw (encode_ascii c (is_small c e)) (string_byte text q l a st ms ks n c rest h)
one_character text q l a st ms ks c n rest false e h = wide_character text q l a st ms ks c (encode_utf8 c) n rest (not_small c e) (wide c e) h

-- the inside of a string
string_rest : (text : List ℕ) (q : Quote) (l : Last) (a : List Bracket) (st : ℕ) (ms : List ℕ) (ks : List Span) (r : List ℕ) (n : ℕ) (rest : List ℕ) → GoesOn q r →
    repeats_from text q l a st ms ks n (encode_utf8_all r ++ rest) ≡ repeats_from text Open l a st ms ks (n + length (encode_utf8_all r)) rest
string_rest text q l a st ms ks [] n rest g =
    ap (λ (p : Quote). repeats_from text p l a st ms ks n rest) g ∙ ap (λ (k : ℕ). repeats_from text Open l a st ms ks k rest) (let e : n ≡ n + 0 = omega arith in e)
string_rest text q l a st ms ks (c ∷ r) n rest g =
    ap (repeats_from text q l a st ms ks n) (append_assoc (encode_utf8 c) (encode_utf8_all r) rest)
    ∙ one_character text q l a st ms ks c n (encode_utf8_all r ++ rest) (nat_lt c 128) refl g.0
    ∙ string_rest text (quote_after q c) l a st ms ks r (n + length (encode_utf8 c)) rest g.1
    ∙ ap (λ (k : ℕ). repeats_from text Open l a st ms ks k rest) (let h = length-append (encode_utf8 c) (encode_utf8_all r) in let e : n + length (encode_utf8 c) + length (encode_utf8_all r) ≡ n + length (encode_utf8_all (c ∷ r)) = omega (arith, h) in e)

-- TAME BYTES

quiet_tames : (text : List ℕ) (a : List Bracket) (ms : List ℕ) (ks : List Span) (cs y : List ℕ) → AreTame cs → AreSmall cs → Quiet text Closed Other a ms ks y → Quiet text Closed Other a ms ks (cs ++ y)
quiet_tames text a ms ks [] y t s after = after
quiet_tames text a ms ks (c ∷ cs) y t s after = quiet_tame text Other a ms ks c (cs ++ y) s.0 t.0 (quiet_tames text a ms ks cs y t.1 s.1 after)

quiet_tamed : (text : List ℕ) (l : Last) (a : List Bracket) (ms : List ℕ) (ks : List Span) (c : ℕ) (cs y : List ℕ) → AreTame (c ∷ cs) → AreSmall (c ∷ cs) → Quiet text Closed Other a ms ks y → Quiet text Closed l a ms ks ((c ∷ cs) ++ y)
quiet_tamed text l a ms ks c cs y t s after = quiet_tame text l a ms ks c (cs ++ y) s.0 t.0 (quiet_tames text a ms ks cs y t.1 s.1 after)

quiet_number : (text : List ℕ) (l : Last) (a : List Bracket) (ms : List ℕ) (ks : List Span) (digits y : List ℕ) → IsNumber digits → Quiet text Closed Other a ms ks y → Quiet text Closed l a ms ks (digits ++ y)
quiet_number text l a ms ks [] y n after = absurd n
quiet_number text l a ms ks (c ∷ more) y n after = quiet_tamed text l a ms ks c more y (number_tame c more n) (number_small c more n) after

-- STRINGS

quoted : (r y : List ℕ) → encode_utf8_all (34 ∷ (r ++ (34 ∷ y))) ≡ 34 ∷ (encode_utf8_all r ++ (34 ∷ encode_utf8_all y))
quoted r y =
    first_byte 34 (r ++ (34 ∷ y)) (omega arith)
    ∙ ap (λ (z : List ℕ). 34 ∷ z) (encodes-append r (34 ∷ y) ∙ ap (λ (z : List ℕ). encode_utf8_all r ++ z) (first_byte 34 y (omega arith)))

-- up to the closing quote
up_to_quote : (text : List ℕ) (l m : Last) (a : List Bracket) (st : ℕ) (ms : List ℕ) (ks : List Span) (n : ℕ) (r y : List ℕ) → string_part (is_key_place l a) ≡ m → GoesOn Open r →
    repeats_from text Closed l a st ms ks n (encode_utf8_all (34 ∷ (r ++ (34 ∷ y)))) ≡ repeats_from text Open m a (n + 1) ms ks (n + 1 + length (encode_utf8_all r)) (34 ∷ encode_utf8_all y)
up_to_quote text l m a st ms ks n r y e g =
    ap (repeats_from text Closed l a st ms ks n) (quoted r y)
    ∙ ap (λ (x : Last). repeats_from text Open x a (n + 1) ms ks (n + 1) (encode_utf8_all r ++ (34 ∷ encode_utf8_all y))) e
    ∙ string_rest text Open m a (n + 1) ms ks r (n + 1) (34 ∷ encode_utf8_all y) g

-- the bytes of a text up to a closing quote
abbrev front_of : List ℕ → List ℕ → List ℕ
front_of P r = P ++ (34 ∷ (encode_utf8_all r ++ (34 ∷ [])))

front_splits : (text P r y : List ℕ) → text ≡ P ++ encode_utf8_all (34 ∷ (r ++ (34 ∷ y))) → text ≡ front_of P r ++ encode_utf8_all y
front_splits text P r y is =
    is ∙ ap (λ (z : List ℕ). P ++ z) (quoted r y ∙ ap (λ (z : List ℕ). 34 ∷ z) (sym (append_assoc (encode_utf8_all r) (34 ∷ []) (encode_utf8_all y))))
    ∙ sym (append_assoc P (34 ∷ (encode_utf8_all r ++ (34 ∷ []))) (encode_utf8_all y))

front_length : (P r : List ℕ) → length (front_of P r) ≡ length P + 1 + length (encode_utf8_all r) + 1
front_length P r =
    let a = length-append P (34 ∷ (encode_utf8_all r ++ (34 ∷ []))) in
    let b = length-append (encode_utf8_all r) (34 ∷ []) in
    omega (arith, a, b)

-- a string that is no key
quiet_text : (text : List ℕ) (l : Last) (a : List Bracket) (ms : List ℕ) (ks : List Span) (bytes x y : List ℕ) → is_key_place l a ≡ false → IsString bytes x y → Quiet text Closed Other a ms ks y → Quiet text Closed l a ms ks x
quiet_text text l a ms ks bytes x y k (cs, mid, e, u, h) after = λ P st is.
    let body = body_of cs mid y h in
    let whole : x ≡ 34 ∷ (body.raw ++ (34 ∷ y)) = e ∙ ap (λ (z : List ℕ). 34 ∷ z) body.splits in
    let there = after (front_of P body.raw) (length P + 1) (front_splits text P body.raw y (is ∙ ap (λ (z : List ℕ). P ++ encode_utf8_all z) whole)) in
    ap (λ (z : List ℕ). repeats_from text Closed l a st ms ks (length P) (encode_utf8_all z)) whole
    ∙ up_to_quote text l Other a st ms ks (length P) body.raw y (ap string_part k) body.on
    ∙ ap (λ (n : ℕ). repeats_from text Closed Other a (length P + 1) ms ks n (encode_utf8_all y)) (sym (front_length P body.raw))
    ∙ there

-- KEYS

-- what a key's place has: the spelling of that key
pub record Spelt (text : List ℕ) (s : Span) (key : List ℕ) : Type 0 where
  pub raw : List ℕ
  pub characters : List ℕ
  pub is : spelled_at text s ≡ encode_utf8_all raw
  pub key_is : key ≡ encode_utf8_all characters
  pub spells : (t : List ℕ) → AreCharacters characters (raw ++ (34 ∷ t)) t

abbrev pub Known : List ℕ → List Span → List (List ℕ) → Type 0
Known text [] [] = Unit {0}
Known text [] (k ∷ keys) = ⊥
Known text (s ∷ spans) [] = ⊥
Known text (s ∷ spans) (k ∷ keys) = Spelt text s k × Known text spans keys

known_more : (text : List ℕ) (spans : List Span) (keys : List (List ℕ)) (s : Span) (key : List ℕ) → Known text spans keys → Spelt text s key → Known text (spans ++ (s ∷ [])) (keys ++ (key ∷ []))
known_more text [] [] s key h g = (g, tt)
known_more text [] (k ∷ keys) s key h g = absurd h
known_more text (t ∷ spans) [] s key h g = absurd h
known_more text (t ∷ spans) (k ∷ keys) s key h g = (h.0, known_more text spans keys s key h.1 g)

-- keys that are spelled alike are one
alike : (text : List ℕ) (s t : Span) (k key : List ℕ) → Spelt text s k → Spelt text t key → spelled_at text s ≡ spelled_at text t → k ≡ key
alike text s t k key h g e =
    let raws : h.raw ≡ g.raw = encodes_same h.raw g.raw (sym h.is ∙ e ∙ g.is) in
    let same : h.characters ≡ g.characters =
    characters_one h.characters g.characters (h.raw ++ (34 ∷ [])) [] [] (h.spells []) (subst (λ (r : List ℕ). AreCharacters g.characters (r ++ (34 ∷ [])) []) (sym raws) (g.spells [])) in
    h.key_is ∙ ap encode_utf8_all same ∙ sym g.key_is

or_left : (a b : Bool) → (a || b) ≡ false → a ≡ false
or_left true b h = h
or_left false b h = refl

or_right : (a b : Bool) → (a || b) ≡ false → b ≡ false
or_right true b h = cc
or_right false b h = h

differ : (text : List ℕ) (s t : Span) (k key : List ℕ) (b : Bool) → bytes_eq (spelled_at text s) (spelled_at text t) ≡ b → Spelt text s k → Spelt text t key → bytes_eq k key ≡ false → b ≡ false
differ text s t k key false e h g f = refl
differ text s t k key true e h g f =
    let same = alike text s t k key h g ((bytes_eq-Decides (spelled_at text s) (spelled_at text t)).0 e) in
    let yes : bytes_eq k key ≡ true = (bytes_eq-Decides k key).1 same in
    sym yes ∙ f

none_among : (text : List ℕ) (spans : List Span) (keys : List (List ℕ)) (t : Span) (key : List ℕ) → Known text spans keys → Spelt text t key → has_key keys key ≡ false → count_by (λ k. bytes_eq (spelled_at text k) (spelled_at text t)) spans ≡ 0
none_among text [] [] t key h g f = refl
none_among text [] (k ∷ keys) t key h g f = absurd h
none_among text (s ∷ spans) [] t key h g f = absurd h
none_among text (s ∷ spans) (k ∷ keys) t key h g f =
    let first = differ text s t k key (bytes_eq (spelled_at text s) (spelled_at text t)) refl h.0 g (or_left (bytes_eq k key) (has_key keys key) f) in
    let rest = none_among text spans keys t key h.1 g (or_right (bytes_eq k key) (has_key keys key) f) in
    ap (λ (b : Bool). fold (λ (n : ℕ) (x : Span). n + cond (bytes_eq (spelled_at text x) (spelled_at text t)) 1 0) (0 + cond b 1 0) spans) first ∙ rest

-- MARKS

mark_back : (m : ℕ) (ms : List ℕ) → length (ms ++ (m ∷ [])) - 1 ≡ length ms
mark_back m ms = omega (arith, length-append ms (m ∷ []))

mark_top : (m : ℕ) (ms : List ℕ) → last_mark (ms ++ (m ∷ [])) ≡ m
mark_top m ms = ap (λ (i : ℕ). get_or (ms ++ (m ∷ [])) i 0) (mark_back m ms) ∙ get_or-append_seam ms m [] 0

mark_out : (m : ℕ) (ms : List ℕ) → take (length (ms ++ (m ∷ [])) - 1) (ms ++ (m ∷ [])) ≡ ms
mark_out m ms = ap (λ (i : ℕ). take i (ms ++ (m ∷ []))) (mark_back m ms) ∙ take-append_seam ms (m ∷ [])

none_earlier : (text ms : List ℕ) (ks spans : List Span) (keys : List (List ℕ)) (t : Span) (key : List ℕ) → Known text spans keys → Spelt text t key → has_key keys key ≡ false → earlier_in text (ms ++ (length ks ∷ [])) (ks ++ spans) t ≡ 0
none_earlier text ms ks spans keys t key h g f =
    ap (λ (m : ℕ). count_by (λ k. bytes_eq (spelled_at text k) (spelled_at text t)) (drop m (ks ++ spans))) (mark_top (length ks) ms)
    ∙ ap (count_by (λ k. bytes_eq (spelled_at text k) (spelled_at text t))) (drop-append_seam ks spans)
    ∙ none_among text spans keys t key h g f

-- where a key is spelled
spelled_there : (text P r y : List ℕ) → text ≡ P ++ encode_utf8_all (34 ∷ (r ++ (34 ∷ y))) → spelled_at text (key_span (length P + 1) (length P + 1 + length (encode_utf8_all r))) ≡ encode_utf8_all r
spelled_there text P r y is =
    let cut : text ≡ (P ++ (34 ∷ [])) ++ (encode_utf8_all r ++ (34 ∷ encode_utf8_all y)) =
    is ∙ ap (λ (z : List ℕ). P ++ z) (quoted r y) ∙ sym (append_assoc P (34 ∷ []) (encode_utf8_all r ++ (34 ∷ encode_utf8_all y))) in
    let size : length P + 1 + length (encode_utf8_all r) - (length P + 1) ≡ length (encode_utf8_all r) = omega arith in
    ap (λ (k : ℕ). take k (drop (length P + 1) text)) size
    ∙ ap (λ (z : List ℕ). take (length (encode_utf8_all r)) (drop (length P + 1) z)) cut
    ∙ ap (λ (k : ℕ). take (length (encode_utf8_all r)) (drop k ((P ++ (34 ∷ [])) ++ (encode_utf8_all r ++ (34 ∷ encode_utf8_all y))))) (sym (one_longer P 34))
    ∙ ap (take (length (encode_utf8_all r))) (drop-append_seam (P ++ (34 ∷ [])) (encode_utf8_all r ++ (34 ∷ encode_utf8_all y)))
    ∙ take-append_seam (encode_utf8_all r) (34 ∷ encode_utf8_all y)

-- a key
quiet_key_text : (text : List ℕ) (l : Last) (a : List Bracket) (ms : List ℕ) (ks spans : List Span) (keys : List (List ℕ)) (key x y : List ℕ) → is_key_place l a ≡ true → Known text spans keys → has_key keys key ≡ false → IsString key x y →
    ((s : Span) → Spelt text s key → Quiet text Closed Key a (ms ++ (length ks ∷ [])) (ks ++ (spans ++ (s ∷ []))) y) → Quiet text Closed l a (ms ++ (length ks ∷ [])) (ks ++ spans) x
quiet_key_text text l a ms ks spans keys key x y k known fresh (cs, mid, e, u, h) after = λ P st is.
    let body = body_of cs mid y h in
    let raw = body.raw in
    let marks = ms ++ (length ks ∷ []) in
    let end = length P + 1 + length (encode_utf8_all raw) in
    let s = key_span (length P + 1) end in
    let whole : x ≡ 34 ∷ (raw ++ (34 ∷ y)) = e ∙ ap (λ (z : List ℕ). 34 ∷ z) body.splits in
    let is_whole : text ≡ P ++ encode_utf8_all (34 ∷ (raw ++ (34 ∷ y))) = is ∙ ap (λ (z : List ℕ). P ++ encode_utf8_all z) whole in
    let spelt : Spelt text s key = record { raw = raw; characters = cs; is = spelled_there text P raw y is_whole; key_is = u; spells = body.spells } in
    let none = none_earlier text ms ks spans keys s key known spelt fresh in
    let there = after s spelt (front_of P raw) (length P + 1) (front_splits text P raw y is_whole) in
    ap (λ (z : List ℕ). repeats_from text Closed l a st marks (ks ++ spans) (length P) (encode_utf8_all z)) whole
    ∙ up_to_quote text l Key a st marks (ks ++ spans) (length P) raw y (ap string_part k) body.on
    ∙ ap (λ (n : ℕ). repeat_at end n ++ repeats_from text Closed Key a (length P + 1) marks ((ks ++ spans) ++ (s ∷ [])) (end + 1) (encode_utf8_all y)) none
    ∙ ap (λ (z : List Span). repeats_from text Closed Key a (length P + 1) marks z (end + 1) (encode_utf8_all y)) (append_assoc ks spans (s ∷ []))
    ∙ ap (λ (n : ℕ). repeats_from text Closed Key a (length P + 1) marks (ks ++ (spans ++ (s ∷ []))) n (encode_utf8_all y)) (sym (front_length P raw))
    ∙ there

fresh_key : (b h : Bool) → b ≡ false → (b || not h) ≡ true → h ≡ false
fresh_key true h e f = cc
fresh_key false true e f = cc
fresh_key false false e f = refl

quiet_key : (text : List ℕ) (r : Rules) (l : Last) (a : List Bracket) (ms : List ℕ) (ks spans : List Span) (keys : List (List ℕ)) (key x y : List ℕ) → r.repeats ≡ false → is_key_place l a ≡ true → Known text spans keys → IsKey r keys key x y →
    ((s : Span) → Spelt text s key → Quiet text Closed Other a (ms ++ (length ks ∷ [])) (ks ++ (spans ++ (s ∷ []))) y) → Quiet text Closed l a (ms ++ (length ks ∷ [])) (ks ++ spans) x
quiet_key text r l a ms ks spans keys key x y none k known (s, t, c, sp, str, may, sq, e) after =
    quiet_spaced text l a (ms ++ (length ks ∷ [])) (ks ++ spans) x s sp
    (quiet_key_text text l a ms ks spans keys key s t k known (fresh_key r.repeats (has_key keys key) none may) str
    (λ n spelt. quiet_spaced text Key a (ms ++ (length ks ∷ [])) (ks ++ (spans ++ (n ∷ []))) t c sq
    (subst (Quiet text Closed Key a (ms ++ (length ks ∷ [])) (ks ++ (spans ++ (n ∷ [])))) (sym e)
    (quiet_tame text Key a (ms ++ (length ks ∷ [])) (ks ++ (spans ++ (n ∷ []))) 58 y (omega arith) refl (after n spelt)))))

-- BRACKETS AND COMMAS

quiet_comma : (text : List ℕ) (a : List Bracket) (ms : List ℕ) (ks : List Span) (x : List ℕ) → Quiet text Closed Comma a ms ks x → Quiet text Closed Other a ms ks (44 ∷ x)
quiet_comma text a ms ks x after = quiet_step text Closed Closed Other Comma a a ms ms ks ks 44 x (omega arith) refl refl refl refl refl (λ s. refl) after

quiet_square : (text : List ℕ) (l : Last) (a : List Bracket) (ms : List ℕ) (ks : List Span) (x : List ℕ) → Quiet text Closed Opening (a ++ (Square ∷ [])) (ms ++ (length ks ∷ [])) ks x → Quiet text Closed l a ms ks (91 ∷ x)
quiet_square text l a ms ks x after = quiet_step text Closed Closed l Opening a (a ++ (Square ∷ [])) ms (ms ++ (length ks ∷ [])) ks ks 91 x (omega arith) refl refl refl refl refl (λ s. refl) after

quiet_curly : (text : List ℕ) (l : Last) (a : List Bracket) (ms : List ℕ) (ks : List Span) (x : List ℕ) → Quiet text Closed Opening (a ++ (Curly ∷ [])) (ms ++ (length ks ∷ [])) ks x → Quiet text Closed l a ms ks (123 ∷ x)
quiet_curly text l a ms ks x after = quiet_step text Closed Closed l Opening a (a ++ (Curly ∷ [])) ms (ms ++ (length ks ∷ [])) ks ks 123 x (omega arith) refl refl refl refl refl (λ s. refl) after

keys_out : (m : ℕ) (ms : List ℕ) (ks spans : List Span) → m ≡ length ks → take (last_mark (ms ++ (m ∷ []))) (ks ++ spans) ≡ ks
keys_out m ms ks spans e = ap (λ (i : ℕ). take i (ks ++ spans)) (mark_top m ms ∙ e) ∙ take-append_seam ks spans

quiet_shut_square : (text : List ℕ) (l : Last) (b : Bracket) (a : List Bracket) (ms : List ℕ) (ks spans : List Span) (y : List ℕ) → Quiet text Closed Other a ms ks y → Quiet text Closed l (a ++ (b ∷ [])) (ms ++ (length ks ∷ [])) (ks ++ spans) (93 ∷ y)
quiet_shut_square text l b a ms ks spans y after =
    quiet_step text Closed Closed l Other (a ++ (b ∷ [])) a (ms ++ (length ks ∷ [])) ms (ks ++ spans) ks 93 y (omega arith) refl refl refl (out_of b a) (mark_out (length ks) ms) (λ s. keys_out (length ks) ms ks spans refl) after

quiet_shut_curly : (text : List ℕ) (l : Last) (b : Bracket) (a : List Bracket) (ms : List ℕ) (ks spans : List Span) (y : List ℕ) → Quiet text Closed Other a ms ks y → Quiet text Closed l (a ++ (b ∷ [])) (ms ++ (length ks ∷ [])) (ks ++ spans) (125 ∷ y)
quiet_shut_curly text l b a ms ks spans y after =
    quiet_step text Closed Closed l Other (a ++ (b ∷ [])) a (ms ++ (length ks ∷ [])) ms (ks ++ spans) ks 125 y (omega arith) refl refl refl (out_of b a) (mark_out (length ks) ms) (λ s. keys_out (length ks) ms ks spans refl) after

with_none : (text : List ℕ) (l : Last) (a : List Bracket) (ms : List ℕ) (ks : List Span) (x : List ℕ) → Quiet text Closed l a ms (ks ++ []) x → Quiet text Closed l a ms ks x
with_none text l a ms ks x h = subst (λ (z : List Span). Quiet text Closed l a ms z x) (append-nil ks) h

-- VALUES

mutual
  quiet_value : (text : List ℕ) (r : Rules) (none : r.repeats ≡ false) (d : ℕ) (v : Json) (l : Last) (a : List Bracket) (ms : List ℕ) (ks : List Span) (x y : List ℕ) → is_key_place l a ≡ false → IsValue r d v x y → Quiet text Closed Other a ms ks y → Quiet text Closed l a ms ks x
  quiet_value text r none d null l a ms ks x y k e after = subst (Quiet text Closed l a ms ks) (sym e) (quiet_tamed text l a ms ks 110 (codes "ull") y (refl, (refl, (refl, (refl, tt)))) (omega arith, (omega arith, (omega arith, (omega arith, tt)))) after)
  quiet_value text r none d (boolean true) l a ms ks x y k e after = subst (Quiet text Closed l a ms ks) (sym e) (quiet_tamed text l a ms ks 116 (codes "rue") y (refl, (refl, (refl, (refl, tt)))) (omega arith, (omega arith, (omega arith, (omega arith, tt)))) after)
  quiet_value text r none d (boolean false) l a ms ks x y k e after = subst (Quiet text Closed l a ms ks) (sym e) (quiet_tamed text l a ms ks 102 (codes "alse") y (refl, (refl, (refl, (refl, (refl, tt))))) (omega arith, (omega arith, (omega arith, (omega arith, (omega arith, tt))))) after)
  quiet_value text r none d (number digits) l a ms ks x y k (n, e) after = subst (Quiet text Closed l a ms ks) (sym e) (quiet_number text l a ms ks digits y n after)
  quiet_value text r none d (string bytes) l a ms ks x y k s after = quiet_text text l a ms ks bytes x y k s after
  quiet_value text r none d (array items) l a ms ks x y k (lt, (mid, e, its)) after =
      subst (Quiet text Closed l a ms ks) (sym e) (quiet_square text l a ms ks mid (quiet_items text r none (suc d) items a ms ks mid y its after))
  quiet_value text r none d (object members) l a ms ks x y k (lt, (mid, e, its)) after =
      subst (Quiet text Closed l a ms ks) (sym e) (quiet_curly text l a ms ks mid (quiet_members text r none (suc d) members a ms ks mid y its after))

  quiet_items : (text : List ℕ) (r : Rules) (none : r.repeats ≡ false) (d : ℕ) (items : Items) (a : List Bracket) (ms : List ℕ) (ks : List Span) (x y : List ℕ) → AreItems r d items x y → Quiet text Closed Other a ms ks y → Quiet text Closed Opening (a ++ (Square ∷ [])) (ms ++ (length ks ∷ [])) ks x
  quiet_items text r none d no_items a ms ks x y sp after =
      quiet_spaced text Opening (a ++ (Square ∷ [])) (ms ++ (length ks ∷ [])) ks x (93 ∷ y) sp (with_none text Opening (a ++ (Square ∷ [])) (ms ++ (length ks ∷ [])) ks (93 ∷ y) (quiet_shut_square text Opening Square a ms ks [] y after))
  quiet_items text r none d (item v items) a ms ks x y (s, e, m, sp, val, sq, more) after =
      quiet_spaced text Opening (a ++ (Square ∷ [])) (ms ++ (length ks ∷ [])) ks x s sp
      (quiet_value text r none d v Opening (a ++ (Square ∷ [])) (ms ++ (length ks ∷ [])) ks s e (no_key Opening a) val
      (quiet_spaced text Other (a ++ (Square ∷ [])) (ms ++ (length ks ∷ [])) ks e m sq (quiet_more_items text r none d items a ms ks m y more after)))

  quiet_more_items : (text : List ℕ) (r : Rules) (none : r.repeats ≡ false) (d : ℕ) (items : Items) (a : List Bracket) (ms : List ℕ) (ks : List Span) (x y : List ℕ) → AreMoreItems r d items x y → Quiet text Closed Other a ms ks y → Quiet text Closed Other (a ++ (Square ∷ [])) (ms ++ (length ks ∷ [])) ks x
  quiet_more_items text r none d no_items a ms ks x y e after =
      subst (Quiet text Closed Other (a ++ (Square ∷ [])) (ms ++ (length ks ∷ [])) ks) (sym e) (with_none text Other (a ++ (Square ∷ [])) (ms ++ (length ks ∷ [])) ks (93 ∷ y) (quiet_shut_square text Other Square a ms ks [] y after))
  quiet_more_items text r none d (item v items) a ms ks x y (b, s, e, m, q, sp, val, sq, more) after =
      subst (Quiet text Closed Other (a ++ (Square ∷ [])) (ms ++ (length ks ∷ [])) ks) (sym q)
      (quiet_comma text (a ++ (Square ∷ [])) (ms ++ (length ks ∷ [])) ks b
      (quiet_spaced text Comma (a ++ (Square ∷ [])) (ms ++ (length ks ∷ [])) ks b s sp
      (quiet_value text r none d v Comma (a ++ (Square ∷ [])) (ms ++ (length ks ∷ [])) ks s e (no_key Comma a) val
      (quiet_spaced text Other (a ++ (Square ∷ [])) (ms ++ (length ks ∷ [])) ks e m sq (quiet_more_items text r none d items a ms ks m y more after)))))

  quiet_members : (text : List ℕ) (r : Rules) (none : r.repeats ≡ false) (d : ℕ) (members : Members) (a : List Bracket) (ms : List ℕ) (ks : List Span) (x y : List ℕ) → AreMembers r d members x y → Quiet text Closed Other a ms ks y → Quiet text Closed Opening (a ++ (Curly ∷ [])) (ms ++ (length ks ∷ [])) ks x
  quiet_members text r none d no_members a ms ks x y sp after =
      quiet_spaced text Opening (a ++ (Curly ∷ [])) (ms ++ (length ks ∷ [])) ks x (125 ∷ y) sp (with_none text Opening (a ++ (Curly ∷ [])) (ms ++ (length ks ∷ [])) ks (125 ∷ y) (quiet_shut_curly text Opening Curly a ms ks [] y after))
  quiet_members text r none d (member key v members) a ms ks x y (k, s, e, m, kp, sp, val, sq, more) after =
      with_none text Opening (a ++ (Curly ∷ [])) (ms ++ (length ks ∷ [])) ks x
      (quiet_key text r Opening (a ++ (Curly ∷ [])) ms ks [] [] key x k none (first_key a) tt kp
      (λ n spelt. quiet_spaced text Other (a ++ (Curly ∷ [])) (ms ++ (length ks ∷ [])) (ks ++ (n ∷ [])) k s sp
      (quiet_value text r none d v Other (a ++ (Curly ∷ [])) (ms ++ (length ks ∷ [])) (ks ++ (n ∷ [])) s e refl val
      (quiet_spaced text Other (a ++ (Curly ∷ [])) (ms ++ (length ks ∷ [])) (ks ++ (n ∷ [])) e m sq
      (quiet_more_members text r none d (key ∷ []) members a ms ks (n ∷ []) m y (spelt, tt) more after)))))

  quiet_more_members : (text : List ℕ) (r : Rules) (none : r.repeats ≡ false) (d : ℕ) (keys : List (List ℕ)) (members : Members) (a : List Bracket) (ms : List ℕ) (ks spans : List Span) (x y : List ℕ) → Known text spans keys → AreMoreMembers r d keys members x y → Quiet text Closed Other a ms ks y → Quiet text Closed Other (a ++ (Curly ∷ [])) (ms ++ (length ks ∷ [])) (ks ++ spans) x
  quiet_more_members text r none d keys no_members a ms ks spans x y known e after =
      subst (Quiet text Closed Other (a ++ (Curly ∷ [])) (ms ++ (length ks ∷ [])) (ks ++ spans)) (sym e) (quiet_shut_curly text Other Curly a ms ks spans y after)
  quiet_more_members text r none d keys (member key v members) a ms ks spans x y known (b, k, s, e, m, q, kp, sp, val, sq, more) after =
      subst (Quiet text Closed Other (a ++ (Curly ∷ [])) (ms ++ (length ks ∷ [])) (ks ++ spans)) (sym q)
      (quiet_comma text (a ++ (Curly ∷ [])) (ms ++ (length ks ∷ [])) (ks ++ spans) b
      (quiet_key text r Comma (a ++ (Curly ∷ [])) ms ks spans keys key b k none (next_key a) known kp
      (λ n spelt. quiet_spaced text Other (a ++ (Curly ∷ [])) (ms ++ (length ks ∷ [])) (ks ++ (spans ++ (n ∷ []))) k s sp
      (quiet_value text r none d v Other (a ++ (Curly ∷ [])) (ms ++ (length ks ∷ [])) (ks ++ (spans ++ (n ∷ []))) s e refl val
      (quiet_spaced text Other (a ++ (Curly ∷ [])) (ms ++ (length ks ∷ [])) (ks ++ (spans ++ (n ∷ []))) e m sq
      (quiet_more_members text r none d (keys ++ (key ∷ [])) members a ms ks (spans ++ (n ∷ [])) m y (known_more text spans keys n key known spelt) more after))))))

quiet_end : (text : List ℕ) → Quiet text Closed Other [] [] [] []
quiet_end text = λ P st is. refl

pub no_repeats : (text : List ℕ) → IsUnrepeatedJson text → repeats_in text ≡ []
no_repeats text (r, none, v, (cs, sc, e, (s, t, sp, val, sq))) =
    let walk = quiet_spaced text Other [] [] [] cs s sp (quiet_value text r none 0 v Other [] [] [] s t refl val (quiet_spaced text Other [] [] [] t [] sq (quiet_end text))) in
    ap (repeats_from text Closed Other [] 0 [] [] 0) e ∙ walk [] 0 e
