-- Several characters taken at once: plain ones of a string, and those of a number.
use Rattle.std.specs.Prelude.{option_and_then, ◌==◌, nat_le, encode_utf8, encode_utf8_all}
use Rattle.std.specs.Str.{IsUtf8, IsAscii, IsCharBoundary}
use Rattle.std.specs.Char.{is_ascii_digit}
use Rattle.std.specs.List.{All, AllByRecursion, prefix_len}
use Rattle.std.proofs.Common.{ℕ, suc, ◌+◌, ◌<◌, ◌≤◌, ◌≡◌, inl, inr, Bool, true, false, not, ◌&&◌, List, [], ◌∷◌, ◌++◌, length, take, drop, take-add, refl, sym, ap, ◌∙◌, subst, arith, Option, Some, None, Result, Ok, append-nil, append_assoc}
use Rattle.std.proofs.lemmas.Bool.{cases_lt, eq-eqb}
use Rattle.std.proofs.lemmas.Bool.Decides.{nat_tests}
use Rattle.std.proofs.lemmas.Str.{encode_ascii, encodes-append, encodes-IsAscii, IsUtf8-take, IsUtf8-from_ascii, IsCharBoundary-from_take}
use Rattle.std.proofs.lemmas.Str.Ascii.{IsAscii-from_all}
use Rattle.std.proofs.lemmas.List.{take-append-drop}
use Rattle.std.proofs.lemmas.List.Elements.{recursion_from_All, All-from_recursion}
use Rattle.std.proofs.lemmas.List.Sums.{prefix_len-le-length}
use Rattle.json_order.specs.Json.{Json}
use Rattle.json_order.specs.Grammar.{is_plain}
use Rattle.json_order.specs.Fault.{strict}
use Rattle.json_order.specs.private.Machine.{Entries, Place, Frame, State, state, run_on, run, in_string, in_key, in_number, in_word, quote_step, going, part_step}
use Rattle.json_order.specs.private.AtOnce.{MovesPlain, TakesTo, TakesQuoted, parts_after, is_in_digits}
use Rattle.json_order.specs.declared.fault.JsonKind.{JsonKind}
use Rattle.json_order.specs.declared.place.Escape.{Escape}
use Rattle.json_order.specs.declared.place.Escape.TheVariants.{Outside}
use Rattle.json_order.specs.declared.place.Part.{Part}
use Rattle.json_order.specs.declared.place.Part.TheVariants.{Minus, Zero, Whole, Dot, Fraction, Mark, Sign, Exponent}
use Rattle.json_order.specs.declared.word.Word.{Word}
use Rattle.json_order.specs.declared.word.Word.TheVariants.{Null, True, False}
use Rattle.json_order.specs.private.Places.{letters_from}
use Rattle.json_order.proofs.Numbers.{IsInside, Goes, part_goes}
use Rattle.json_order.proofs.PlainRuns.{run_ends, run_plain}

-- PLAIN CHARACTERS

record Tests (c : ℕ) : Type 0 where
  pub quote : (c == 34) ≡ false
  pub slash : (c == 92) ≡ false
  pub low : nat_le 32 c ≡ true

tests : (c : ℕ) → is_plain c ≡ true → Tests c
tests c h = go (nat_le 32 c) (c == 34) (c == 92) refl refl refl h
  where
    go : (a b d : Bool) → nat_le 32 c ≡ a → (c == 34) ≡ b → (c == 92) ≡ d → (a && (not b && not d)) ≡ true → Tests c
    go true false false e f g h = record { quote = f; slash = g; low = e }
    go true true d e f g h = cc
    go true false true e f g h = cc
    go false b d e f g h = cc

plain_step : (text : List ℕ) (c : ℕ) → is_plain c ≡ true → quote_step text Outside c ≡ Some (going (text ++ encode_utf8 c) Outside)
plain_step text c h = let t = tests c h in rw (t.quote, t.slash, t.low) refl

pub plain_string : (cs text : List ℕ) (fs : List Frame) → AllByRecursion (λ c. is_plain c ≡ true) cs → run strict (Ok (state (in_string text Outside) fs)) cs ≡ Ok (state (in_string (text ++ encode_utf8_all cs) Outside) fs)
plain_string [] text fs h = ap (λ x. Ok (state (in_string x Outside) fs)) (sym (append-nil text))
plain_string (c ∷ cs) text fs h =
    rw (plain_step text c h.0) (plain_string cs (text ++ encode_utf8 c) fs h.1)
    ∙ ap (λ x. Ok (state (in_string x Outside) fs)) (append_assoc text (encode_utf8 c) (encode_utf8_all cs))

pub plain_key : (es : Entries) (cs text : List ℕ) (fs : List Frame) → AllByRecursion (λ c. is_plain c ≡ true) cs → run strict (Ok (state (in_key es text Outside) fs)) cs ≡ Ok (state (in_key es (text ++ encode_utf8_all cs) Outside) fs)
plain_key es [] text fs h = ap (λ x. Ok (state (in_key es x Outside) fs)) (sym (append-nil text))
plain_key es (c ∷ cs) text fs h =
    rw (plain_step text c h.0) (plain_key es cs (text ++ encode_utf8 c) fs h.1)
    ∙ ap (λ x. Ok (state (in_key es x Outside) fs)) (append_assoc text (encode_utf8 c) (encode_utf8_all cs))

-- a character all of whose bytes are plain is plain
plain_char : (c : ℕ) (rest : List ℕ) → AllByRecursion (λ b. is_plain b ≡ true) (encode_utf8 c ++ rest) → is_plain c ≡ true
plain_char c rest h = elim (cases_lt c 128) [ inl l ↦ (subst (λ x. AllByRecursion (λ b. is_plain b ≡ true) (x ++ rest)) (encode_ascii c l) h).0 | inr g ↦ wide c g ]
  where
    wide : (c : ℕ) → 128 ≤ c → is_plain c ≡ true
    wide c g = grind (arith, nat_tests)

behind_all : (xs ys : List ℕ) → AllByRecursion (λ b. is_plain b ≡ true) (xs ++ ys) → AllByRecursion (λ b. is_plain b ≡ true) ys
behind_all [] ys h = h
behind_all (x ∷ xs) ys h = behind_all xs ys h.1

plain_chars : (cs : List ℕ) → AllByRecursion (λ b. is_plain b ≡ true) (encode_utf8_all cs) → AllByRecursion (λ c. is_plain c ≡ true) cs
plain_chars [] h = tt
plain_chars (c ∷ cs) h = (plain_char c (encode_utf8_all cs) h, plain_chars cs (behind_all (encode_utf8 c) (encode_utf8_all cs) h))

-- plain bytes in front are plain characters
pub moves_plain : (old new bytes after : List ℕ) (n : ℕ) → IsUtf8 bytes → n ≡ prefix_len is_plain bytes → new ≡ old ++ take n bytes → after ≡ drop n bytes → MovesPlain old new bytes after
moves_plain old new bytes after n u r e f =
    let l : n ≤ length bytes = omega (arith, r, prefix_len-le-length is_plain bytes) in
    let h : AllByRecursion (λ b. is_plain b ≡ true) (take n bytes) = subst (λ k. AllByRecursion (λ b. is_plain b ≡ true) (take k bytes)) (sym r) (run_plain bytes) in
    let v = IsUtf8-take bytes n u (l, λ m g. let z = run_ends bytes n r m in absurd (omega arith)) in (
      v.0,
      sym (take-append-drop n bytes) ∙ ap (λ x. x ++ drop n bytes) (sym v.1.1) ∙ ap (λ x. encode_utf8_all v.0 ++ x) (sym f),
      plain_chars v.0 (subst (λ x. AllByRecursion (λ b. is_plain b ≡ true) x) (sym v.1.1) h),
      e ∙ ap (λ x. old ++ x) (sym v.1.1),
    )

takes_string : (old new before after : List ℕ) → MovesPlain old new before after → TakesTo (in_string old Outside) (in_string new Outside) before after
takes_string old new before after m = (m.0, m.1, λ fs. plain_string m.0 old fs m.2 ∙ ap (λ x. Ok (state (in_string x Outside) fs)) (sym m.3))

takes_key : (es : Entries) (old new before after : List ℕ) → MovesPlain old new before after → TakesTo (in_key es old Outside) (in_key es new Outside) before after
takes_key es old new before after m = (m.0, m.1, λ fs. plain_key es m.0 old fs m.2 ∙ ap (λ x. Ok (state (in_key es x Outside) fs)) (sym m.3))

-- ANY CHARACTERS OF A STRING

pub takes_plain : (old new before after : List ℕ) → MovesPlain old new before after → TakesQuoted old Outside new Outside before after
takes_plain old new before after m = (takes_string old new before after m, λ es. takes_key es old new before after m)

pub run_append : (o : Result State JsonKind) (xs ys : List ℕ) → run strict o (xs ++ ys) ≡ run strict (run strict o xs) ys
run_append o [] ys = refl
run_append o (x ∷ xs) ys = run_append (run_on strict o x) xs ys

takes_more : (p q r : Place) (before mid after : List ℕ) → TakesTo p q before mid → TakesTo q r mid after → TakesTo p r before after
takes_more p q r before mid after t u = (
  t.0 ++ u.0,
  t.1 ∙ ap (λ x. encode_utf8_all t.0 ++ x) u.1 ∙ sym (append_assoc (encode_utf8_all t.0) (encode_utf8_all u.0) after) ∙ ap (λ x. x ++ after) (sym (encodes-append t.0 u.0)),
  λ fs. run_append (Ok (state p fs)) t.0 u.0 ∙ ap (λ o. run strict o u.0) (t.2 fs) ∙ u.2 fs,
)

pub quoted_more : (a b d : List ℕ) (e f g : Escape) (before mid after : List ℕ) → TakesQuoted a e b f before mid → TakesQuoted b f d g mid after → TakesQuoted a e d g before after
quoted_more a b d e f g before mid after t u = (
  takes_more (in_string a e) (in_string b f) (in_string d g) before mid after t.0 u.0,
  λ es. takes_more (in_key es a e) (in_key es b f) (in_key es d g) before mid after (t.1 es) (u.1 es),
)

-- NUMBERS

pub number_run : (cs text : List ℕ) (p q : Part) (fs : List Frame) → parts_after p cs ≡ Some q → run strict (Ok (state (in_number text p) fs)) cs ≡ Ok (state (in_number (text ++ cs) q) fs)
number_run [] text p q fs h =
    let same : p ≡ q = cc in
    rw same (ap (λ x. Ok (state (in_number x q) fs)) (sym (append-nil text)))
number_run (c ∷ cs) text p q fs h = go (part_step p c) refl h (λ r e. number_run cs (text ++ c ∷ []) r q fs e)
  where
    go : (o : Option Part) → part_step p c ≡ o → option_and_then (λ r. parts_after r cs) o ≡ Some q → ((r : Part) → parts_after r cs ≡ Some q → run strict (Ok (state (in_number (text ++ c ∷ []) r) fs)) cs ≡ Ok (state (in_number ((text ++ c ∷ []) ++ cs) q) fs)) → run strict (Ok (state (in_number text p) fs)) (c ∷ cs) ≡ Ok (state (in_number (text ++ c ∷ cs) q) fs)
    go None e h more = cc
    go (Some r) e h more =
        rw e (more r h)
        ∙ ap (λ x. Ok (state (in_number x q) fs)) (append_assoc text (c ∷ []) cs)

pub parts_append : (xs ys : List ℕ) (p q r : Part) → parts_after p xs ≡ Some q → parts_after q ys ≡ Some r → parts_after p (xs ++ ys) ≡ Some r
parts_append [] ys p q r h e = let same : p ≡ q = cc in rw same e
parts_append (x ∷ xs) ys p q r h e = go (part_step p x) h (λ t g. parts_append xs ys t q r g e)
  where
    go : (o : Option Part) → option_and_then (λ t. parts_after t xs) o ≡ Some q → ((t : Part) → parts_after t xs ≡ Some q → parts_after t (xs ++ ys) ≡ Some r) → option_and_then (λ t. parts_after t (xs ++ ys)) o ≡ Some r
    go None h more = cc
    go (Some t) h more = more t h

digit_stays : (q : Part) (c : ℕ) → is_in_digits q ≡ true → is_ascii_digit c ≡ true → part_step q c ≡ Some q
digit_stays Whole c h d = rw d refl
digit_stays Fraction c h d = rw d refl
digit_stays Exponent c h d = rw d refl
digit_stays Minus c h d = cc
digit_stays Zero c h d = cc
digit_stays Dot c h d = cc
digit_stays Mark c h d = cc
digit_stays Sign c h d = cc

digits_stay : (cs : List ℕ) (q : Part) → is_in_digits q ≡ true → AllByRecursion (λ c. is_ascii_digit c ≡ true) cs → parts_after q cs ≡ Some q
digits_stay [] q h d = refl
digits_stay (c ∷ cs) q h d = ap (λ o. option_and_then (λ r. parts_after r cs) o) (digit_stays q c h d.0) ∙ digits_stay cs q h d.1

-- digits behind a number that goes on with them
pub parts_digits : (bytes : List ℕ) (n m : ℕ) (p q : Part) → parts_after p (take n bytes) ≡ Some q → is_in_digits q ≡ true → All (λ c. is_ascii_digit c ≡ true) (take m (drop n bytes)) → parts_after p (take (n + m) bytes) ≡ Some q
parts_digits bytes n m p q h d all =
    ap (parts_after p) (take-add n m bytes)
    ∙ parts_append (take n bytes) (take m (drop n bytes)) p q q h (digits_stay (take m (drop n bytes)) q d (recursion_from_All (λ c. is_ascii_digit c ≡ true) (take m (drop n bytes)) all))

pub parts_more : (cs : List ℕ) (c : ℕ) (p q r : Part) → parts_after p cs ≡ Some q → part_step q c ≡ Some r → parts_after p (cs ++ c ∷ []) ≡ Some r
parts_more [] c p q r h e = let same : p ≡ q = cc in rw (same, e) refl
parts_more (x ∷ cs) c p q r h e = go (part_step p x) h (λ t g. parts_more cs c t q r g e)
  where
    go : (o : Option Part) → option_and_then (λ t. parts_after t cs) o ≡ Some q → ((t : Part) → parts_after t cs ≡ Some q → parts_after t (cs ++ c ∷ []) ≡ Some r) → option_and_then (λ t. parts_after t (cs ++ c ∷ [])) o ≡ Some r
    go None h more = cc
    go (Some t) h more = more t h

-- the characters of a number are bytes
number_ascii : (cs : List ℕ) (p q : Part) → parts_after p cs ≡ Some q → AllByRecursion (λ c. c < 128) cs
number_ascii [] p q h = tt
number_ascii (c ∷ cs) p q h = go (part_step p c) (part_goes p c) h (λ r e. number_ascii cs r q e)
  where
    small : IsInside c → c < 128
    small (inl a) = omega arith
    small (inr (inl b)) = omega arith
    small (inr (inr (inl d))) = omega arith
    small (inr (inr (inr d))) = omega arith

    go : (o : Option Part) → Goes c o → option_and_then (λ r. parts_after r cs) o ≡ Some q → ((r : Part) → parts_after r cs ≡ Some q → AllByRecursion (λ x. x < 128) cs) → (c < 128) × AllByRecursion (λ x. x < 128) cs
    go None g e more = cc
    go (Some r) g e more = (small g, more r e)

ascii : (cs : List ℕ) (p q : Part) → parts_after p cs ≡ Some q → IsAscii cs
ascii cs p q h = IsAscii-from_all cs (All-from_recursion (λ c. c < 128) cs (number_ascii cs p q h))

pub takes_number : (old new bytes after : List ℕ) (n : ℕ) (p q : Part) → parts_after p (take n bytes) ≡ Some q → new ≡ old ++ take n bytes → after ≡ drop n bytes → TakesTo (in_number old p) (in_number new q) bytes after
takes_number old new bytes after n p q h e f =
    let small = encodes-IsAscii (take n bytes) (ascii (take n bytes) p q h) in (
      take n bytes,
      sym (take-append-drop n bytes) ∙ ap (λ x. take n bytes ++ x) (sym f) ∙ ap (λ x. x ++ after) (sym small),
      λ fs. number_run (take n bytes) old p q fs h ∙ ap (λ x. Ok (state (in_number x q) fs)) (sym e),
    )

pub front_more : (n c : ℕ) (cs : List ℕ) → take (n + 1) (c ∷ cs) ≡ c ∷ take n cs
front_more n c cs = let e : n + 1 ≡ suc n = omega arith in subst (λ m. take m (c ∷ cs) ≡ c ∷ take n cs) (sym e) refl

pub back_more : (n c : ℕ) (cs : List ℕ) → drop (n + 1) (c ∷ cs) ≡ drop n cs
back_more n c cs = let e : n + 1 ≡ suc n = omega arith in subst (λ m. drop m (c ∷ cs) ≡ drop n cs) (sym e) refl

-- a text may be cut behind a number
pub number_cut : (c : ℕ) (rest begun : List ℕ) (n : ℕ) (p q : Part) → IsUtf8 rest → c < 128 → rest ≡ c ∷ begun → n ≤ length begun → parts_after p (take n begun) ≡ Some q → IsCharBoundary rest (n + 1)
number_cut c rest begun n p q u small e l h =
    let all = IsAscii-from_all (c ∷ take n begun) (All-from_recursion (λ b. b < 128) (c ∷ take n begun) (small, number_ascii (take n begun) p q h)) in
    let front : take (n + 1) rest ≡ c ∷ take n begun = ap (λ x. take (n + 1) x) e ∙ front_more n c begun in
    IsCharBoundary-from_take rest (n + 1) u (let m = ap length e in omega (arith, m, l)) (subst IsUtf8 (sym front) (IsUtf8-from_ascii (c ∷ take n begun) all))

-- WORDS

pub word_run : (ls : List ℕ) (v : Json) (fs : List Frame) → run strict (Ok (state (in_word ls v) fs)) ls ≡ Ok (state (in_word [] v) fs)
word_run [] v fs = refl
word_run (l ∷ ls) v fs = rw (eq-eqb l l refl) (word_run ls v fs)

pub word_ascii : (w : Word) → encode_utf8_all (letters_from w 1) ≡ letters_from w 1
unfolding lib.Utf8.encode
word_ascii Null = refl
word_ascii True = refl
word_ascii False = refl
