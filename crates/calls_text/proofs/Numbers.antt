-- A number that is read is spelled so, and a number that is spelled is read.
use Rattle.std.proofs.Common.{◌≡◌, ℕ, zero, suc, ◌+◌, ◌-◌, ◌*◌, ◌^◌, ◌≤◌, ◌<◌, Bool, true, false, not, ◌&&◌, ◌||◌, cond, ltb, leb, eqb, List, [], ◌∷◌, ◌++◌, take, drop, drop-cons, length, get_or, Option, Some, None, refl, sym, ap, ◌∙◌, append-nil, inl, inr, arith, rules}
use Rattle.std.specs.Prelude.{decimal}
use Rattle.std.specs.Char.{is_ascii_digit}
use Rattle.std.specs.Str.{all_ascii_digits}
use Rattle.std.proofs.lemmas.Bool.{and_parts, and_from, or_cases, not-true, lt-ltb, ltb-true, le-leb, leb-true, eqb-false, ne_eqb}
use Rattle.std.proofs.Math.Bool.{or-true}
use Rattle.std.proofs.lemmas.Option.{cond_some, same_Some}
use Rattle.std.proofs.lemmas.List.{get_or_append_left, length-append}
use Rattle.std.proofs.lemmas.Str.Parse.{IsNumeralModel, numerals_by_fold, tells_all_ascii_digits, digits_value_short}
use Rattle.std.proofs.lemmas.Fmt.{decimal-digits_value, digits_decimal, digits_value-decimal, length-decimal-le, decimal_nonempty, first_decimal, decimal_digit}
use Rattle.calls_text.specs.declared.fault.PartFault.{PartFault}
use Rattle.calls_text.specs.declared.fault.PartFault.TheVariants.{Bad, Memory}
use Rattle.calls_text.specs.private.Reading.{◌>>=◌, digits_on, is_short, number_parsed, number_within_at, digits_front, NoDigit, IsFirstNumber, PartFails}
use Rattle.calls_text.proofs.Cuts.{Lacks, rest_is}

-- the value of digits, after the number so far
abbrev read_on : ℕ → List ℕ → ℕ
read_on n [] = n
read_on n (c ∷ cs) = read_on (n * 10 + (c - 48)) cs

own : IsNumeralModel (λ ds. all_ascii_digits ds ≡ true) (read_on 0)
own = numerals_by_fold _ tells_all_ascii_digits read_on (search rules)

-- a test that passed, before a step that did not fail
pub tested : {A : Type 0} (b : Bool) (o : Option A) (x : A) → cond b o None ≡ Some x → (b ≡ true) × (o ≡ Some x)
tested true o x e = (refl, e)
tested false o x e = absurd cc

-- the value of a step that did not fail
pub bind_some : {A B : Type 0} (r : Option A) (f : A → Option B) (y : B) → (r >>= f) ≡ Some y → (x : A) × (r ≡ Some x) × (f x ≡ Some y)
bind_some (Some x) f y e = (x, refl, e)
bind_some None f y e = absurd cc

digits_take : (n : ℕ) (ds : List ℕ) (v : ℕ) → digits_on n ds ≡ Some v → (all_ascii_digits ds ≡ true) × (read_on n ds ≡ v)
digits_take n [] v e = (refl, same_Some n v e)
digits_take n (c ∷ cs) v e =
    let p = tested (is_ascii_digit c) (digits_on (n * 10 + (c - 48)) cs) v e in
    let q = digits_take (n * 10 + (c - 48)) cs v p.1 in
    (and_from _ _ p.0 q.0, q.1)

digits_again : (n : ℕ) (ds : List ℕ) → all_ascii_digits ds ≡ true → digits_on n ds ≡ Some (read_on n ds)
digits_again n [] h = refl
digits_again n (c ∷ cs) h =
    let p = and_parts (is_ascii_digit c) (all_ascii_digits cs) h in
    rw p.0 (digits_again (n * 10 + (c - 48)) cs p.1)

alone : (text : List ℕ) → (leb (length text) 1 || not (eqb (get_or text 0 0) 48)) ≡ true → 0 < length text → get_or text 0 0 ≡ 48 → length text ≡ 1
alone text h some zero_first =
    elim (or_cases (leb (length text) 1) (not (eqb (get_or text 0 0) 48)) h) [
      | inl one ↦ let le = leb-true _ _ one in omega (arith, le)
      | inr other ↦ absurd (eqb-false _ _ (not-true _ other) zero_first)
    ]

pub number_takes : (text : List ℕ) (n : ℕ) → number_parsed text ≡ Some n → (text ≡ decimal n) × (n < 10000000000000000000)
unfolding number_parsed
number_takes text n e =
    let p = tested (is_short text) (digits_on 0 text) n e in
    let q = and_parts (ltb 0 (length text) && leb (length text) 19) (leb (length text) 1 || not (eqb (get_or text 0 0) 48)) p.0 in
    let r = and_parts (ltb 0 (length text)) (leb (length text) 19) q.0 in
    let some : 0 < length text = ltb-true _ _ r.0 in
    let most : length text ≤ 19 = leb-true _ _ r.1 in
    let d = digits_take 0 text n p.1 in
    let small : read_on 0 text < 10 ^ 19 = digits_value_short own text 19 d.0 most in
    let same = decimal-digits_value own text d.0 some (alone text q.1 some) (omega (arith, small)) in
    (sym same ∙ ap decimal d.1, omega (arith, small, d.1))

first_digit : (n : ℕ) → n < 10000000000000000000 → (leb (length (decimal n)) 1 || not (eqb (get_or (decimal n) 0 0) 48)) ≡ true
first_digit zero h = rw (decimal_digit 0 (omega arith)) refl
first_digit (suc n) h =
    let above = first_decimal (suc n) (omega arith) (omega arith) in
    let e : eqb (get_or (decimal (suc n)) 0 0) 48 ≡ false = ne_eqb _ _ (λ same. omega (arith, above, same)) in
    rw e (or-true (leb (length (decimal (suc n))) 1))

pub number_again : (n : ℕ) → n < 10000000000000000000 → number_parsed (decimal n) ≡ Some n
unfolding number_parsed
number_again n h =
    let some = lt-ltb _ _ (decimal_nonempty n (omega arith)) in
    let most = le-leb _ _ (length-decimal-le 19 n (omega arith) (omega arith) (omega arith)) in
    let short : is_short (decimal n) ≡ true = and_from (ltb 0 (length (decimal n)) && leb (length (decimal n)) 19) _ (and_from _ _ some most) (first_digit n h) in
    rw short (digits_again 0 (decimal n) (digits_decimal own n (omega arith)) ∙ ap (λ (m : ℕ). Some m) (digits_value-decimal own n (omega arith)))

pub within_takes : (least most : ℕ) (text : List ℕ) (n : ℕ) → number_within_at least most text ≡ Some n → (text ≡ decimal n) × (least ≤ n) × (n ≤ most)
unfolding number_within_at
within_takes least most text n e =
    let b = bind_some (number_parsed text) (λ m. cond (leb least m && leb m most) (Some m) None) n e in
    let p = cond_some (leb least b.0 && leb b.0 most) b.0 n b.2 in
    let q = and_parts (leb least b.0) (leb b.0 most) p.0 in
    let low = leb-true _ _ q.0 in
    let high = leb-true _ _ q.1 in
    ((number_takes text b.0 b.1).0 ∙ ap decimal p.1, omega (arith, low, p.1), omega (arith, high, p.1))

pub within_again : (least most n : ℕ) → least ≤ n → n ≤ most → most < 10000000000000000000 → number_within_at least most (decimal n) ≡ Some n
unfolding number_within_at
within_again least most n low high small = rw (number_again n (omega arith), le-leb _ _ low, le-leb _ _ high) refl

digits_lack : (c : ℕ) (ds : List ℕ) → is_ascii_digit c ≡ false → all_ascii_digits ds ≡ true → Lacks c ds
digits_lack c [] outside h = tt
digits_lack c (x ∷ xs) outside h =
    let p = and_parts (is_ascii_digit x) (all_ascii_digits xs) h in
    (λ same. absurd (let e : is_ascii_digit c ≡ true = ap is_ascii_digit (sym same) ∙ p.0 in cc), digits_lack c xs outside p.1)

-- digits alone stand in a number
pub decimal_lacks : (c n : ℕ) → is_ascii_digit c ≡ false → n < 10000000000000000000 → Lacks c (decimal n)
decimal_lacks c n outside h = digits_lack c (decimal n) outside (digits_decimal own n (omega arith))

-- ---- the number at the front of a text

abbrev counted : ℕ → List ℕ → ℕ × List ℕ
counted n rest = (n, rest)

-- more digits make no smaller number
pub front_above : (n : ℕ) (text : List ℕ) → n ≤ (digits_front n text).0
front_above n [] = omega arith
front_above n (c ∷ cs) =
    elim (is_ascii_digit c) as (λ b. n ≤ (cond b (digits_front (n * 10 + (c - 48)) cs) (counted n (c ∷ cs))).0) [
      | true ↦ let h = front_above (n * 10 + (c - 48)) cs in omega (arith, h)
      | false ↦ omega arith
    ]

-- digits at the front, their number, and what follows
record FrontParts (n : ℕ) (text : List ℕ) (value : ℕ) (rest : List ℕ) : Type 0 where
  digits : List ℕ
  parts : text ≡ digits ++ rest
  are_digits : all_ascii_digits digits ≡ true
  value_is : read_on n digits ≡ value

front_parts : (n : ℕ) (text : List ℕ) → FrontParts n text (digits_front n text).0 (digits_front n text).1
front_parts n [] = record { digits = []; parts = refl; are_digits = refl; value_is = refl }
front_parts n (c ∷ cs) =
    let p = front_parts (n * 10 + (c - 48)) cs in
    elim (is_ascii_digit c) as (λ b. is_ascii_digit c ≡ b → FrontParts n (c ∷ cs) (cond b (digits_front (n * 10 + (c - 48)) cs) (counted n (c ∷ cs))).0 (cond b (digits_front (n * 10 + (c - 48)) cs) (counted n (c ∷ cs))).1) [
      | true ↦ λ is. record { digits = c ∷ p.digits; parts = ap (λ (xs : List ℕ). c ∷ xs) p.parts; are_digits = and_from _ _ is p.are_digits; value_is = p.value_is }
      | false ↦ λ is. record { digits = []; parts = refl; are_digits = refl; value_is = refl }
    ] refl

front_again : (n : ℕ) (ds rest : List ℕ) → all_ascii_digits ds ≡ true → NoDigit rest → digits_front n (ds ++ rest) ≡ counted (read_on n ds) rest
front_again n [] [] h none = refl
front_again n [] (c ∷ cs) h none = rw none refl
front_again n (d ∷ ds) rest h none =
    let p = and_parts (is_ascii_digit d) (all_ascii_digits ds) h in
    rw p.0 (front_again (n * 10 + (d - 48)) ds rest p.1 none)

-- a number and no digit after it is what the digits at the front spell
pub front_is : (least most : ℕ) (text : List ℕ) (n : ℕ) (rest : List ℕ) → most < 1000000000000000000 → IsFirstNumber least most text n rest → NoDigit rest → digits_front 0 text ≡ counted n rest
front_is least most text n rest small is none =
    let h : n < 18446744073709551616 = omega (arith, is.high) in
    ap (digits_front 0) is.text_is ∙ front_again 0 (decimal n) rest (digits_decimal own n h) none ∙ ap (λ (m : ℕ). counted m rest) (digits_value-decimal own n h)

front_cons : (c : ℕ) (cs : List ℕ) → is_ascii_digit c ≡ true → digits_front 0 (c ∷ cs) ≡ digits_front (c - 48) cs
front_cons c cs is = let zero : 0 * 10 + (c - 48) ≡ c - 48 = omega arith in rw is (ap (λ (m : ℕ). digits_front m cs) zero)

-- what the first digit spells, and those after it
pub front_after : (first : ℕ) (text : List ℕ) → 1 ≤ length text → 49 ≤ get_or text 0 0 → get_or text 0 0 ≤ 57 → first ≡ get_or text 0 0 - 48 → digits_front first (take (length text - 1) (drop 1 text)) ≡ digits_front 0 text
front_after first [] some low high e = absurd (omega arith)
front_after first (c ∷ cs) some low high e =
    let is : is_ascii_digit c ≡ true = and_from _ _ (le-leb 48 c (omega arith)) (le-leb c 57 high) in
    ap (λ (m : ℕ). digits_front m (take (length (c ∷ cs) - 1) (drop 1 (c ∷ cs)))) e ∙ (ap (digits_front (c - 48)) (rest_is 1 (c ∷ cs)) ∙ sym (front_cons c cs is))

-- what the digits at the front spell, where the first of them is no zero
pub front_spelled : (least most : ℕ) (text : List ℕ) (n : ℕ) (rest : List ℕ) → 1 ≤ length text → 49 ≤ get_or text 0 0 → get_or text 0 0 ≤ 57 → most < 1000000000000000000 → counted n rest ≡ digits_front 0 text → least ≤ n → n ≤ most → IsFirstNumber least most text n rest
front_spelled least most [] n rest some low high small e above few = absurd (omega arith)
front_spelled least most (c ∷ cs) n rest some low high small e above few =
    let is : is_ascii_digit c ≡ true = and_from _ _ (le-leb 48 c (omega arith)) (le-leb c 57 high) in
    let p = front_parts (c - 48) cs in
    let whole : counted n rest ≡ digits_front (c - 48) cs = e ∙ front_cons c cs is in
    let zero : 0 * 10 + (c - 48) ≡ c - 48 = omega arith in
    let value : read_on 0 (c ∷ p.digits) ≡ n = ap (λ (m : ℕ). read_on m p.digits) zero ∙ (p.value_is ∙ ap (λ (q : ℕ × List ℕ). q.0) (sym whole)) in
    let same : decimal (read_on 0 (c ∷ p.digits)) ≡ c ∷ p.digits = decimal-digits_value own (c ∷ p.digits) (and_from _ _ is p.are_digits) (omega arith) (λ z. absurd (omega arith)) (omega (arith, value)) in
    let parts : c ∷ cs ≡ (c ∷ p.digits) ++ rest = ap (λ (xs : List ℕ). c ∷ xs) (p.parts ∙ ap (λ (q : ℕ × List ℕ). p.digits ++ q.1) (sym whole)) in
    record { text_is = parts ∙ ap (λ (xs : List ℕ). xs ++ rest) (sym same ∙ ap decimal value); low = above; high = few }

-- the number that the digits at the front spell is the only one
pub front_found : (least most : ℕ) (text : List ℕ) (m : ℕ) (r : List ℕ) (n : ℕ) (rest : List ℕ) → counted m r ≡ digits_front 0 text → most < 1000000000000000000 → IsFirstNumber least most text n rest → NoDigit rest → (m ≡ n) × (r ≡ rest)
front_found least most text m r n rest e small is none =
    let same : counted m r ≡ counted n rest = e ∙ front_is least most text n rest small is none in
    (ap (λ (q : ℕ × List ℕ). q.0) same, ap (λ (q : ℕ × List ℕ). q.1) same)

-- a front whose number is above the greatest is no front of a number up to it
pub front_high : (least most : ℕ) (text : List ℕ) (n : ℕ) (rest : List ℕ) → most < (digits_front 0 text).0 → most < 1000000000000000000 → IsFirstNumber least most text n rest → NoDigit rest → ⊥
front_high least most text n rest above small is none =
    let same = ap (λ (q : ℕ × List ℕ). q.0) (front_is least most text n rest small is none) in
    omega (arith, above, same, is.high)

-- one digit more
pub front_step : (n : ℕ) (text : List ℕ) (i : ℕ) → i < length text → is_ascii_digit (get_or text i 0) ≡ true → digits_front n (drop i text) ≡ digits_front (n * 10 + (get_or text i 0 - 48)) (drop (i + 1) text)
front_step n text i lt is =
    let next : suc i ≡ i + 1 = omega arith in
    let head : digits_front n (get_or text i 0 ∷ drop (suc i) text) ≡ digits_front (n * 10 + (get_or text i 0 - 48)) (drop (suc i) text) = rw is refl in
    ap (digits_front n) (drop-cons text i 0 lt) ∙ (head ∙ ap (λ (j : ℕ). digits_front (n * 10 + (get_or text i 0 - 48)) (drop j text)) next)

-- the first byte of a number
pub record StartsNumber (text : List ℕ) (n : ℕ) : Type 0 where
  pub some : 0 < length text
  pub low : 48 ≤ get_or text 0 0
  pub high : get_or text 0 0 ≤ 57
  pub zero : get_or text 0 0 ≡ 48 → n ≡ 0

digit_bounds : (c : ℕ) → is_ascii_digit c ≡ true → (48 ≤ c) × (c ≤ 57)
digit_bounds c h = let p = and_parts (leb 48 c) (leb c 57) h in (leb-true _ _ p.0, leb-true _ _ p.1)

first_bounds : (ds : List ℕ) → all_ascii_digits ds ≡ true → 0 < length ds → (48 ≤ get_or ds 0 0) × (get_or ds 0 0 ≤ 57)
first_bounds [] h some = absurd (omega arith)
first_bounds (d ∷ ds) h some = digit_bounds d (and_parts (is_ascii_digit d) (all_ascii_digits ds) h).0

no_zero : (n : ℕ) → n < 18446744073709551616 → get_or (decimal n) 0 0 ≡ 48 → n ≡ 0
no_zero zero h e = refl
no_zero (suc n) h e = let above = first_decimal (suc n) (omega arith) h in absurd (omega (arith, above, e))

pub starts : (least most : ℕ) (text : List ℕ) (n : ℕ) (rest : List ℕ) → most < 1000000000000000000 → IsFirstNumber least most text n rest → StartsNumber text n
starts least most text n rest small is =
    let h : n < 18446744073709551616 = omega (arith, is.high) in
    let some = decimal_nonempty n h in
    let first : get_or text 0 0 ≡ get_or (decimal n) 0 0 = ap (λ (xs : List ℕ). get_or xs 0 0) is.text_is ∙ get_or_append_left (decimal n) rest 0 0 some in
    let b = first_bounds (decimal n) (digits_decimal own n h) some in
    record {
      some = omega (arith, some, ap length is.text_is, length-append (decimal n) rest);
      low = omega (arith, b.0, first);
      high = omega (arith, b.1, first);
      zero = λ e. no_zero n h (sym first ∙ e);
    }

-- a zero in front is the number
pub zero_front : (least most : ℕ) (text : List ℕ) (n : ℕ) (rest : List ℕ) → 1 ≤ length text → get_or text 0 0 ≡ 48 → most < 1000000000000000000 → IsFirstNumber least most text n rest → (0 ≡ n) × (take (length text - 1) (drop 1 text) ≡ rest)
zero_front least most [] n rest some e small is = absurd (omega arith)
zero_front least most (c ∷ cs) n rest some e small is =
    let z = (starts least most (c ∷ cs) n rest small is).zero e in
    let whole : c ∷ cs ≡ 48 ∷ rest = is.text_is ∙ (ap (λ (m : ℕ). decimal m ++ rest) z ∙ ap (λ (xs : List ℕ). xs ++ rest) (decimal_digit 0 (omega arith))) in
    (sym z, rest_is 1 (c ∷ cs) ∙ ap (drop 1) whole)

pub zero_spelled : (least most : ℕ) (text : List ℕ) → 1 ≤ length text → get_or text 0 0 ≡ 48 → least ≡ 0 → IsFirstNumber least most text 0 (take (length text - 1) (drop 1 text))
zero_spelled least most [] some e none = absurd (omega arith)
zero_spelled least most (c ∷ cs) some e none =
    let rest = take (length (c ∷ cs) - 1) (drop 1 (c ∷ cs)) in
    let tail : cs ≡ rest = sym (rest_is 1 (c ∷ cs)) in
    record { text_is = ap (λ (x : ℕ). x ∷ cs) e ∙ (ap (λ (xs : List ℕ). 48 ∷ xs) tail ∙ ap (λ (xs : List ℕ). xs ++ rest) (sym (decimal_digit 0 (omega arith)))); low = omega arith; high = omega arith }

-- ---- numbers by their fronts

pub none_by : {A : Type 0} (o : Option A) → ((x : A) → o ≡ Some x → ⊥) → o ≡ None
none_by None h = refl
none_by (Some x) h = absurd (h x refl)

-- a number that is a whole text is at its front, and nothing follows
pub within_front : (least most : ℕ) (text : List ℕ) (n : ℕ) → number_within_at least most text ≡ Some n → IsFirstNumber least most text n []
within_front least most text n h =
    let w = within_takes least most text n h in
    record { text_is = w.0 ∙ sym (append-nil (decimal n)); low = w.1; high = w.2 }

pub within_by : (least most : ℕ) (text : List ℕ) (n : ℕ) (rest : List ℕ) → most < 1000000000000000000 → length rest < 1 → IsFirstNumber least most text n rest → number_within_at least most text ≡ Some n
within_by least most text n [] small none is = ap (number_within_at least most) (is.text_is ∙ append-nil (decimal n)) ∙ within_again least most n is.low is.high (omega arith)
within_by least most text n (x ∷ rest) small none is = absurd (omega arith)

-- a text at whose front no number is found is no number
pub bad_within : (least most : ℕ) (text : List ℕ) (fault : PartFault) → ((n : ℕ) → IsFirstNumber least most text n [] → ⊥) → PartFails fault (number_within_at least most text)
bad_within least most text Memory none = tt
bad_within least most text Bad none = none_by (number_within_at least most text) (λ n h. none n (within_front least most text n h))
