-- A string's spelling: it spells one text, and runs up to its closing quote whatever follows.
use Rattle.std.specs.Prelude.{◌==◌}
use Rattle.std.specs.Char.{IsScalar, digit_value}
use Rattle.std.specs.Char.Utf16.{surrogate_pair_char}
use Rattle.std.proofs.Common.{ℕ, zero, suc, ◌+◌, ◌*◌, ◌<◌, ◌≡◌, Bool, true, false, List, [], ◌∷◌, ◌++◌, Some, refl, sym, ap, ◌∙◌, subst, arith, append_assoc}
use Rattle.std.proofs.lemmas.Bool.Decides.{nat_tests}
use Rattle.json_order.specs.Grammar.{is_plain, short_escape, IsHex, IsUnit, is_high_surrogate, IsCharacter, plain, short, one_unit, two_units, AreCharacters}
use Rattle.rtapp_dialect.specs.Filling.{quote_after}
use Rattle.rtapp_dialect.specs.declared.spot.Quote.{Quote}
use Rattle.rtapp_dialect.specs.declared.spot.Quote.TheVariants.{Closed, Open, Escaped}

-- ONE TEXT

hex_one : (count high n k : ℕ) (z t u : List ℕ) → IsHex count high n z t → IsHex count high k z u → (n ≡ k) × (t ≡ u)
hex_one zero high n k z t u (a, b) (c, d) = (a ∙ sym c, sym b ∙ d)
hex_one (suc count) high n k z t u (x, mid, e, s, h) (y, mid2, f, v, g) =
    let same : y ≡ x = cc in
    let rest : mid2 ≡ mid = cc in
    hex_one count (16 * high + digit_value x) n k mid t u h
    (subst (λ (w : List ℕ). IsHex count (16 * high + digit_value x) k w u) rest (subst (λ (w : ℕ). IsHex count (16 * high + digit_value w) k mid2 u) same g))

unit_one : (n k : ℕ) (z t u : List ℕ) → IsUnit n z t → IsUnit k z u → (n ≡ k) × (t ≡ u)
unit_one n k z t u (mid, e, h) (mid2, f, g) =
    let rest : mid2 ≡ mid = cc in hex_one 4 0 n k mid t u h (subst (λ (w : List ℕ). IsHex 4 0 k w u) rest g)

no_slash_plain : (c : ℕ) → c ≡ 92 → is_plain c ≡ true → ⊥
no_slash_plain c e h = grind (arith, nat_tests)

no_quote_plain : (c : ℕ) → c ≡ 34 → is_plain c ≡ true → ⊥
no_quote_plain c e h = grind (arith, nat_tests)

no_short_unit : (e c : ℕ) → e ≡ 117 → short_escape e ≡ Some c → ⊥
no_short_unit e c f h = let g : short_escape 117 ≡ Some c = subst (λ (x : ℕ). short_escape x ≡ Some c) f h in cc

no_scalar : (c : ℕ) → IsScalar c → is_high_surrogate c ≡ true → ⊥
no_scalar c s h = grind (arith, nat_tests)

unit_short : (n e c : ℕ) (z t u : List ℕ) → IsUnit n z t → short_escape e ≡ Some c → z ≡ 92 ∷ e ∷ u → ⊥
unit_short n e c z t u (mid, f, h) s g = let at : e ≡ 117 = cc in no_short_unit e c at s

unit_plain : (n c : ℕ) (z t u : List ℕ) → IsUnit n z t → is_plain c ≡ true → z ≡ c ∷ u → ⊥
unit_plain n c z t u (mid, f, h) p g = let at : c ≡ 92 = cc in no_slash_plain c at p

character_one : (c d : ℕ) (z t u : List ℕ) → IsCharacter c z t → IsCharacter d z u → (c ≡ d) × (t ≡ u)
character_one c d z t u (plain p e) (plain r f) = let a : c ≡ d = cc in let b : t ≡ u = cc in (a, b)
character_one c d z t u (plain p e) (short x s f) = let a : c ≡ 92 = cc in absurd (no_slash_plain c a p)
character_one c d z t u (plain p e) (one_unit s v) = absurd (unit_plain d c z u t v p e)
character_one c d z t u (plain p e) (two_units high low m h l q v w) = absurd (unit_plain high c z m t v p e)
character_one c d z t u (short x s e) (plain r f) = let a : d ≡ 92 = cc in absurd (no_slash_plain d a r)
character_one c d z t u (short x s e) (short y r f) =
    let a : y ≡ x = cc in let b : t ≡ u = cc in
    let g : short_escape x ≡ Some d = subst (λ (w : ℕ). short_escape w ≡ Some d) a r in
    let same : c ≡ d = cc in (same, b)
character_one c d z t u (short x s e) (one_unit r v) = absurd (unit_short d x c z u t v s e)
character_one c d z t u (short x s e) (two_units high low m h l q v w) = absurd (unit_short high x c z m t v s e)
character_one c d z t u (one_unit s v) (plain r f) = absurd (unit_plain c d z t u v r f)
character_one c d z t u (one_unit s v) (short y r f) = absurd (unit_short c y d z t u v r f)
character_one c d z t u (one_unit s v) (one_unit r w) = unit_one c d z t u v w
character_one c d z t u (one_unit s v) (two_units high low m h l q w x) =
    let a = unit_one c high z t m v w in absurd (no_scalar c s (subst (λ (y : ℕ). is_high_surrogate y ≡ true) (sym a.0) h))
character_one c d z t u (two_units high low m h l q v w) (plain r f) = absurd (unit_plain high d z m u v r f)
character_one c d z t u (two_units high low m h l q v w) (short y r f) = absurd (unit_short high y d z m u v r f)
character_one c d z t u (two_units high low m h l q v w) (one_unit r x) =
    let a = unit_one high d z m u v x in absurd (no_scalar d r (subst (λ (y : ℕ). is_high_surrogate y ≡ true) a.0 h))
character_one c d z t u (two_units high low m h l q v w) (two_units high2 low2 m2 h2 l2 q2 v2 w2) =
    let a = unit_one high high2 z m m2 v v2 in
    let b = unit_one low low2 m t u w (subst (λ (x : List ℕ). IsUnit low2 x u) (sym a.1) w2) in
    (q ∙ ap (λ (x : ℕ). surrogate_pair_char x low) a.0 ∙ ap (λ (x : ℕ). surrogate_pair_char high2 x) b.0 ∙ sym q2, b.1)

slash_no_quote : (z mid u : List ℕ) → z ≡ 92 ∷ 117 ∷ mid → z ≡ 34 ∷ u → ⊥
slash_no_quote z mid u e f = cc

unit_end : (n : ℕ) (z t u : List ℕ) → IsUnit n z t → z ≡ 34 ∷ u → ⊥
unit_end n z t u (mid, e, h) f = slash_no_quote z mid u e f

escape_no_quote : (z t u : List ℕ) (x : ℕ) → z ≡ 92 ∷ x ∷ t → z ≡ 34 ∷ u → ⊥
escape_no_quote z t u x e f = cc

plain_quote : (z t u : List ℕ) (c : ℕ) → z ≡ c ∷ t → z ≡ 34 ∷ u → c ≡ 34
plain_quote z t u c e f = cc

no_end : (c : ℕ) (z t u : List ℕ) → IsCharacter c z t → z ≡ 34 ∷ u → ⊥
no_end c z t u (plain p e) f = no_quote_plain c (plain_quote z t u c e f) p
no_end c z t u (short x s e) f = escape_no_quote z t u x e f
no_end c z t u (one_unit s v) f = unit_end c z t u v f
no_end c z t u (two_units high low m h l q v w) f = unit_end high z m u v f

pub characters_one : (cs ds z t u : List ℕ) → AreCharacters cs z t → AreCharacters ds z u → cs ≡ ds
characters_one [] [] z t u h g = refl
characters_one [] (d ∷ ds) z t u h (mid, one, more) = absurd (no_end d z mid t one h)
characters_one (c ∷ cs) [] z t u (mid, one, more) g = absurd (no_end c z mid u one g)
characters_one (c ∷ cs) (d ∷ ds) z t u (mid, one, more) (mid2, two, rest) =
    let a = character_one c d z mid mid2 one two in
    let b = characters_one cs ds mid t u more (subst (λ (x : List ℕ). AreCharacters ds x u) (sym a.1) rest) in
    ap (λ (x : ℕ). x ∷ cs) a.0 ∙ ap (λ (x : List ℕ). d ∷ x) b

-- UP TO THE CLOSING QUOTE

abbrev pub ends_string : Quote → ℕ → Bool
ends_string Open c = c == 34
ends_string Escaped c = false
ends_string Closed c = true

-- a string that goes on so does not end within, and may end after it
abbrev pub GoesOn : Quote → List ℕ → Type 0
GoesOn quote [] = quote ≡ Open
GoesOn quote (c ∷ cs) = (ends_string quote c ≡ false) × GoesOn (quote_after quote c) cs

same_quote : (q r : Quote) (cs : List ℕ) → q ≡ r → GoesOn r cs → GoesOn q cs
same_quote q r cs e h = rw e h

plain_on : (c : ℕ) (cs : List ℕ) → is_plain c ≡ true → GoesOn Open cs → GoesOn Open (c ∷ cs)
plain_on c cs p h =
    let a : (c == 34) ≡ false = grind (arith, nat_tests) in
    let b : quote_after Open c ≡ Open = grind (arith, nat_tests) in
    (a, same_quote (quote_after Open c) Open cs b h)

hex_on : (c : ℕ) (cs : List ℕ) → digit_value c < 16 → GoesOn Open cs → GoesOn Open (c ∷ cs)
hex_on c cs p h =
    let a : (c == 34) ≡ false = grind (arith, nat_tests) in
    let b : quote_after Open c ≡ Open = grind (arith, nat_tests) in
    (a, same_quote (quote_after Open c) Open cs b h)

-- what spells a part of a string, whatever follows
pub record Spelling (P : List ℕ → List ℕ → Type 0) (before after : List ℕ) : Type 0 where
  pub raw : List ℕ
  pub splits : before ≡ raw ++ after
  pub on : (rest : List ℕ) → GoesOn Open rest → GoesOn Open (raw ++ rest)
  pub spells : (t : List ℕ) → P (raw ++ t) t

hex_spelling : (count high n : ℕ) (before after : List ℕ) → IsHex count high n before after → Spelling (IsHex count high n) before after
hex_spelling zero high n before after (e, w) = record { raw = []; splits = w; on = λ rest g. g; spells = λ t. (e, refl) }
hex_spelling (suc count) high n before after (d, mid, e, s, h) =
    let more = hex_spelling count (16 * high + digit_value d) n mid after h in
    record {
      raw = d ∷ more.raw;
      splits = e ∙ ap (λ (x : List ℕ). d ∷ x) more.splits;
      on = λ rest g. hex_on d (more.raw ++ rest) s (more.on rest g);
      spells = λ t. (d, more.raw ++ t, refl, s, more.spells t);
    }

unit_spelling : (n : ℕ) (before after : List ℕ) → IsUnit n before after → Spelling (IsUnit n) before after
unit_spelling n before after (mid, e, h) =
    let more = hex_spelling 4 0 n mid after h in
    record {
      raw = 92 ∷ 117 ∷ more.raw;
      splits = e ∙ ap (λ (x : List ℕ). 92 ∷ 117 ∷ x) more.splits;
      on = λ rest g. (refl, (refl, more.on rest g));
      spells = λ t. (more.raw ++ t, refl, more.spells t);
    }

character_spelling : (c : ℕ) (before after : List ℕ) → IsCharacter c before after → Spelling (IsCharacter c) before after
character_spelling c before after (plain p e) =
    record { raw = c ∷ []; splits = e; on = λ rest g. plain_on c rest p g; spells = λ t. plain p refl }
character_spelling c before after (short x s e) =
    record { raw = 92 ∷ x ∷ []; splits = e; on = λ rest g. (refl, (refl, g)); spells = λ t. short x s refl }
character_spelling c before after (one_unit s u) =
    let more = unit_spelling c before after u in
    record { raw = more.raw; splits = more.splits; on = more.on; spells = λ t. one_unit s (more.spells t) }
character_spelling c before after (two_units high low m h l q u v) =
    let a = unit_spelling high before m u in
    let b = unit_spelling low m after v in
    record {
      raw = a.raw ++ b.raw;
      splits = a.splits ∙ ap (λ (x : List ℕ). a.raw ++ x) b.splits ∙ sym (append_assoc a.raw b.raw after);
      on = λ rest g. subst (GoesOn Open) (sym (append_assoc a.raw b.raw rest)) (a.on (b.raw ++ rest) (b.on rest g));
      spells = λ t. two_units high low (b.raw ++ t) h l q (subst (λ (x : List ℕ). IsUnit high x (b.raw ++ t)) (sym (append_assoc a.raw b.raw t)) (a.spells (b.raw ++ t))) (b.spells t);
    }

-- the same of all characters of a string, up to the closing quote
pub record Body (cs before after : List ℕ) : Type 0 where
  pub raw : List ℕ
  pub splits : before ≡ raw ++ (34 ∷ after)
  pub on : GoesOn Open raw
  pub spells : (t : List ℕ) → AreCharacters cs (raw ++ (34 ∷ t)) t

pub body_of : (cs before after : List ℕ) → AreCharacters cs before after → Body cs before after
body_of [] before after h = record { raw = []; splits = h; on = refl; spells = λ t. refl }
body_of (c ∷ cs) before after (mid, one, more) =
    let a = character_spelling c before mid one in
    let b = body_of cs mid after more in
    record {
      raw = a.raw ++ b.raw;
      splits = a.splits ∙ ap (λ (x : List ℕ). a.raw ++ x) b.splits ∙ sym (append_assoc a.raw b.raw (34 ∷ after));
      on = a.on b.raw b.on;
      spells = λ t. subst (λ (x : List ℕ). AreCharacters (c ∷ cs) x t) (sym (append_assoc a.raw b.raw (34 ∷ t))) (b.raw ++ (34 ∷ t), a.spells (b.raw ++ (34 ∷ t)), b.spells t);
    }
