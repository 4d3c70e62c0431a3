-- What is strict in characters is strict in the bytes of their UTF-8.
use Rattle.std.specs.Prelude.{encode_utf8, encode_utf8_all, nat_lt, ◌/◌, ◌%◌}
use Rattle.std.proofs.Common.{ℕ, ◌+◌, ◌<◌, ◌≤◌, ◌≡◌, Bool, true, false, List, [], ◌∷◌, ◌++◌, cond, refl, sym, subst, arith}
use Rattle.std.proofs.lemmas.Bool.Decides.{nat_tests}
use Rattle.std.proofs.lemmas.Str.{encode_ascii}
use Rattle.rtapp_dialect.specs.Filling.{quote_after, last_after, inside_after}
use Rattle.rtapp_dialect.specs.declared.bracket.Bracket.{Bracket}
use Rattle.rtapp_dialect.specs.declared.spot.Quote.{Quote}
use Rattle.rtapp_dialect.specs.declared.spot.Quote.TheVariants.{Closed, Open, Escaped}
use Rattle.rtapp_dialect.specs.declared.spot.Last.{Last}
use Rattle.rtapp_dialect.specs.declared.spot.Last.TheVariants.{Other}
use Rattle.rtapp_dialect.proofs.Strictness.{IsStrict, at_state, is_tame, AreTame, tame_quote, tame_last, tame_inside, tamed}

-- bytes of characters that are not ASCII
abbrev pub AreWide : List ℕ → Type 0
AreWide [] = Unit {0}
AreWide (b ∷ bs) = (128 ≤ b) × AreWide bs

abbrev pub IsWide : List ℕ → Type 0
IsWide [] = ⊥
IsWide (b ∷ bs) = (128 ≤ b) × AreWide bs

wide_cases : (c : ℕ) (p q r : Bool) → p ≡ false →
    IsWide (cond p (c ∷ []) (cond q ((192 + c / 64) ∷ (128 + c % 64) ∷ []) (cond r ((224 + c / 4096) ∷ (128 + c / 64 % 64) ∷ (128 + c % 64) ∷ []) ((240 + c / 262144) ∷ (128 + c / 4096 % 64) ∷ (128 + c / 64 % 64) ∷ (128 + c % 64) ∷ []))))
wide_cases c true q r e = cc
wide_cases c false true r e = (omega arith, (omega arith, tt))
wide_cases c false false true e = (omega arith, (omega arith, (omega arith, tt)))
wide_cases c false false false e = (omega arith, (omega arith, (omega arith, (omega arith, tt))))

pub wide : (c : ℕ) → nat_lt c 128 ≡ false → IsWide (encode_utf8 c)
unfolding lib.Utf8.encode
wide c h = wide_cases c (nat_lt c 128) (nat_lt c 2048) (nat_lt c 65536) h

wide_tame : (b : ℕ) → 128 ≤ b → is_tame b ≡ true
wide_tame b h = grind (arith, nat_tests)

wide_all_tame : (bs : List ℕ) → AreWide bs → AreTame bs
wide_all_tame [] h = tt
wide_all_tame (b ∷ bs) h = (wide_tame b h.0, wide_all_tame bs h.1)

pub wide_quote : (b : ℕ) → 128 ≤ b → quote_after Open b ≡ Open
wide_quote b h = grind (arith, nat_tests)

wide_open : (last : Last) (inside : List Bracket) (bs rest : List ℕ) → AreWide bs → IsStrict Open last inside rest → IsStrict Open last inside (bs ++ rest)
wide_open last inside [] rest w h = h
wide_open last inside (b ∷ bs) rest w h =
    (refl, at_state (quote_after Open b) Open last last inside inside (bs ++ rest) (wide_quote b w.0) refl refl (wide_open last inside bs rest w.1 h))

pub not_small : (c : ℕ) → nat_lt c 128 ≡ false → 128 ≤ c
not_small c h = grind (arith, nat_tests)

pub is_small : (c : ℕ) → nat_lt c 128 ≡ true → c < 128
is_small c h = grind (arith, nat_tests)

-- the bytes of a character that is not ASCII lead where the character leads
wide_step : (q : Quote) (l : Last) (a : List Bracket) (c : ℕ) (bs rest : List ℕ) → 128 ≤ c → IsWide bs → IsStrict (quote_after q c) (last_after q l a c) (inside_after q a c) rest → IsStrict q l a (bs ++ rest)
wide_step q l a c [] rest n w h = absurd w
wide_step Closed l a c (b ∷ bs) rest n w h =
    let t = wide_tame c n in
    tamed l a b bs rest (wide_tame b w.0, wide_all_tame bs w.1) (at_state Closed (quote_after Closed c) Other (last_after Closed l a c) a (inside_after Closed a c) rest (sym (tame_quote c t)) (sym (tame_last l a c t)) (sym (tame_inside a c t)) h)
wide_step Open l a c (b ∷ bs) rest n w h =
    wide_open l a (b ∷ bs) rest w (at_state Open (quote_after Open c) l l a a rest (sym (wide_quote c n)) refl refl h)
wide_step Escaped l a c (b ∷ bs) rest n w h = (refl, wide_open l a bs rest w.1 h)

one_step : (q : Quote) (l : Last) (a : List Bracket) (c : ℕ) (rest : List ℕ) (b : Bool) → nat_lt c 128 ≡ b → IsStrict q l a (c ∷ rest) → IsStrict q l a (encode_utf8 c ++ rest)
one_step q l a c rest true e h = subst (λ (x : List ℕ). IsStrict q l a (x ++ rest)) (sym (encode_ascii c (is_small c e))) h
one_step q l a c rest false e h = wide_step q l a c (encode_utf8 c) rest (not_small c e) (wide c e) h.1

pub bytes_strict : (q : Quote) (l : Last) (a : List Bracket) (cs : List ℕ) → IsStrict q l a cs → IsStrict q l a (encode_utf8_all cs)
bytes_strict q l a [] h = tt
bytes_strict q l a (c ∷ cs) h =
    one_step q l a c (encode_utf8_all cs) (nat_lt c 128) refl (h.0, bytes_strict (quote_after q c) (last_after q l a c) (inside_after q a c) cs h.1)
