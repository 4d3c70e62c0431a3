-- Events in their order: the first comes first.
use Rattle.std.proofs.Common.{◌≡◌, ℕ, ◌+◌, Bool, true, false, cond, List, [], ◌∷◌, ◌++◌, length, refl, ap, ◌∙◌, arith}
use Rattle.std.specs.Prelude.{nat_lt, ◌==◌, ◌&&◌, ◌||◌}
use Rattle.std.specs.List.{AllByRecursion}
use Rattle.std.proofs.lemmas.Bool.Decides.{nat_tests}
use Rattle.switch_text.specs.Events.{Event, comes_before, with_event, in_sequence}

-- numbers that are compared first, and what decides where they are equal
lex_trans : (s t u : ℕ) (x y z : Bool) → (x ≡ true → y ≡ true → z ≡ true) → (nat_lt s t || (s == t && x)) ≡ true → (nat_lt t u || (t == u && y)) ≡ true → (nat_lt s u || (s == u && z)) ≡ true
lex_trans s t u true true z h p q = let r : z ≡ true = h refl refl in grind (arith, nat_tests)
lex_trans s t u true false z h p q = grind (arith, nat_tests)
lex_trans s t u false y z h p q = grind (arith, nat_tests)

lex_then : (s t u : ℕ) (x y z : Bool) → (x ≡ true → y ≡ false → z ≡ true) → (nat_lt s t || (s == t && x)) ≡ true → (nat_lt u t || (u == t && y)) ≡ false → (nat_lt s u || (s == u && z)) ≡ true
lex_then s t u true false z h p q = let r : z ≡ true = h refl refl in grind (arith, nat_tests)
lex_then s t u true true z h p q = grind (arith, nat_tests)
lex_then s t u false y z h p q = grind (arith, nat_tests)

-- of one time, and of one place there
abbrev by_cpu : Event → Event → Bool
by_cpu a b = nat_lt a.cpu b.cpu || (a.cpu == b.cpu && nat_lt a.number b.number)

abbrev by_rank : Event → Event → Bool
by_rank a b = nat_lt a.rank b.rank || (a.rank == b.rank && by_cpu a b)

cpu_trans : (a b c : Event) → by_cpu a b ≡ true → by_cpu b c ≡ true → by_cpu a c ≡ true
cpu_trans a b c p q = grind (arith, nat_tests)

rank_trans : (a b c : Event) → by_rank a b ≡ true → by_rank b c ≡ true → by_rank a c ≡ true
rank_trans a b c p q = lex_trans a.rank b.rank c.rank (by_cpu a b) (by_cpu b c) (by_cpu a c) (cpu_trans a b c) p q

cpu_then : (a b c : Event) → by_cpu a b ≡ true → by_cpu c b ≡ false → by_cpu a c ≡ true
cpu_then a b c p q = grind (arith, nat_tests)

rank_then : (a b c : Event) → by_rank a b ≡ true → by_rank c b ≡ false → by_rank a c ≡ true
rank_then a b c p q = lex_then a.rank b.rank c.rank (by_cpu a b) (by_cpu c b) (by_cpu a c) (cpu_then a b c) p q

pub earlier_trans : (a b c : Event) → comes_before a b ≡ true → comes_before b c ≡ true → comes_before a c ≡ true
earlier_trans a b c p q = lex_trans a.time b.time c.time (by_rank a b) (by_rank b c) (by_rank a c) (rank_trans a b c) p q

-- a is not later than b, and b is earlier than c
pub not_later_trans : (a b c : Event) → comes_before b a ≡ false → comes_before b c ≡ true → comes_before c a ≡ false
not_later_trans a b c p q = grind (arith, nat_tests)

-- a is earlier than b, and b is not later than c
pub earlier_then : (a b c : Event) → comes_before a b ≡ true → comes_before c b ≡ false → comes_before a c ≡ true
earlier_then a b c p q = lex_then a.time b.time c.time (by_rank a b) (by_rank c b) (by_rank a c) (rank_then a b c) p q

pub not_later-from_earlier : (a b : Event) → comes_before a b ≡ true → comes_before b a ≡ false
not_later-from_earlier a b p = grind (arith, nat_tests)

pub AllByRecursion-with_event : (P : Event → Type 0) (e : Event) (es : List Event) → P e → AllByRecursion P es → AllByRecursion P (with_event e es)
AllByRecursion-with_event P e [] h all = (h, tt)
AllByRecursion-with_event P e (f ∷ fs) h all =
    let more = AllByRecursion-with_event P e fs h all.1 in
    elim (comes_before f e) as (λ b. AllByRecursion P (cond b (f ∷ with_event e fs) (e ∷ f ∷ fs))) [ true ↦ (all.0, more) | false ↦ (h, all) ]

pub AllByRecursion-in_sequence : (P : Event → Type 0) (es : List Event) → AllByRecursion P es → AllByRecursion P (in_sequence es)
unfolding in_sequence
AllByRecursion-in_sequence P [] all = tt
AllByRecursion-in_sequence P (e ∷ es) all = AllByRecursion-with_event P e (in_sequence es) all.0 (AllByRecursion-in_sequence P es all.1)

-- what is later than no other goes first
pub with_event-first : (e : Event) (es : List Event) → AllByRecursion (λ x. comes_before x e ≡ false) es → with_event e es ≡ e ∷ es
with_event-first e [] all = refl
with_event-first e (f ∷ fs) all = rw all.0 refl

pub in_sequence-first : (before : List Event) (e : Event) (after : List Event) → AllByRecursion (λ x. comes_before e x ≡ true) before → AllByRecursion (λ x. comes_before x e ≡ false) after
    → in_sequence (before ++ e ∷ after) ≡ e ∷ in_sequence (before ++ after)
unfolding in_sequence
in_sequence-first [] e after earlier not_later = with_event-first e (in_sequence after) (AllByRecursion-in_sequence (λ x. comes_before x e ≡ false) after not_later)
in_sequence-first (x ∷ xs) e after earlier not_later =
    let others = in_sequence-first xs e after earlier.1 not_later in
    ap (with_event x) others ∙ rw earlier.0 refl

length-with_event : (e : Event) (es : List Event) → length (with_event e es) ≡ length es + 1
length-with_event e [] = refl
length-with_event e (f ∷ fs) =
    let more = length-with_event e fs in
    elim (comes_before f e) as (λ b. length (cond b (f ∷ with_event e fs) (e ∷ f ∷ fs)) ≡ length (f ∷ fs) + 1) [ true ↦ omega arith | false ↦ omega arith ]

pub length-in_sequence : (es : List Event) → length (in_sequence es) ≡ length es
unfolding in_sequence
length-in_sequence [] = refl
length-in_sequence (e ∷ es) = omega (arith, length-with_event e (in_sequence es), length-in_sequence es)
