-- A run of the reader over characters: it has a state just while some text begins so, and the state's texts are those.
use Rattle.std.specs.Prelude.{if◌then◌else◌, nat_lt}
use Rattle.std.specs.Str.{all_scalars}
use Rattle.std.proofs.Common.{ℕ, suc, ◌≤◌, ◌≡◌, ◌⊎◌, inl, inr, Bool, true, false, not, ◌||◌, List, [], ◌∷◌, ◌++◌, length, refl, sym, ap, ◌∙◌, subst, arith, Some, None, Result, Ok, Err, append-nil}
use Rattle.json_order.specs.Json.{Json, null, boolean, number, string, array, object, no_items, item, no_members, member}
use Rattle.json_order.specs.Grammar.{Rules, IsSpaced, IsCharacter, plain, short, one_unit, two_units, IsKey, has_key, may_follow, IsValue, IsText}
use Rattle.json_order.specs.Fault.{strict, deeper, repeating}
use Rattle.json_order.specs.private.Machine.{Place, at_value, at_first_item, behind, at_first_key, at_next_key, in_key, behind_key, in_string, in_number, in_word, Frame, in_list, in_object, State, Move, goes, opens, names, stops, move, under_rules, step, start, run_on, run, ended_value, is_done}
use Rattle.json_order.specs.declared.fault.JsonKind.{JsonKind}
use Rattle.json_order.specs.declared.fault.JsonKind.TheVariants.{Syntax, End, Depth, Duplicate, Utf8, Memory}
use Rattle.json_order.specs.declared.place.Escape.{Escape}
use Rattle.json_order.specs.declared.place.Escape.TheVariants.{Outside, Slash, Unit0, Unit1, Unit2, Unit3, High, HighSlash, Low0, Low1, Low2, Low3}
use Rattle.json_order.proofs.Language.{StringRest, Closes, Opens, CompletesAt, Completes}
use Rattle.json_order.proofs.Spaces.{split, none_spaced}
use Rattle.json_order.proofs.Numbers.{done_from, done_to}
use Rattle.json_order.proofs.Strings.{lt_from, lt_not, lt_to}
use Rattle.json_order.proofs.Values.{Leads}
use Rattle.json_order.proofs.Steps.{leads}
use Rattle.json_order.proofs.Facts.{IsSound, Facts, facts}
use Rattle.json_order.proofs.Alive.{alive}

-- ONE STEP

-- what may follow c from s is what may follow from u
abbrev Onto : Rules → (List ℕ → Json → Type 0) → State → Type 0
Onto r L u = (rest : List ℕ) (t : Json) → (L rest t → Completes r u rest t) × (Completes r u rest t → L rest t)

abbrev Judged : Rules → (List ℕ → Json → Type 0) → Result State JsonKind → Type 0
Judged r L (Ok u) = IsSound r.limit u × Onto r L u
Judged r L (Err k) = (rest : List ℕ) (t : Json) → ¬ (L rest t)

judge : (r : Rules) (c : ℕ) (L : List ℕ → Json → Type 0) (m : Move) → Leads r L m → Facts r.limit c m → Judged r L (under_rules r m)
judge r c L (goes u) h f = (f, h)
judge r c L (opens u) h f =
    split (λ b. Judged r L (if b then Ok u else Err Depth)) (nat_lt (length u.frames) r.limit)
    (λ e. let l = lt_from (length u.frames) r.limit e in (f.2 r.limit l, λ rest t. (λ w. ((h rest t).0 w).1, λ w. (h rest t).1 (l, w))))
    (λ n rest t w. let l = lt_not (length u.frames) r.limit n in let g = ((h rest t).0 w).0 in omega arith)
judge r c L (names earlier key u) h f =
    split (λ b. Judged r L (if b then Ok u else Err Duplicate)) (may_follow r earlier key)
    (λ e. (f.1, λ rest t. (λ w. ((h rest t).0 w).1, λ w. (h rest t).1 (e, w))))
    (λ n rest t w. let g : true ≡ false = sym ((h rest t).0 w).0 ∙ n in cc)
judge r c L stops h f = h

one_step : (r : Rules) (s : State) (c : ℕ) → IsSound r.limit s → Judged r (λ rest t. Completes r s (c ∷ rest) t) (step r s c)
one_step r s c h = judge r c (λ rest t. Completes r s (c ∷ rest) t) (move s.place s.frames c) (leads r s.place s.frames c h.fine) (facts r.limit c s.place s.frames h)

-- A RUN

run_err : (r : Rules) (k : JsonKind) (cs : List ℕ) → run r (Err k) cs ≡ Err k
run_err r k [] = refl
run_err r k (c ∷ cs) = run_err r k cs

-- what a run over cs makes of a state
abbrev pub Ran : Rules → State → List ℕ → Result State JsonKind → Type 0
Ran r s cs (Ok u) = IsSound r.limit u × ((rest : List ℕ) (t : Json) → (Completes r s (cs ++ rest) t → Completes r u rest t) × (Completes r u rest t → Completes r s (cs ++ rest) t))
Ran r s cs (Err k) = (rest : List ℕ) (t : Json) → ¬ (Completes r s (cs ++ rest) t)

pub ran : (r : Rules) (s : State) (cs : List ℕ) → IsSound r.limit s → Ran r s cs (run r (Ok s) cs)
ran r s [] h = (h, λ rest t. (λ w. w, λ w. w))
ran r s (c ∷ cs) h = go (λ u g. ran r u cs g) (step r s c) (one_step r s c h)
  where
    then' : (u : State) → IsSound r.limit u → Onto r (λ rest t. Completes r s (c ∷ rest) t) u → (o : Result State JsonKind) → Ran r u cs o → Ran r s (c ∷ cs) o
    then' u g on (Ok v) w = (w.0, λ rest t. (λ x. (w.1 rest t).0 ((on (cs ++ rest) t).0 x), λ x. (on (cs ++ rest) t).1 ((w.1 rest t).1 x)))
    then' u g on (Err k) w = λ rest t x. w rest t ((on (cs ++ rest) t).0 x)

    go : ((u : State) → IsSound r.limit u → Ran r u cs (run r (Ok u) cs)) → (o : Result State JsonKind) → Judged r (λ rest t. Completes r s (c ∷ rest) t) o → Ran r s (c ∷ cs) (run r o cs)
    go more (Ok u) j = then' u j.0 j.1 (run r (Ok u) cs) (more u j.0)
    go more (Err k) j = subst (λ o. Ran r s (c ∷ cs) o) (sym (run_err r k cs)) (λ rest t x. j (cs ++ rest) t x)

start_sound : (L : ℕ) → IsSound L start
start_sound L = record { fine = tt; shallow = omega arith }

-- a run over cs and c is a step behind the run over cs
pub run_push : (r : Rules) (o : Result State JsonKind) (cs : List ℕ) (c : ℕ) → run r o (cs ++ c ∷ []) ≡ run_on r (run r o cs) c
run_push r o [] c = refl
run_push r o (x ∷ cs) c = run_push r (run_on r o x) cs c

-- a text is what completes the start
text_to : (r : Rules) (t : Json) (cs : List ℕ) → IsText r t cs → Completes r start cs t
text_to r t cs (s, e, sp, w, sp') = (s, sp, (t, e, w, (sp', refl)))

text_from : (r : Rules) (t : Json) (cs : List ℕ) → Completes r start cs t → IsText r t cs
text_from r t cs (s, sp, (v, e, w, (sp', q))) = (s, e, sp, subst (λ y. IsValue r 0 y s e) (sym q) w, sp')

-- WHERE A TEXT ENDS

spaced_nil : (m : List ℕ) → IsSpaced [] m → m ≡ []
spaced_nil m ([], a, q) = sym q
spaced_nil m (x ∷ xs, a, q) = cc

char_none : (c : ℕ) (mid : List ℕ) → IsCharacter c [] mid → ⊥
char_none c mid (plain h q) = cc
char_none c mid (short e s q) = cc
char_none c mid (one_unit k (m, q, hex)) = cc
char_none c mid (two_units high low mid' h l e (m, q, hex) second) = cc

string_none : (e : Escape) (cs k : List ℕ) → StringRest e cs [] k → ⊥
string_none Outside [] k q = cc
string_none Outside (c ∷ cs) k (mid, ch, w) = char_none c mid ch
string_none Slash [] k q = q
string_none Slash (c ∷ cs) k (mid, w, z) = elim w [ inl a ↦ (let q = a.1 in cc) | inr b ↦ (let q = b.1 in cc) ]
string_none Unit0 [] k q = q
string_none Unit0 (c ∷ cs) k (mid, (u, m, (d, x, q, h, hs), w), z) = cc
string_none (Unit1 v) [] k q = q
string_none (Unit1 v) (c ∷ cs) k (mid, (u, m, (d, x, q, h, hs), w), z) = cc
string_none (Unit2 v) [] k q = q
string_none (Unit2 v) (c ∷ cs) k (mid, (u, m, (d, x, q, h, hs), w), z) = cc
string_none (Unit3 v) [] k q = q
string_none (Unit3 v) (c ∷ cs) k (mid, (u, m, (d, x, q, h, hs), w), z) = cc
string_none (High s) [] k q = q
string_none (High s) (c ∷ cs) k (mid, (m, q, w), z) = cc
string_none (HighSlash s) [] k q = q
string_none (HighSlash s) (c ∷ cs) k (mid, (m, q, w), z) = cc
string_none (Low0 s) [] k q = q
string_none (Low0 s) (c ∷ cs) k (mid, (u, (d, x, q, h, hs), l, e), z) = cc
string_none (Low1 s) [] k q = q
string_none (Low1 s) (c ∷ cs) k (mid, (u, (d, x, q, h, hs), l, e), z) = cc
string_none (Low2 s v) [] k q = q
string_none (Low2 s v) (c ∷ cs) k (mid, (u, (d, x, q, h, hs), l, e), z) = cc
string_none (Low3 s v) [] k q = q
string_none (Low3 s v) (c ∷ cs) k (mid, (u, (d, x, q, h, hs), l, e), z) = cc

value_none : (r : Rules) (d : ℕ) (v : Json) (e : List ℕ) → IsValue r d v [] e → ⊥
value_none r d null e h = let q : [] ≡ 110 ∷ 117 ∷ 108 ∷ 108 ∷ e = h in cc
value_none r d (boolean true) e h = let q : [] ≡ 116 ∷ 114 ∷ 117 ∷ 101 ∷ e = h in cc
value_none r d (boolean false) e h = let q : [] ≡ 102 ∷ 97 ∷ 108 ∷ 115 ∷ 101 ∷ e = h in cc
value_none r d (number []) e h = h.0
value_none r d (number (x ∷ more)) e h = let q = h.1 in cc
value_none r d (string bytes) e (cs, mid, q, z, w) = cc
value_none r d (array items) e (l, (mid, q, w)) = cc
value_none r d (object _) e (l, (mid, q, w)) = cc

opens_none : (r : Rules) (fs : List Frame) (t : Json) → Opens r fs [] t → ⊥
opens_none r fs t (s, sp, (v, e, w, k)) = value_none r (length fs) v e (subst (λ y. IsValue r (length fs) v y e) (spaced_nil s sp) w)

key_none : (r : Rules) (ks : List (List ℕ)) (key m : List ℕ) → IsKey r ks key [] m → ⊥
key_none r ks key m (s, k, c, sp, (cs, mid, q, z, w), f, sp', e) = let n = spaced_nil s sp in cc

frames_none : (r : Rules) (f : Frame) (fs : List Frame) (v t : Json) → Closes r (f ∷ fs) v [] t → ⊥
frames_none r (in_list vs) fs v t (no_items, m, after, sp, q, k) = let n = spaced_nil m sp in cc
frames_none r (in_list vs) fs v t (item x is, m, after, sp, (b, s, e, z, q, sp', w, sp'', more), k) = let n = spaced_nil m sp in cc
frames_none r (in_object es key) fs v t (no_members, m, after, sp, q, k) = let n = spaced_nil m sp in cc
frames_none r (in_object es key) fs v t (member x y ms, m, after, sp, (b, n', s, e, z, q, isk, sp', w, sp'', more), k) = let n = spaced_nil m sp in cc

ended_to : (r : Rules) (p : Place) (fs : List Frame) (t : Json) → CompletesAt r p fs [] t → ended_value p fs ≡ Some t
ended_to r at_value fs t w = absurd (opens_none r fs t w)
ended_to r at_first_item fs t (no_items, after, sp, k) = let n = spaced_nil (93 ∷ after) sp in cc
ended_to r at_first_item fs t (item v is, after, (s, e, m, sp, w, sp', more), k) = absurd (value_none r (suc (length fs)) v e (subst (λ y. IsValue r (suc (length fs)) v y e) (spaced_nil s sp) w))
ended_to r (behind v) [] t (sp, e) = ap Some (sym e)
ended_to r (behind v) (f ∷ fs) t w = absurd (frames_none r f fs v t w)
ended_to r at_first_key fs t (no_members, after, sp, k) = let n = spaced_nil (125 ∷ after) sp in cc
ended_to r at_first_key fs t (member x y ms, after, (n, s, e, m, isk, sp, w, sp', more), k) = absurd (key_none r [] x n isk)
ended_to r (at_next_key es) fs t (key, m, isk, o) = absurd (key_none r _ key m isk)
ended_to r (in_key es text e) fs t (cs, k, c, m, w, f, sp, q, o) = absurd (string_none e cs k w)
ended_to r (behind_key es key) fs t (c, m, sp, q, o) = let n = spaced_nil c sp in cc
ended_to r (in_string text e) fs t (cs, m, w, k) = absurd (string_none e cs m w)
ended_to r (in_number text p) [] t ([], m, w, q, (sp, e)) =
    split (λ b. is_done p ≡ b → (if b then Some (number text) else None) ≡ Some t) (is_done p)
    (λ h _. ap Some (sym (e ∙ ap number (append-nil text))))
    (λ n _. let d = done_from p w in let g : true ≡ false = sym d ∙ n in cc) refl
ended_to r (in_number text p) [] t (x ∷ more, m, w, q, k) = cc
ended_to r (in_number text p) (f ∷ fs) t ([], m, w, q, k) = absurd (frames_none r f fs (number (text ++ [])) t (subst (λ y. Closes r (f ∷ fs) (number (text ++ [])) y t) (sym q) k))
ended_to r (in_number text p) (f ∷ fs) t (x ∷ more, m, w, q, k) = cc
ended_to r (in_word [] v) [] t (m, q, (sp, e)) = ap Some (sym e)
ended_to r (in_word [] v) (f ∷ fs) t (m, q, k) = absurd (frames_none r f fs v t (subst (λ y. Closes r (f ∷ fs) v y t) (sym q) k))
ended_to r (in_word (l ∷ ls) v) [] t (m, q, k) = cc
ended_to r (in_word (l ∷ ls) v) (f ∷ fs) t (m, q, k) = cc

ended_from : (r : Rules) (p : Place) (fs : List Frame) (t : Json) → ended_value p fs ≡ Some t → CompletesAt r p fs [] t
ended_from r at_value fs t h = cc
ended_from r at_first_item fs t h = cc
ended_from r (behind v) [] t h = (none_spaced [], cc)
ended_from r (behind v) (f ∷ fs) t h = cc
ended_from r at_first_key fs t h = cc
ended_from r (at_next_key es) fs t h = cc
ended_from r (in_key es text e) fs t h = cc
ended_from r (behind_key es key) fs t h = cc
ended_from r (in_string text e) fs t h = cc
ended_from r (in_number text p) [] t h = go (is_done p) refl h
  where
    go : (b : Bool) → is_done p ≡ b → (if b then Some (number text) else None) ≡ Some t → CompletesAt r (in_number text p) [] [] t
    go true d e = ([], [], done_to p d, refl, (none_spaced [], (let same : number text ≡ t = cc in sym same ∙ ap number (sym (append-nil text)))))
    go false d e = cc
ended_from r (in_number text p) (f ∷ fs) t h = cc
ended_from r (in_word [] v) [] t h = ([], refl, (none_spaced [], cc))
ended_from r (in_word [] v) (f ∷ fs) t h = cc
ended_from r (in_word (l ∷ ls) v) [] t h = cc
ended_from r (in_word (l ∷ ls) v) (f ∷ fs) t h = cc

-- WHOLE TEXTS

-- a run that ends in a state: its text is a value's just where the state says so
pub text_of_run : (r : Rules) (cs : List ℕ) (u : State) → run r (Ok start) cs ≡ Ok u → (t : Json) → (IsText r t cs → ended_value u.place u.frames ≡ Some t) × (ended_value u.place u.frames ≡ Some t → IsText r t cs)
text_of_run r cs u h t = go (subst (λ o. Ran r start cs o) h (ran r start cs (start_sound r.limit)))
  where
    go : Ran r start cs (Ok u) → (IsText r t cs → ended_value u.place u.frames ≡ Some t) × (ended_value u.place u.frames ≡ Some t → IsText r t cs)
    go w = (
      λ x. ended_to r u.place u.frames t ((w.1 [] t).0 (subst (λ y. Completes r start y t) (sym (append-nil cs)) (text_to r t cs x))),
      λ e. text_from r t cs (subst (λ y. Completes r start y t) (append-nil cs) ((w.1 [] t).1 (ended_from r u.place u.frames t e))),
    )

-- some text goes on from it
pub front_of_run : (r : Rules) (cs : List ℕ) (u : State) → run r (Ok start) cs ≡ Ok u → (rest : List ℕ) × (t : Json) × (all_scalars rest ≡ true) × IsText r t (cs ++ rest)
front_of_run r cs u h = go (subst (λ o. Ran r start cs o) h (ran r start cs (start_sound r.limit)))
  where
    go : Ran r start cs (Ok u) → (rest : List ℕ) × (t : Json) × (all_scalars rest ≡ true) × IsText r t (cs ++ rest)
    go w = let a = alive r u.place u.frames w.0.fine in (a.0, a.1, a.2, text_from r a.1 (cs ++ a.0) ((w.1 a.0 a.1).1 a.3))

pub sound_run : (r : Rules) (cs : List ℕ) (u : State) → run r (Ok start) cs ≡ Ok u → IsSound r.limit u
sound_run r cs u h = (subst (λ o. Ran r start cs o) h (ran r start cs (start_sound r.limit))).0

-- none goes on from a run that is refused
pub refused_run : (r : Rules) (cs : List ℕ) (k : JsonKind) → run r (Ok start) cs ≡ Err k → (rest : List ℕ) (t : Json) → ¬ (IsText r t (cs ++ rest))
refused_run r cs k h rest t x = (subst (λ o. Ran r start cs o) h (ran r start cs (start_sound r.limit))) rest t (text_to r t (cs ++ rest) x)

-- OTHER RULES

-- what the strict rules accept, others do that are no narrower
judged_weaker : (r : Rules) → 16 ≤ r.limit → (m : Move) (u : State) → under_rules strict m ≡ Ok u → under_rules r m ≡ Ok u
judged_weaker r w (goes s) u h = h
judged_weaker r w (opens s) u h = go (nat_lt (length s.frames) 16) refl h
  where
    go : (b : Bool) → nat_lt (length s.frames) 16 ≡ b → (if b then Ok s else Err Depth) ≡ Ok u → under_rules r (opens s) ≡ Ok u
    go true e h = let l = lt_from (length s.frames) 16 e in rw (lt_to (length s.frames) r.limit (omega arith)) h
    go false e h = cc
judged_weaker r w (names earlier key s) u h = go (has_key earlier key) refl h
  where
    flip : (b : Bool) → (b || true) ≡ true
    flip true = refl
    flip false = refl

    go : (b : Bool) → has_key earlier key ≡ b → (if not b then Ok s else Err Duplicate) ≡ Ok u → under_rules r (names earlier key s) ≡ Ok u
    go true e h = cc
    go false e h = rw (e, flip r.repeats) h
judged_weaker r w stops u h = cc

run_weaker : (r : Rules) → 16 ≤ r.limit → (s : State) (cs : List ℕ) (u : State) → run strict (Ok s) cs ≡ Ok u → run r (Ok s) cs ≡ Ok u
run_weaker r w s [] u h = h
run_weaker r w s (c ∷ cs) u h = go (λ v g. run_weaker r w v cs u g) (step strict s c) refl h
  where
    go : ((v : State) → run strict (Ok v) cs ≡ Ok u → run r (Ok v) cs ≡ Ok u) → (o : Result State JsonKind) → step strict s c ≡ o → run strict o cs ≡ Ok u → run r (step r s c) cs ≡ Ok u
    go more (Ok v) e h = rw (judged_weaker r w (move s.place s.frames c) v e) (more v h)
    go more (Err k) e h = let g : Err k ≡ Ok u = sym (run_err strict k cs) ∙ h in cc

-- WHY A CHARACTER IS REFUSED

-- Syntax under all rules, Depth for a bracket that fits one level deeper, Duplicate for a quote that fits where keys may repeat
abbrev pub Why : ℕ → Move → JsonKind → Type 0
Why c m Syntax = (r : Rules) → under_rules r m ≡ Err Syntax
Why c m Depth = ((c ≡ 91) ⊎ (c ≡ 123)) × ((u : State) × (under_rules deeper m ≡ Ok u))
Why c m Duplicate = (c ≡ 34) × ((u : State) × (under_rules repeating m ≡ Ok u))
Why c m End = ⊥
Why c m Utf8 = ⊥
Why c m Memory = ⊥

why_of : (c : ℕ) (m : Move) → Facts 16 c m → (k : JsonKind) → under_rules strict m ≡ Err k → Why c m k
why_of c (goes s) f k h = cc
why_of c (opens s) f k h = go (nat_lt (length s.frames) 16) refl h
  where
    go : (b : Bool) → nat_lt (length s.frames) 16 ≡ b → (if b then Ok s else Err Depth) ≡ Err k → Why c (opens s) k
    go true e h = cc
    go false e h = let same : Depth ≡ k = cc in subst (λ y. Why c (opens s) y) same (f.0, (s, rw (lt_to (length s.frames) 17 (omega (arith, f.1))) refl))
why_of c (names earlier key s) f k h = go (has_key earlier key) refl h
  where
    go : (b : Bool) → has_key earlier key ≡ b → (if not b then Ok s else Err Duplicate) ≡ Err k → Why c (names earlier key s) k
    go true e h = let same : Duplicate ≡ k = cc in subst (λ y. Why c (names earlier key s) y) same (f.0, (s, refl))
    go false e h = cc
why_of c stops f k h = let same : Syntax ≡ k = cc in subst (λ y. Why c stops y) same (λ r. refl)

-- the reader's state behind the characters cs, and what it says to c
pub record Stuck (cs : List ℕ) (c : ℕ) (s : State) (k : JsonKind) : Type 0 where
  pub until : run strict (Ok start) cs ≡ Ok s
  pub refused : step strict s c ≡ Err k

pub why : (cs : List ℕ) (c : ℕ) (s : State) (k : JsonKind) → Stuck cs c s k → Why c (move s.place s.frames c) k
why cs c s k h = why_of c (move s.place s.frames c) (facts 16 c s.place s.frames (sound_run strict cs s h.until)) k h.refused

pub run_other : (r : Rules) → 16 ≤ r.limit → (cs : List ℕ) (u : State) → run strict (Ok start) cs ≡ Ok u → run r (Ok start) cs ≡ Ok u
run_other r w cs u h = run_weaker r w start cs u h

pub run_step : (r : Rules) (cs : List ℕ) (c : ℕ) (s : State) → run r (Ok start) cs ≡ Ok s → run r (Ok start) (cs ++ c ∷ []) ≡ step r s c
run_step r cs c s h = run_push r (Ok start) cs c ∙ ap (λ o. run_on r o c) h
