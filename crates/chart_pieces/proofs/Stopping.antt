-- The bars of a task, with one switch more after.
use Rattle.std.proofs.Common.{◌≡◌, ℕ, ◌≤◌, ◌<◌, Bool, true, false, true≢false, cond, eqb, ◌&&◌, List, [], ◌∷◌, ◌++◌, map, refl, sym, ap, ◌∙◌, arith, append-nil, append_assoc, All, lt-ltb}
use Rattle.std.specs.Prelude.{filter, min}
use Rattle.std.proofs.Math.Nat.{min-eq_left, min-eq_right, min-le_left}
use Rattle.std.proofs.lemmas.List.{map-append}
use Rattle.std.proofs.lemmas.List.Elements.{All-head, All-tail, filter-append}
use Rattle.domain_run.specs.Switch.{Switch}
use Rattle.edf_pick.specs.Places.{is_task}
use Rattle.run_figures.specs.Stays.{until}
use Rattle.chart_pieces.specs.declared.row.Bar.{Bar}
use Rattle.chart_pieces.specs.declared.window.Window.{Window}
use Rattle.chart_pieces.specs.Window.{touches}
use Rattle.chart_pieces.specs.Bars.{bar_by, bars_of, bars_in}
use Rattle.chart_pieces.specs.private.Lines.{bar_in, stopped_by, bars_stopped}
use Rattle.chart_pieces.proofs.Seen.{touches_seen}

-- THE NEXT SWITCH of a CPU
same_both : (b : Bool) (t u : ℕ) → t ≤ u → t ≡ cond b (min t u) t
same_both true t u l = sym (min-eq_left l)
same_both false t u l = refl

until_more : (time cpu : ℕ) (s : Switch) (ss : List Switch) → All (λ x. x.time ≤ s.time) ss → s.time ≤ time → until time cpu (ss ++ s ∷ []) ≡ cond (eqb s.cpu cpu) (min (until time cpu ss) s.time) (until time cpu ss)
until_more time cpu s [] all l = ap (λ (t : ℕ). cond (eqb s.cpu cpu) t time) (sym (min-eq_right l))
until_more time cpu s (x ∷ xs) all l =
    let first = All-head (λ (y : Switch). y.time ≤ s.time) x xs all in
    let rest = All-tail (λ (y : Switch). y.time ≤ s.time) x xs all in
    elim (eqb x.cpu cpu) as (λ b. cond b x.time (until time cpu (xs ++ s ∷ [])) ≡ cond (eqb s.cpu cpu) (min (cond b x.time (until time cpu xs)) s.time) (cond b x.time (until time cpu xs))) [
      | true ↦ same_both (eqb s.cpu cpu) x.time s.time first
      | false ↦ until_more time cpu s xs rest l
    ]

-- THE BARS
stopped_bar : (s x : Switch) (u : ℕ) → bar_by x (cond (eqb s.cpu x.cpu) (min u s.time) u) ≡ stopped_by s (bar_by x u)
stopped_bar s x u = elim (eqb s.cpu x.cpu) as (λ b. bar_by x (cond b (min u s.time) u) ≡ cond b (bar_by x (min u s.time)) (bar_by x u)) [ true ↦ refl | false ↦ refl ]

mapped_one : (s : Switch) (b : Bar) (t : Bool) → cond t (stopped_by s b ∷ []) [] ≡ map (stopped_by s) (cond t (b ∷ []) [])
mapped_one s b true = refl
mapped_one s b false = refl

bars_more : (time n : ℕ) (s : Switch) (ss : List Switch) → All (λ x. x.time ≤ s.time) ss → s.time ≤ time → bars_of time (ss ++ s ∷ []) n ≡ map (stopped_by s) (bars_of time ss n) ++ cond (is_task n s.next) (bar_by s time ∷ []) []
bars_more time n s [] all l = append-nil (cond (is_task n s.next) (bar_by s time ∷ []) [])
bars_more time n s (x ∷ xs) all l =
    let rest = All-tail (λ (y : Switch). y.time ≤ s.time) x xs all in
    let bar = bar_by x (until time x.cpu xs) in
    let own = cond (is_task n x.next) (bar ∷ []) [] in
    let later = bars_of time xs n in
    let last = cond (is_task n s.next) (bar_by s time ∷ []) [] in
    let first : bar_by x (until time x.cpu (xs ++ s ∷ [])) ≡ stopped_by s bar =
    ap (bar_by x) (until_more time x.cpu s xs rest l) ∙ stopped_bar s x (until time x.cpu xs) in
    ap (λ (b : Bar). cond (is_task n x.next) (b ∷ []) [] ++ bars_of time (xs ++ s ∷ []) n) first
    ∙ ap (λ (bs : List Bar). cond (is_task n x.next) (stopped_by s bar ∷ []) [] ++ bs) (bars_more time n s xs rest l)
    ∙ ap (λ (bs : List Bar). bs ++ (map (stopped_by s) later ++ last)) (mapped_one s bar (is_task n x.next))
    ∙ sym (append_assoc (map (stopped_by s) own) (map (stopped_by s) later) last)
    ∙ ap (λ (bs : List Bar). bs ++ last) (sym (map-append (stopped_by s) own later))

-- THOSE IN THE WINDOW: a bar that is not in it is not in it when it is stopped
touches_less : (w : Window) (a b c : ℕ) → touches w a (min b c) ≡ true → touches w a b ≡ true
touches_less w a b c h =
    let p = touches_seen w a (min b c) h in
    let less = min-le_left b c in
    let begun : a < b = omega (arith, p.0, less) in
    let ends : w.from < b = omega (arith, p.2, less) in
    λ i. lt-ltb a b begun i && (lt-ltb a w.to p.1 i && lt-ltb w.from b ends i)

stopped_less : (w : Window) (s : Switch) (b : Bar) → touches w (stopped_by s b).start (stopped_by s b).stop ≡ true → touches w b.start b.stop ≡ true
stopped_less w s b = elim (eqb s.cpu b.cpu) as (λ c. touches w (cond c (record b { stop = min b.stop s.time }) b).start (cond c (record b { stop = min b.stop s.time }) b).stop ≡ true → touches w b.start b.stop ≡ true) [
  | true ↦ λ h. touches_less w b.start b.stop s.time h
  | false ↦ λ h. h
]

neither : (a b : Bool) → (a ≡ true → b ≡ true) → b ≡ false → a ≡ false
neither true b h out = absurd (true≢false (sym (h refl) ∙ out))
neither false b h out = refl

filter_early : {X : Type 0} (p : X → Bool) (f : X → X) (xs : List X) → ((x : X) → p (f x) ≡ true → p x ≡ true) → filter p (map f xs) ≡ filter p (map f (filter p xs))
filter_early p f [] less = refl
filter_early {X} p f (x ∷ xs) less =
    let more = filter_early p f xs less in
    elim (p x) as (λ b. p x ≡ b → cond (p (f x)) (f x ∷ filter p (map f xs)) (filter p (map f xs)) ≡ filter p (map f (cond b (x ∷ filter p xs) (filter p xs)))) [
      | true ↦ λ yes. ap (λ (ys : List X). cond (p (f x)) (f x ∷ ys) ys) more
      | false ↦ λ no. ap (λ b. cond b (f x ∷ filter p (map f xs)) (filter p (map f xs))) (neither (p (f x)) (p x) (less x) no) ∙ more
    ] refl

one_in : (w : Window) (s : Switch) (time : ℕ) (b : Bool) → filter (λ x. touches w x.start x.stop) (cond b (bar_by s time ∷ []) []) ≡ cond b (bar_in w s time) []
one_in w s time true = refl
one_in w s time false = refl

pub bars_in_more : (w : Window) (time n : ℕ) (s : Switch) (ss : List Switch) → All (λ x. x.time ≤ s.time) ss → s.time ≤ time
    → bars_in w time (ss ++ s ∷ []) n ≡ bars_stopped w s (bars_in w time ss n) ++ cond (is_task n s.next) (bar_in w s time) []
bars_in_more w time n s ss all l =
    let p : Bar → Bool = λ b. touches w b.start b.stop in
    let before = bars_of time ss n in
    let last = cond (is_task n s.next) (bar_by s time ∷ []) [] in
    ap (filter p) (bars_more time n s ss all l)
    ∙ filter-append p (map (stopped_by s) before) last
    ∙ ap (λ (bs : List Bar). bs ++ filter p last) (filter_early p (stopped_by s) before (stopped_less w s))
    ∙ ap (λ (bs : List Bar). bars_stopped w s (bars_in w time ss n) ++ bs) (one_in w s time (is_task n s.next))
