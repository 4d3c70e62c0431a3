-- A switch stops one bar alone: the last one on its CPU, of the task that had the CPU.
use Rattle.std.proofs.Common.{◌≡◌, ◌≢◌, ℕ, suc, ◌+◌, ◌≤◌, ◌<◌, Bool, true, false, true≢false, cond, eqb, ⊎_elim, ◌⊎◌, inl, inr, List, [], ◌∷◌, ◌++◌, get_or, set, take, drop, map, Option, Some, None, refl, sym, ap, ◌∙◌, arith, subst, eq-eqb, All}
use Rattle.std.specs.Prelude.{filter, min}
use Rattle.std.specs.List.{remove}
use Rattle.std.proofs.Math.Nat.{min-eq_left}
use Rattle.std.proofs.lemmas.Bool.{eqb-true}
use Rattle.std.proofs.lemmas.List.{map-append, take-append-drop, take-set, drop-set, drop_more, get_or-take, length-take}
use Rattle.std.proofs.lemmas.List.Kept.{AllPairs-cons, AllPairs-filter}
use Rattle.std.proofs.lemmas.List.Elements.{All-nil, All-cons, All-head, All-tail, All-take, All-drop, All-weaker, filter-append, filter_passes}
use Rattle.domain_run.specs.Switch.{Switch}
use Rattle.edf_pick.specs.Places.{is_task}
use Rattle.run_figures.specs.Stays.{until}
use Rattle.chart_pieces.specs.declared.row.Bar.{Bar}
use Rattle.chart_pieces.specs.declared.window.Window.{Window}
use Rattle.chart_pieces.specs.Window.{touches}
use Rattle.chart_pieces.specs.Bars.{bar_by, bars_of, bars_in}
use Rattle.chart_pieces.specs.private.Lines.{stopped_by, bars_stopped, EndInTurn, AreDrawn, IsLastOn, drawn_next, holder_from}

-- THE HOLDER of a CPU: it has switched by then, or nobody came to it
until_or_held : (w : Window) (time cpu t : ℕ) (who : Option ℕ) (ss : List Switch) → All (λ x. x.time ≤ t) ss
    → (until time cpu ss ≤ t) ⊎ ((until time cpu ss ≡ time) × (holder_from w time who cpu ss ≡ who))
until_or_held w time cpu t who [] all = inr (refl, refl)
until_or_held w time cpu t who (x ∷ xs) all =
    let first = All-head (λ (y : Switch). y.time ≤ t) x xs all in
    let rest = All-tail (λ (y : Switch). y.time ≤ t) x xs all in
    elim (eqb x.cpu cpu) as (λ b. (cond b x.time (until time cpu xs) ≤ t) ⊎ ((cond b x.time (until time cpu xs) ≡ time) × (holder_from w time (cond b (drawn_next w time x) who) cpu xs ≡ who))) [
      | true ↦ inl first
      | false ↦ until_or_held w time cpu t who xs rest
    ]

task_is : (n : ℕ) (o : Option ℕ) → is_task n o ≡ true → o ≡ Some n
task_is n None h = absurd (true≢false (sym h))
task_is n (Some m) h = ap Some (eqb-true m n h)

-- a bar in the window of a task that does not hold its CPU is over
abbrev IsOver : Window → ℕ → ℕ → Bar → Type 0
IsOver w cpu t b = touches w b.start b.stop ≡ true → b.cpu ≡ cpu → b.stop ≤ t

pub over_before : (w : Window) (time cpu t n : ℕ) (who : Option ℕ) (ss : List Switch) → All (λ x. x.time ≤ t) ss → holder_from w time who cpu ss ≢ Some n
    → All (λ b. touches w b.start b.stop ≡ true → b.cpu ≡ cpu → b.stop ≤ t) (bars_of time ss n)
over_before w time cpu t n who [] all other = All-nil (IsOver w cpu t)
over_before w time cpu t n who (x ∷ xs) all other =
    let rest = All-tail (λ (y : Switch). y.time ≤ t) x xs all in
    let bar = bar_by x (until time x.cpu xs) in
    let later = over_before w time cpu t n (cond (eqb x.cpu cpu) (drawn_next w time x) who) xs rest other in
    elim (is_task n x.next) as (λ b. is_task n x.next ≡ b → All (IsOver w cpu t) (cond b (bar ∷ []) [] ++ bars_of time xs n)) [
      | true ↦ λ yes. All-cons (IsOver w cpu t) bar (bars_of time xs n)
          (λ shown e. ⊎_elim
          (λ (l : until time cpu xs ≤ t). subst (λ k. until time k xs ≤ t) (sym e) l)
          (λ (held : (until time cpu xs ≡ time) × (holder_from w time (drawn_next w time x) cpu xs ≡ drawn_next w time x)).
          let end : until time x.cpu xs ≡ time = ap (λ k. until time k xs) e ∙ held.0 in
          let drawn : drawn_next w time x ≡ Some n = ap (λ c. cond c x.next None) (ap (touches w x.time) (sym end) ∙ shown) ∙ task_is n x.next yes in
          absurd (other (ap (λ c. holder_from w time (cond c (drawn_next w time x) who) cpu xs) (eq-eqb x.cpu cpu e) ∙ held.1 ∙ drawn)))
          (until_or_held w time cpu t (drawn_next w time x) xs rest))
          later
      | false ↦ λ no. later
    ] refl

-- IN TURN: where a bar comes on a CPU, the one before it is over
later_bar : (time cpu t n : ℕ) (ss : List Switch) → All (λ x. x.time ≤ t) ss → All (λ b. cpu ≡ b.cpu → until time cpu ss ≤ t) (bars_of time ss n)
later_bar time cpu t n [] all = All-nil (λ (b : Bar). cpu ≡ b.cpu → time ≤ t)
later_bar time cpu t n (x ∷ xs) all =
    let first = All-head (λ (y : Switch). y.time ≤ t) x xs all in
    let rest = All-tail (λ (y : Switch). y.time ≤ t) x xs all in
    let bar = bar_by x (until time x.cpu xs) in
    let more : All (λ b. cpu ≡ b.cpu → until time cpu (x ∷ xs) ≤ t) (bars_of time xs n) =
    All-weaker (λ (b : Bar). cpu ≡ b.cpu → until time cpu xs ≤ t) (λ (b : Bar). cpu ≡ b.cpu → until time cpu (x ∷ xs) ≤ t)
    (λ b h e. elim (eqb x.cpu cpu) as (λ c. cond c x.time (until time cpu xs) ≤ t) [ true ↦ first | false ↦ h e ])
    (bars_of time xs n) (later_bar time cpu t n xs rest) in
    elim (is_task n x.next) as (λ b. All (λ b. cpu ≡ b.cpu → until time cpu (x ∷ xs) ≤ t) (cond b (bar ∷ []) [] ++ bars_of time xs n)) [
      | true ↦ All-cons (λ (b : Bar). cpu ≡ b.cpu → until time cpu (x ∷ xs) ≤ t) bar (bars_of time xs n)
          (λ (e : cpu ≡ x.cpu). subst (λ c. cond c x.time (until time cpu xs) ≤ t) (sym (eq-eqb x.cpu cpu (sym e))) first)
          more
      | false ↦ more
    ]

in_turn : (time t n : ℕ) (ss : List Switch) → All (λ x. x.time ≤ t) ss → EndInTurn t (bars_of time ss n)
in_turn time t n [] all = λ i j d l m. absurd (omega (arith, m))
in_turn time t n (x ∷ xs) all =
    let rest = All-tail (λ (y : Switch). y.time ≤ t) x xs all in
    let bar = bar_by x (until time x.cpu xs) in
    let more = in_turn time t n xs rest in
    elim (is_task n x.next) as (λ b. EndInTurn t (cond b (bar ∷ []) [] ++ bars_of time xs n)) [
      | true ↦ AllPairs-cons (λ (a b : Bar). a.cpu ≡ b.cpu → a.stop ≤ t) bar (bars_of time xs n) (later_bar time x.cpu t n xs rest) more
      | false ↦ more
    ]

pub drawn_bars : (w : Window) (time t n : ℕ) (ss : List Switch) → All (λ x. x.time ≤ t) ss → AreDrawn w t (bars_in w time ss n)
drawn_bars w time t n ss all = record {
  in_turn = AllPairs-filter (λ (a b : Bar). a.cpu ≡ b.cpu → a.stop ≤ t) (λ (b : Bar). touches w b.start b.stop) (bars_of time ss n) (in_turn time t n ss all);
  shown = filter_passes (λ (b : Bar). touches w b.start b.stop) (bars_of time ss n);
}

-- WHAT A SWITCH LEAVES
unchanged : (s : Switch) (b : Bar) → (b.cpu ≡ s.cpu → b.stop ≤ s.time) → stopped_by s b ≡ b
unchanged s b over = elim (eqb s.cpu b.cpu) as (λ c. eqb s.cpu b.cpu ≡ c → cond c (record b { stop = min b.stop s.time }) b ≡ b) [
  | true ↦ λ yes. ap (λ (t : ℕ). record b { stop = t }) (min-eq_left (over (sym (eqb-true s.cpu b.cpu yes))))
  | false ↦ λ no. refl
] refl

pub untouched : (w : Window) (s : Switch) (bs : List Bar) → All (λ b. touches w b.start b.stop ≡ true) bs → All (λ b. b.cpu ≡ s.cpu → b.stop ≤ s.time) bs → bs ≡ bars_stopped w s bs
untouched w s [] shown over = refl
untouched w s (b ∷ bs) shown over =
    let all = bars_stopped w s bs in
    let same : stopped_by s b ≡ b = unchanged s b (All-head (λ (x : Bar). x.cpu ≡ s.cpu → x.stop ≤ s.time) b bs over) in
    let seen : touches w b.start b.stop ≡ true = All-head (λ (x : Bar). touches w x.start x.stop ≡ true) b bs shown in
    let more = untouched w s bs (All-tail (λ (x : Bar). touches w x.start x.stop ≡ true) b bs shown) (All-tail (λ (x : Bar). x.cpu ≡ s.cpu → x.stop ≤ s.time) b bs over) in
    ap (λ (xs : List Bar). b ∷ xs) more
    ∙ ap (λ t. cond t (b ∷ all) all) (sym seen)
    ∙ ap (λ (x : Bar). cond (touches w x.start x.stop) (x ∷ all) all) (sym same)

-- where no bar is on the CPU
pub none_on : (w : Window) (s : Switch) (bs : List Bar) → AreDrawn w s.time bs → All (λ b. b.cpu ≢ s.cpu) bs → bs ≡ bars_stopped w s bs
none_on w s bs drawn none =
    untouched w s bs drawn.shown (All-weaker (λ (b : Bar). b.cpu ≢ s.cpu) (λ (b : Bar). b.cpu ≡ s.cpu → b.stop ≤ s.time) (λ b ne e. absurd (ne e)) bs none)

-- of two parts
both_stopped : (w : Window) (s : Switch) (xs ys : List Bar) → bars_stopped w s (xs ++ ys) ≡ bars_stopped w s xs ++ bars_stopped w s ys
both_stopped w s xs ys =
    let p : Bar → Bool = λ b. touches w b.start b.stop in
    ap (filter p) (map-append (stopped_by s) xs ys) ∙ filter-append p (map (stopped_by s) xs) (map (stopped_by s) ys)

-- the last bar on the CPU is stopped, or taken out
abbrev last_stopped : Window → Switch → List Bar → ℕ → Bar → List Bar
last_stopped w s bs place b =
    take place bs ++ cond (touches w b.start (min b.stop s.time)) (record b { stop = min b.stop s.time } ∷ drop (place + 1) bs) (drop (place + 1) bs)

one_stopped : (w : Window) (s : Switch) (b : Bar) (bs : List Bar) → b.cpu ≡ s.cpu → bars_stopped w s (b ∷ bs) ≡ cond (touches w b.start (min b.stop s.time)) (record b { stop = min b.stop s.time } ∷ bars_stopped w s bs) (bars_stopped w s bs)
one_stopped w s b bs e =
    let all = bars_stopped w s bs in
    ap (λ c. cond (touches w (cond c (record b { stop = min b.stop s.time }) b).start (cond c (record b { stop = min b.stop s.time }) b).stop) (cond c (record b { stop = min b.stop s.time }) b ∷ all) all) (eq-eqb s.cpu b.cpu (sym e))

before_over : (w : Window) (s : Switch) (bs : List Bar) (place : ℕ) → AreDrawn w s.time bs → IsLastOn bs s.cpu place → All (λ b. b.cpu ≡ s.cpu → b.stop ≤ s.time) (take place bs)
before_over w s bs place drawn is k d l =
    let before : k < place = omega (arith, l, length-take place bs) in
    let at : get_or (take place bs) k d ≡ get_or bs k d = get_or-take place bs k d before in
    subst (λ (b : Bar). b.cpu ≡ s.cpu → b.stop ≤ s.time) (sym at) (λ e. drawn.in_turn k place d before is.inside (e ∙ sym (is.own d)))

last_is : (w : Window) (s : Switch) (bs : List Bar) (place : ℕ) (d : Bar) → AreDrawn w s.time bs → IsLastOn bs s.cpu place → last_stopped w s bs place (get_or bs place d) ≡ bars_stopped w s bs
last_is w s bs place d drawn is =
    let b = get_or bs place d in
    let first = take place bs in
    let later = drop (place + 1) bs in
    let shown : Bar → Type 0 = λ x. touches w x.start x.stop ≡ true in
    let over : Bar → Type 0 = λ x. x.cpu ≡ s.cpu → x.stop ≤ s.time in
    let whole : bs ≡ first ++ b ∷ later = sym (take-append-drop place bs) ∙ ap (λ (xs : List Bar). first ++ xs) (drop_more bs place d is.inside) in
    let same : first ≡ bars_stopped w s first = untouched w s first (All-take (λ (x : Bar). touches w x.start x.stop ≡ true) place bs drawn.shown) (before_over w s bs place drawn is) in
    let rest : later ≡ bars_stopped w s later =
    untouched w s later (All-drop (λ (x : Bar). touches w x.start x.stop ≡ true) (place + 1) bs drawn.shown)
    (All-weaker (λ (x : Bar). x.cpu ≢ s.cpu) (λ (x : Bar). x.cpu ≡ s.cpu → x.stop ≤ s.time) (λ x ne e. absurd (ne e)) later is.later) in
    (λ i. same i ++ cond (touches w b.start (min b.stop s.time)) (record b { stop = min b.stop s.time } ∷ rest i) (rest i))
    ∙ ap (λ (xs : List Bar). bars_stopped w s first ++ xs) (sym (one_stopped w s b later (is.own d)))
    ∙ sym (both_stopped w s first (b ∷ later))
    ∙ ap (bars_stopped w s) (sym whole)

-- as it is written
pub last_set : (w : Window) (s : Switch) (bs : List Bar) (place : ℕ) (d b : Bar) → AreDrawn w s.time bs → IsLastOn bs s.cpu place
    → touches w (get_or bs place d).start (min (get_or bs place d).stop s.time) ≡ true → b ≡ record (get_or bs place d) { stop = min (get_or bs place d).stop s.time } → set bs place b ≡ bars_stopped w s bs
last_set w s bs place d b drawn is shown e =
    let x = get_or bs place d in
    let now : Bar = record x { stop = min x.stop s.time } in
    ap (set bs place) e
    ∙ sym (take-append-drop place (set bs place now))
    ∙ (λ i. take-set bs place now i ++ drop-set bs place now is.inside i)
    ∙ ap (λ c. take place bs ++ cond c (now ∷ drop (place + 1) bs) (drop (place + 1) bs)) (sym shown)
    ∙ last_is w s bs place d drawn is

pub last_removed : (w : Window) (s : Switch) (bs now : List Bar) (place : ℕ) (d : Bar) → AreDrawn w s.time bs → IsLastOn bs s.cpu place
    → touches w (get_or bs place d).start (min (get_or bs place d).stop s.time) ≡ false → now ≡ remove bs place → now ≡ bars_stopped w s bs
last_removed w s bs now place d drawn is out e =
    let x = get_or bs place d in
    let next : suc place ≡ place + 1 = omega arith in
    e ∙ ap (λ n. take place bs ++ drop n bs) next
    ∙ ap (λ c. take place bs ++ cond c (record x { stop = min x.stop s.time } ∷ drop (place + 1) bs) (drop (place + 1) bs)) (sym out)
    ∙ last_is w s bs place d drawn is
