-- A script that is read is spelled so, and a script that is spelled is read.
use Rattle.std.proofs.Common.{◌≡◌, ℕ, ◌≤◌, ◌<◌, Bool, true, false, ◌&&◌, cond, eqb, List, [], ◌∷◌, ◌++◌, length, Option, Some, None, refl, sym, ap, subst, ◌∙◌, append_assoc, inl, inr, arith, ℤ, pos, negsuc, w64, to_z, of_z}
use Rattle.std.specs.Prelude.{decimal, codes, IfSome}
use Rattle.std.specs.Char.{is_ascii_digit}
use Rattle.std.specs.Str.{bytes_eq}
use Rattle.std.specs.Option.{option_map_or}
use Rattle.std.specs.List.{flat_map, AllByRecursion}
use Rattle.std.proofs.lemmas.Int.{to_z-of_z, ints}
use Rattle.std.proofs.lemmas.Bool.{cases_Bool, and_parts, eqb-true, eqb-false, ne_eqb}
use Rattle.std.proofs.lemmas.Option.{same_Some}
use Rattle.std.proofs.lemmas.List.{append-nil, length-append}
use Rattle.std.proofs.lemmas.List.Elements.{All-from_recursion, recursion_from_All, All-weaker}
use Rattle.std.proofs.lemmas.Slice.Eq.{bytes_eq-Decides}
use Rattle.task_script.specs.declared.phase.Event.{Event}
use Rattle.task_script.specs.declared.phase.Event.TheVariants.{Run, Sleep, Timer, Wait}
use Rattle.task_script.specs.script.Segments.{rounds_of, IsLoops}
use Rattle.task_script.specs.script.ScriptView.{PhaseView, ScriptView, script_of, IsEvent, IsPhase, IsScript}
use Rattle.calls_text.specs.Spelling.{event_text, events_text, phase_text, loops_text, script_text}
use Rattle.calls_text.specs.private.Reading.{◌>>=◌, cut_at, number_within_at, lasting_at, event_parsed, event_first_at, events_at, phase_at, phase_first_at, phases_at, rounds_at, script_at}
use Rattle.calls_text.proofs.Cuts.{Lacks, Lacks-append, cut_takes, cut_none, cut_again}
use Rattle.calls_text.proofs.Numbers.{bind_some, within_takes, within_again, decimal_lacks}
use Rattle.calls_text.proofs.Lists.{ReadsItems, TookItem, many_takes, many_again, joined-comma, joined-flat}

-- ---- events

nothing_left : (rest : List ℕ) → length rest ≡ 0 → rest ≡ []
nothing_left [] e = refl
nothing_left (x ∷ rest) e = absurd (omega arith)

-- an event of so many microseconds
lasting_takes : (letter : ℕ) (event : ℕ → Event) (digits : List ℕ) (e : Event) → ((n : ℕ) → (0 < n) × (n ≤ 1000000000) → IsEvent (event n)) → ((n : ℕ) → letter ∷ decimal n ≡ event_text (event n))
    → lasting_at event digits ≡ Some e → IsEvent e × (letter ∷ digits ≡ event_text e)
lasting_takes letter event digits e within text h =
    let b = bind_some (number_within_at 1 1000000000 digits) (λ n. Some (event n)) e h in
    let w = within_takes 1 1000000000 digits b.0 b.1 in
    subst (λ (x : Event). IsEvent x × (letter ∷ digits ≡ event_text x)) (same_Some (event b.0) e b.2) (within b.0 (omega (arith, w.1), w.2), ap (λ (d : List ℕ). letter ∷ d) w.0 ∙ text b.0)

wait_takes : (c : ℕ) (digits : List ℕ) (e : Event) → (eqb c 119 && eqb (length digits) 0) ≡ true → Some Wait ≡ Some e → IsEvent e × (c ∷ digits ≡ event_text e)
wait_takes c digits e is h =
    let p = and_parts (eqb c 119) (eqb (length digits) 0) is in
    subst (λ (x : Event). IsEvent x × (c ∷ digits ≡ event_text x)) (same_Some Wait e h)
    (tt, ap (λ (x : ℕ). x ∷ digits) (eqb-true _ _ p.0) ∙ ap (λ (d : List ℕ). 119 ∷ d) (nothing_left digits (eqb-true _ _ p.1)))

with_letter : (c letter : ℕ) (digits : List ℕ) (e : Event) → eqb c letter ≡ true → IsEvent e × (letter ∷ digits ≡ event_text e) → IsEvent e × (c ∷ digits ≡ event_text e)
with_letter c letter digits e is t = (t.0, ap (λ (x : ℕ). x ∷ digits) (eqb-true _ _ is) ∙ t.1)

by_letter : (c : ℕ) (digits : List ℕ) (e : Event) (run sleep timer wait : Bool) → eqb c 114 ≡ run → eqb c 115 ≡ sleep → eqb c 116 ≡ timer → (eqb c 119 && eqb (length digits) 0) ≡ wait
    → cond run (lasting_at Run digits) (cond sleep (lasting_at Sleep digits) (cond timer (lasting_at Timer digits) (cond wait (Some Wait) None))) ≡ Some e
    → IsEvent e × (c ∷ digits ≡ event_text e)
by_letter c digits e true sleep timer wait is e2 e3 e4 h = with_letter c 114 digits e is (lasting_takes 114 Run digits e (λ n w. w) (λ n. refl) h)
by_letter c digits e false true timer wait e1 is e3 e4 h = with_letter c 115 digits e is (lasting_takes 115 Sleep digits e (λ n w. w) (λ n. refl) h)
by_letter c digits e false false true wait e1 e2 is e4 h = with_letter c 116 digits e is (lasting_takes 116 Timer digits e (λ n w. w) (λ n. refl) h)
by_letter c digits e false false false true e1 e2 e3 is h = wait_takes c digits e is h
by_letter c digits e false false false false e1 e2 e3 e4 h = absurd cc

event_takes : (text : List ℕ) (e : Event) → event_parsed text ≡ Some e → IsEvent e × (text ≡ event_text e)
unfolding event_parsed
event_takes [] e h = absurd cc
event_takes (c ∷ digits) e h = by_letter c digits e (eqb c 114) (eqb c 115) (eqb c 116) (eqb c 119 && eqb (length digits) 0) refl refl refl refl h

pub event_again : (e : Event) → IsEvent e → event_parsed (event_text e) ≡ Some e
unfolding event_parsed
event_again (Run n) is = rw (within_again 1 1000000000 n (omega (arith, is.0)) is.1 (omega arith)) refl
event_again (Sleep n) is = rw (within_again 1 1000000000 n (omega (arith, is.0)) is.1 (omega arith)) refl
event_again (Timer n) is = rw (within_again 1 1000000000 n (omega (arith, is.0)) is.1 (omega arith)) refl
event_again Wait is = refl

-- a byte that stands in no event
pub record IsMark (c : ℕ) : Type 0 where
  pub digit : is_ascii_digit c ≡ false
  pub run : eqb 114 c ≡ false
  pub sleep : eqb 115 c ≡ false
  pub timer : eqb 116 c ≡ false
  pub wait : eqb 119 c ≡ false

pub event_lacks : (c : ℕ) (e : Event) → IsMark c → IsEvent e → Lacks c (event_text e)
event_lacks c (Run n) mark is = (eqb-false _ _ mark.run, decimal_lacks c n mark.digit (omega (arith, is.1)))
event_lacks c (Sleep n) mark is = (eqb-false _ _ mark.sleep, decimal_lacks c n mark.digit (omega (arith, is.1)))
event_lacks c (Timer n) mark is = (eqb-false _ _ mark.timer, decimal_lacks c n mark.digit (omega (arith, is.1)))
event_lacks c Wait mark is = (eqb-false _ _ mark.wait, tt)

event_some : (e : Event) → 0 < length (event_text e)
event_some (Run n) = omega arith
event_some (Sleep n) = omega arith
event_some (Timer n) = omega arith
event_some Wait = omega arith

-- an item, and what follows it
abbrev put : {X : Type 0} → X → Option (List ℕ) → Option (X × Option (List ℕ))
put x rest = Some (x, rest)

first_by : (text : List ℕ) (x : Event) (rest : Option (List ℕ)) (o : Option (List ℕ × List ℕ)) → cut_at 44 text ≡ o
    → option_map_or (λ p. event_parsed p.0 >>= λ e. put e (Some p.1)) o (event_parsed text >>= λ e. put e None) ≡ put x rest
    → TookItem IsEvent (44 ∷ []) event_text text x rest
first_by text x rest None cut h =
    let b = bind_some (event_parsed text) (λ e. put e None) (x, rest) h in
    subst (λ (q : Event × Option (List ℕ)). TookItem IsEvent (44 ∷ []) event_text text q.0 q.1) (same_Some (b.0, None) (x, rest) b.2) (event_takes text b.0 b.1)
first_by text x rest (Some p) cut h =
    let b = bind_some (event_parsed p.0) (λ e. put e (Some p.1)) (x, rest) h in
    let t = event_takes p.0 b.0 b.1 in
    let whole : text ≡ event_text b.0 ++ (44 ∷ p.1) = cut_takes 44 text p cut ∙ ap (λ (a : List ℕ). a ++ (44 ∷ p.1)) t.1 in
    subst (λ (q : Event × Option (List ℕ)). TookItem IsEvent (44 ∷ []) event_text text q.0 q.1) (same_Some (b.0, Some p.1) (x, rest) b.2) (t.0, whole)

pub comma : IsMark 44
comma = record { digit = refl; run = refl; sleep = refl; timer = refl; wait = refl }

pub reads_events : ReadsItems event_first_at IsEvent (44 ∷ []) event_text
unfolding event_first_at
reads_events = record {
  takes = λ text x rest h. first_by text x rest (cut_at 44 text) refl h;
  last = λ x is. rw (cut_none 44 (event_text x) (event_lacks 44 x comma is), event_again x is) refl;
  again = λ x rest is some. rw (cut_again 44 (event_text x) rest (event_lacks 44 x comma is), event_again x is) refl;
  some = λ x is. event_some x;
}

pub record AreEventsRead (events : List Event) : Type 0 where
  pub some : 0 < length events
  pub few : length events ≤ 64
  pub each : AllByRecursion IsEvent events

events_take : (text : List ℕ) (events : List Event) → events_at text ≡ Some events → AreEventsRead events × (text ≡ events_text events)
events_take text events h =
    let t = many_takes event_first_at IsEvent (44 ∷ []) event_text reads_events 64 text events h in
    (record { some = t.some; few = t.few; each = t.each }, t.text_is ∙ joined-comma event_text events)

events_again : (events : List Event) → AreEventsRead events → events_at (events_text events) ≡ Some events
events_again events are = ap events_at (sym (joined-comma event_text events)) ∙ many_again event_first_at IsEvent (44 ∷ []) event_text reads_events 64 events are.some are.few are.each

events_lack : (c : ℕ) (events : List Event) → IsMark c → eqb 44 c ≡ false → AllByRecursion IsEvent events → Lacks c (events_text events)
events_lack c [] mark no_comma each = tt
events_lack c (e ∷ []) mark no_comma each = event_lacks c e mark each.0
events_lack c (e ∷ f ∷ events) mark no_comma each = Lacks-append c (event_text e) (44 ∷ events_text (f ∷ events)) (event_lacks c e mark each.0) (eqb-false _ _ no_comma, events_lack c (f ∷ events) mark no_comma each.1)

-- ---- phases

abbrev pub IsPhaseRead : PhaseView → Type 0
IsPhaseRead p = (0 < p.count) × (p.count ≤ 1000000000) × AreEventsRead p.events

-- without the brace at its end
abbrev phase_body : PhaseView → List ℕ
phase_body p = decimal p.count ++ (123 ∷ events_text p.events)

body_brace : (p : PhaseView) (rest : List ℕ) → phase_text p ++ rest ≡ phase_body p ++ (125 ∷ rest)
body_brace p rest = simp append_assoc

abbrev phase_of : ℕ → List Event → PhaseView
phase_of count events = record { count = count; events = events }

abbrev made_phase : ℕ → List Event → Option PhaseView
made_phase count events = Some (phase_of count events)

phase_takes : (text : List ℕ) (p : PhaseView) → phase_at text ≡ Some p → IsPhaseRead p × (text ≡ phase_body p)
unfolding phase_at
phase_takes text p h =
    let a = bind_some (cut_at 123 text) (λ q. number_within_at 1 1000000000 q.0 >>= λ count. events_at q.1 >>= λ events. made_phase count events) p h in
    let b = bind_some (number_within_at 1 1000000000 a.0.0) (λ count. events_at a.0.1 >>= λ events. made_phase count events) p a.2 in
    let d = bind_some (events_at a.0.1) (λ events. made_phase b.0 events) p b.2 in
    let count = within_takes 1 1000000000 a.0.0 b.0 b.1 in
    let events = events_take a.0.1 d.0 d.1 in
    let whole : text ≡ decimal b.0 ++ (123 ∷ events_text d.0) = cut_takes 123 text a.0 a.1 ∙ ap (λ (x : List ℕ). x ++ (123 ∷ a.0.1)) count.0 ∙ ap (λ (y : List ℕ). decimal b.0 ++ (123 ∷ y)) events.1 in
    subst (λ (q : PhaseView). IsPhaseRead q × (text ≡ phase_body q)) (same_Some (phase_of b.0 d.0) p d.2) ((omega (arith, count.1), count.2, events.0), whole)

phase_again : (p : PhaseView) → IsPhaseRead p → phase_at (phase_body p) ≡ Some p
unfolding phase_at
phase_again p is =
    rw (cut_again 123 (decimal p.count) (events_text p.events) (decimal_lacks 123 p.count refl (omega (arith, is.1))), within_again 1 1000000000 p.count (omega (arith, is.0)) is.1 (omega arith), events_again p.events is.2) refl

brace : IsMark 125
brace = record { digit = refl; run = refl; sleep = refl; timer = refl; wait = refl }

body_lacks : (c : ℕ) (p : PhaseView) → IsMark c → eqb 44 c ≡ false → eqb 123 c ≡ false → IsPhaseRead p → Lacks c (phase_body p)
body_lacks c p mark no_comma no_brace is =
    Lacks-append c (decimal p.count) (123 ∷ events_text p.events) (decimal_lacks c p.count mark.digit (omega (arith, is.1))) (eqb-false _ _ no_brace, events_lack c p.events mark no_comma is.2.each)

phase_some : (p : PhaseView) → 0 < length (phase_text p)
phase_some p = omega (arith, length-append (decimal p.count) (codes "{" ++ (events_text p.events ++ codes "}")))

first_phase : (text rest : List ℕ) (p : PhaseView) (after : Option (List ℕ)) (b : Bool) → eqb (length rest) 0 ≡ b → IsPhaseRead p → text ≡ phase_body p ++ (125 ∷ rest) → cond b None (Some rest) ≡ after → TookItem IsPhaseRead [] phase_text text p after
first_phase text rest p after true none is e h = subst (TookItem IsPhaseRead [] phase_text text p) h (is, e ∙ ap (λ (r : List ℕ). phase_body p ++ (125 ∷ r)) (nothing_left rest (eqb-true _ _ none)) ∙ sym (body_brace p []) ∙ append-nil (phase_text p))
first_phase text rest p after false some is e h = subst (TookItem IsPhaseRead [] phase_text text p) h (is, e ∙ sym (body_brace p rest))

reads_phases : ReadsItems phase_first_at IsPhaseRead [] phase_text
unfolding phase_first_at
reads_phases = record {
  takes = λ text x rest h.
      let a = bind_some (cut_at 125 text) (λ q. phase_at q.0 >>= λ p. put p (cond (eqb (length q.1) 0) None (Some q.1))) (x, rest) h in
      let b = bind_some (phase_at a.0.0) (λ p. put p (cond (eqb (length a.0.1) 0) None (Some a.0.1))) (x, rest) a.2 in
      let t = phase_takes a.0.0 b.0 b.1 in
      let whole : text ≡ phase_body b.0 ++ (125 ∷ a.0.1) = cut_takes 125 text a.0 a.1 ∙ ap (λ (y : List ℕ). y ++ (125 ∷ a.0.1)) t.1 in
      let made : PhaseView × Option (List ℕ) = (b.0, cond (eqb (length a.0.1) 0) None (Some a.0.1)) in
      subst (λ (q : PhaseView × Option (List ℕ)). TookItem IsPhaseRead [] phase_text text q.0 q.1) (same_Some made (x, rest) b.2)
      (first_phase text a.0.1 b.0 (cond (eqb (length a.0.1) 0) None (Some a.0.1)) (eqb (length a.0.1) 0) refl t.0 whole refl);
  last = λ x is.
      let e : phase_text x ≡ phase_body x ++ (125 ∷ []) = sym (append-nil (phase_text x)) ∙ body_brace x [] in
      rw (e, cut_again 125 (phase_body x) [] (body_lacks 125 x brace refl refl is), phase_again x is) refl;
  again = λ x rest is some.
      let left : eqb (length rest) 0 ≡ false = ne_eqb _ _ (λ z. omega (arith, some, z)) in
      rw (body_brace x rest, cut_again 125 (phase_body x) rest (body_lacks 125 x brace refl refl is), phase_again x is, left) refl;
  some = λ x is. phase_some x;
}

pub record ArePhasesRead (phases : List PhaseView) : Type 0 where
  pub some : 0 < length phases
  pub few : length phases ≤ 64
  pub each : AllByRecursion IsPhaseRead phases

phases_take : (text : List ℕ) (phases : List PhaseView) → phases_at text ≡ Some phases → ArePhasesRead phases × (text ≡ flat_map phase_text phases)
phases_take text phases h =
    let t = many_takes phase_first_at IsPhaseRead [] phase_text reads_phases 64 text phases h in
    (record { some = t.some; few = t.few; each = t.each }, t.text_is ∙ joined-flat phase_text phases)

phases_again : (phases : List PhaseView) → ArePhasesRead phases → phases_at (flat_map phase_text phases) ≡ Some phases
phases_again phases are = ap phases_at (sym (joined-flat phase_text phases)) ∙ many_again phase_first_at IsPhaseRead [] phase_text reads_phases 64 phases are.some are.few are.each

-- ---- scripts

abbrev AreRounds : Option ℕ → Type 0
AreRounds rounds = IfSome rounds (λ n. (0 < n) × (n ≤ 1000000000))

-- what the definitions say of a script that is read
pub is_phase : (p : PhaseView) → IsPhaseRead p → IsPhase p
is_phase p is = record { some = is.0; most = is.1; some_events = is.2.some; most_events = is.2.few; events = All-from_recursion IsEvent p.events is.2.each }

pub phase_is : (p : PhaseView) → IsPhase p → IsPhaseRead p
phase_is p is = (is.some, is.most, record { some = is.some_events; few = is.most_events; each = recursion_from_All IsEvent p.events is.events })

pub is_script : (s : ScriptView) → AreRounds s.rounds → ArePhasesRead s.phases → IsScript s
is_script s rounds are = record { rounds = rounds; some_phases = are.some; most_phases = are.few; phases = All-weaker IsPhaseRead IsPhase is_phase s.phases (All-from_recursion IsPhaseRead s.phases are.each) }

pub script_is : (s : ScriptView) → IsScript s → ArePhasesRead s.phases
script_is s is = record { some = is.some_phases; few = is.most_phases; each = recursion_from_All IsPhaseRead s.phases (λ k d lt. phase_is _ (is.phases k d lt)) }

rounds_by : (text : List ℕ) (rounds : Option ℕ) (b : Bool) → bytes_eq text (codes "-1") ≡ b → cond b (Some None) (number_within_at 1 1000000000 text >>= λ n. Some (Some n)) ≡ Some rounds → AreRounds rounds × (text ≡ loops_text rounds)
rounds_by text rounds true e h = subst (λ (r : Option ℕ). AreRounds r × (text ≡ loops_text r)) (same_Some None rounds h) (tt, (bytes_eq-Decides text (codes "-1")).0 e)
rounds_by text rounds false e h =
    let b = bind_some (number_within_at 1 1000000000 text) (λ n. Some (Some n)) rounds h in
    let w = within_takes 1 1000000000 text b.0 b.1 in
    subst (λ (r : Option ℕ). AreRounds r × (text ≡ loops_text r)) (same_Some (Some b.0) rounds b.2) ((omega (arith, w.1), w.2), w.0)

rounds_take : (text : List ℕ) (rounds : Option ℕ) → rounds_at text ≡ Some rounds → AreRounds rounds × (text ≡ loops_text rounds)
unfolding rounds_at
rounds_take text rounds h = rounds_by text rounds (bytes_eq text (codes "-1")) refl h

no_minus : (n : ℕ) → n ≤ 1000000000 → bytes_eq (decimal n) (codes "-1") ≡ false
no_minus n small =
    elim (cases_Bool (bytes_eq (decimal n) (codes "-1"))) [
      | inl is ↦ absurd ((subst (Lacks 45) ((bytes_eq-Decides (decimal n) (codes "-1")).0 is) (decimal_lacks 45 n refl (omega arith))).0 refl)
      | inr isnt ↦ isnt
    ]

rounds_again : (rounds : Option ℕ) → AreRounds rounds → rounds_at (loops_text rounds) ≡ Some rounds
unfolding rounds_at
rounds_again None is = refl
rounds_again (Some n) is = rw (no_minus n is.1, within_again 1 1000000000 n (omega (arith, is.0)) is.1 (omega arith)) refl

loops_lack : (c : ℕ) (rounds : Option ℕ) → is_ascii_digit c ≡ false → eqb 45 c ≡ false → AreRounds rounds → Lacks c (loops_text rounds)
loops_lack c None outside other is = (eqb-false _ _ other, (λ one. absurd (let e : is_ascii_digit c ≡ true = ap is_ascii_digit (sym one) in cc), tt))
loops_lack c (Some n) outside other is = decimal_lacks c n outside (omega (arith, is.1))

phases_lack : (c : ℕ) (phases : List PhaseView) → IsMark c → eqb 44 c ≡ false → eqb 123 c ≡ false → eqb 125 c ≡ false → AllByRecursion IsPhaseRead phases → Lacks c (flat_map phase_text phases)
phases_lack c [] mark no_comma no_brace no_end each = tt
phases_lack c (p ∷ phases) mark no_comma no_brace no_end each =
    let one : phase_text p ≡ phase_body p ++ (125 ∷ []) = sym (append-nil (phase_text p)) ∙ body_brace p [] in
    let first : Lacks c (phase_text p) = subst (Lacks c) (sym one) (Lacks-append c (phase_body p) (125 ∷ []) (body_lacks c p mark no_comma no_brace each.0) (eqb-false _ _ no_end, tt)) in
    Lacks-append c (phase_text p) (flat_map phase_text phases) first (phases_lack c phases mark no_comma no_brace no_end each.1)

-- a script has no line break
pub script_lacks : (s : ScriptView) → IsScript s → Lacks 10 (script_text s)
script_lacks s is =
    Lacks-append 10 (loops_text s.rounds) (58 ∷ flat_map phase_text s.phases) (loops_lack 10 s.rounds refl refl is.rounds)
    (eqb-false 58 10 refl, phases_lack 10 s.phases (record { digit = refl; run = refl; sleep = refl; timer = refl; wait = refl }) refl refl refl (script_is s is).each)

abbrev made_script : Option ℕ → List PhaseView → Option ScriptView
made_script rounds phases = Some (script_of rounds phases)

pub script_takes : (text : List ℕ) (s : ScriptView) → script_at text ≡ Some s → IsScript s × (text ≡ script_text s)
unfolding script_at
script_takes text s h =
    let a = bind_some (cut_at 58 text) (λ q. rounds_at q.0 >>= λ rounds. phases_at q.1 >>= λ phases. made_script rounds phases) s h in
    let b = bind_some (rounds_at a.0.0) (λ rounds. phases_at a.0.1 >>= λ phases. made_script rounds phases) s a.2 in
    let d = bind_some (phases_at a.0.1) (λ phases. made_script b.0 phases) s b.2 in
    let rounds = rounds_take a.0.0 b.0 b.1 in
    let phases = phases_take a.0.1 d.0 d.1 in
    let whole : text ≡ loops_text b.0 ++ (58 ∷ flat_map phase_text d.0) = cut_takes 58 text a.0 a.1 ∙ ap (λ (x : List ℕ). x ++ (58 ∷ a.0.1)) rounds.1 ∙ ap (λ (y : List ℕ). loops_text b.0 ++ (58 ∷ y)) phases.1 in
    subst (λ (q : ScriptView). IsScript q × (text ≡ script_text q)) (same_Some (script_of b.0 d.0) s d.2) (is_script (script_of b.0 d.0) rounds.0 phases.0, whole)

pub script_again : (s : ScriptView) → IsScript s → script_at (script_text s) ≡ Some s
unfolding script_at
script_again s is =
    rw (cut_again 58 (loops_text s.rounds) (flat_map phase_text s.phases) (loops_lack 58 s.rounds refl refl is.rounds), rounds_again s.rounds is.rounds, phases_again s.phases (script_is s is)) refl

-- the phases that are read are within the limits of a script
pub phases_within : (text : List ℕ) (rounds : Option ℕ) (phases : List PhaseView) → phases_at text ≡ Some phases → AreRounds rounds → IsScript (script_of rounds phases)
phases_within text rounds phases h is = is_script (script_of rounds phases) is (phases_take text phases h).0

kept : (z : ℤ) → IsLoops z → to_z w64 (of_z w64 z) ≡ z
kept (pos n) is = to_z-of_z w64 (pos n) (omega (arith, ints, is.1))
kept (negsuc n) is = to_z-of_z w64 (negsuc n) (omega (arith, ints, is))

rounds_within : (z : ℤ) → IsLoops z → AreRounds (rounds_of z)
rounds_within (pos n) is = is
rounds_within (negsuc n) is = tt

-- so a script of them is not refused
pub never_refused : (text : List ℕ) (z : ℤ) (phases : List PhaseView) → IsLoops z → phases_at text ≡ Some phases
    → (IsLoops (to_z w64 (of_z w64 z)) × IsScript (script_of (rounds_of (to_z w64 (of_z w64 z))) phases) → false ≡ true) → ⊥
never_refused text z phases is h refused =
    let whole = subst (λ (y : ℤ). IsLoops y × IsScript (script_of (rounds_of y) phases)) (sym (kept z is)) (is, phases_within text (rounds_of z) phases h (rounds_within z is)) in
    absurd (let e = refused whole in cc)
