-- Names that are added change no switch that was read before.
use Rattle.std.proofs.Common.{◌≡◌, ℕ, zero, suc, ◌<◌, List, [], ◌∷◌, ◌++◌, length, Option, Some, None, refl, sym, subst, ap, ◌∙◌, arith, map, append_assoc}
use Rattle.std.specs.Prelude.{slice_get, IfSome}
use Rattle.std.specs.Option.{option_and_then}
use Rattle.std.specs.List.{AllByRecursion}
use Rattle.std.proofs.lemmas.List.{map-append, length-append}
use Rattle.std.proofs.lemmas.Grind.{fold-append}
use Rattle.std.proofs.lemmas.List.Elements.{recursion_from_All, All-weaker, All-push}
use Rattle.recorded_text.specs.Names.{Grows, with_next, names_on}
use Rattle.recorded_text.specs.Line.{SwitchView}
use Rattle.recorded_text.specs.Text.{switches_in_line, switch_of}
use Rattle.recorded_text.specs.Line.{Seen, line_at}
use Rattle.recorded_text.specs.Steps.{step_view, IsNamed, AreNamed}
use Rattle.recorded_text.specs.declared.step.Step.{Step}

got_left : (xs ys : List (List ℕ)) (i : ℕ) → i < length xs → slice_get (xs ++ ys) i ≡ slice_get xs i
got_left [] ys i l = absurd (omega (arith, l))
got_left (x ∷ xs) ys zero l = refl
got_left (x ∷ xs) ys (suc i) l = got_left xs ys i (omega (arith, l))

named_left : (xs ys : List (List ℕ)) (t : Option ℕ) → IfSome t (λ i. i < length xs) → option_and_then (slice_get (xs ++ ys)) t ≡ option_and_then (slice_get xs) t
named_left xs ys None h = refl
named_left xs ys (Some i) h = got_left xs ys i h

view_kept : (old new : List (List ℕ)) (s : Step) → Grows old new → IsNamed old s → step_view new s ≡ step_view old s
view_kept old new s g h =
    let e : step_view new s ≡ step_view (old ++ g.more) s = ap (λ names. step_view names s) g.behind in
    e ∙ ap (λ (t : Option (List ℕ)). record { time = s.time; cpu = s.cpu; next = t }) (named_left old g.more s.task h.0)

views_kept : (old new : List (List ℕ)) (steps : List Step) → Grows old new → AllByRecursion (IsNamed old) steps → map (step_view new) steps ≡ map (step_view old) steps
views_kept old new [] g h = refl
views_kept old new (s ∷ ss) g h = rw (view_kept old new s g h.0, views_kept old new ss g h.1) refl

-- one more switch
pub view_more : (old new : List (List ℕ)) (before after : List Step) (s : Step) (line : List ℕ) (v : SwitchView) → Grows old new → AreNamed old before → after ≡ before ++ s ∷ [] → step_view new s ≡ v → Seen v ≡ line_at line → map (step_view new) after ≡ map (step_view old) before ++ switches_in_line line
view_more old new before after s line v g h e shown is =
    let tells : switches_in_line line ≡ v ∷ [] = ap switch_of (sym is) in
    ap (λ steps. map (step_view new) steps) e ∙ map-append (step_view new) before (s ∷ [])
    ∙ rw (views_kept old new before g (recursion_from_All (IsNamed old) before h), shown, tells) refl

-- each that was named still is, and the new one too
in_grown : (old new : List (List ℕ)) (t : Option ℕ) → Grows old new → IfSome t (λ i. i < length old) → IfSome t (λ i. i < length new)
in_grown old new None g h = tt
in_grown old new (Some i) g h = omega (arith, h, ap length g.behind, length-append old g.more)

pub named_more : (old new : List (List ℕ)) (before after : List Step) (s : Step) → Grows old new → AreNamed old before → after ≡ before ++ s ∷ [] → IsNamed new s → AreNamed new after
named_more old new before after s g h e named =
    let still = All-weaker (IsNamed old) (IsNamed new) (λ x was. (in_grown old new x.task g was.0, was.1)) before h in
    subst (AreNamed new) (sym e) (All-push (IsNamed new) before s still named)

-- names that grow and grow again have grown
pub grows_on : (a b c : List (List ℕ)) → Grows a b → Grows b c → Grows a c
grows_on a b c g h = record { more = g.more ++ h.more; behind = h.behind ∙ ap (λ names. names ++ h.more) g.behind ∙ append_assoc a g.more h.more }

-- the name that the line of a switch brings
pub line_brings : (old new : List (List ℕ)) (line : List ℕ) (v : SwitchView) → new ≡ with_next old v.next → Seen v ≡ line_at line → new ≡ names_on old (switches_in_line line)
line_brings old new line v h is =
    let tells : switches_in_line line ≡ v ∷ [] = ap switch_of (sym is) in
    h ∙ ap (λ switches. names_on old switches) (sym tells)

-- those of more switches
pub brings_more : (first old new : List (List ℕ)) (found more all : List SwitchView) → old ≡ names_on first found → new ≡ names_on old more → all ≡ found ++ more → new ≡ names_on first all
brings_more first old new found more all was is same =
    is ∙ ap (λ names. names_on names more) was ∙ sym (fold-append (λ (before : List (List ℕ)) (s : SwitchView). with_next before s.next) first found more) ∙ ap (λ switches. names_on first switches) (sym same)
