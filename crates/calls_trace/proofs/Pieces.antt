-- The run of a section while it is made: what is at hand and what is left.
use Rattle.std.proofs.Common.{◌≡◌, ℕ, ◌+◌, ◌≤◌, Option, Some, None, List, [], ◌∷◌, ◌++◌, sym, ap, ◌∙◌, append-nil}
use Rattle.std.specs.Prelude.{All, IfSome}
use Rattle.std.proofs.lemmas.List.Elements.{All-weaker}
use Rattle.domain_run.specs.Switch.{Switch}
use Rattle.domain_run.specs.declared.call.Call.{Call}
use Rattle.domain_run.specs.declared.call.Call.TheVariants.{Advance}
use Rattle.domain_run.specs.Domain.{Domain}
use Rattle.domain_run.specs.Passing.{with_past, without_front, without_switches}
use Rattle.domain_run.specs.Run.{after_calls}
use Rattle.domain_run.specs.Tick.{ticks}
use Rattle.domain_run.specs.Sound.{IsAdmitted, IsDomain, IsSwitch}
use Rattle.domain_run.proofs.CallerLemmas.{after_calls_after}
use Rattle.switch_text.specs.Names.{SameNames}
use Rattle.switch_text.specs.Trace.{SwitchesView}
use Rattle.calls_trace.specs.Replay.{names_of}
use Rattle.calls_trace.proofs.Keeping.{names_later, names_kept, rest_advanced, names_advanced}

-- ---- the switches at hand, and those that are left

pub restored : (d : Domain) → with_past d.switches (without_switches d) ≡ d
restored d = ap (λ (ss : List Switch). record d { switches = ss }) (append-nil d.switches)

-- the calls that are left make the same of a domain that forgot its switches
pub switches_left : (d : Domain) (cs : List Call) → (after_calls d cs).switches ≡ d.switches ++ (after_calls (without_switches d) cs).switches
switches_left d cs =
    ap (λ (e : Domain). (after_calls e cs).switches) (sym (restored d))
    ∙ ap (λ (e : Domain). e.switches) (after_calls_after d.switches (without_switches d) cs)

pub names_left : (d : Domain) (cs : List Call) (names : ℕ → List ℕ) (n : ℕ) → names_of (without_switches d) cs names n ≡ names_of d cs names n
names_left d cs names n =
    ap (λ (f : ℕ → List ℕ). f n) (sym (names_later d.switches (without_switches d) cs names) ∙ ap (λ (e : Domain). names_of e cs names) (restored d))

-- nothing is left
pub nothing_left : (d : Domain) (left : ℕ) (cs : List Call) → left ≡ 0 → cs ≡ [] → (after_calls (without_switches d) (Advance left ∷ cs)).switches ≡ []
nothing_left d left cs none last =
    ap (λ (k : ℕ). (after_calls (without_switches d) (Advance k ∷ cs)).switches) none ∙ ap (λ (xs : List Call). (after_calls (without_switches d) xs).switches) last

-- as it is written, by its first CPU of the machine, its names and its switches
abbrev pub run_as : ℕ → (ℕ → List ℕ) → List Switch → SwitchesView
run_as base names switches = record { base = base; names = names; switches = switches }

-- what leads to the same domain by the same names is the same whole
pub same_whole : (base : ℕ) (d e : Domain) (cs ds : List Call) (f g : ℕ → List ℕ) → after_calls e ds ≡ after_calls d cs → ((n : ℕ) → names_of e ds g n ≡ names_of d cs f n)
    → run_as base (names_of e ds g) (e.switches ++ (after_calls (without_switches e) ds).switches) ≡ run_as base (names_of d cs f) (d.switches ++ (after_calls (without_switches d) cs).switches)
same_whole base d e cs ds f g end names =
    let called : names_of e ds g ≡ names_of d cs f = λ i n. names n i in
    let switches = sym (switches_left e ds) ∙ ap (λ (x : Domain). x.switches) end ∙ switches_left d cs in
    ap (λ (h : ℕ → List ℕ). run_as base h (e.switches ++ (after_calls (without_switches e) ds).switches)) called ∙ ap (λ (ss : List Switch). run_as base (names_of d cs f) ss) switches

-- the switches at the front are no names
pub names_front : (count : ℕ) (d : Domain) (cs : List Call) (names : ℕ → List ℕ) (n : ℕ) → names_of (without_front count d) cs names n ≡ names_of d cs names n
names_front count d cs names n = sym (names_left (without_front count d) cs names n) ∙ names_left d cs names n

-- ---- a piece of an advance

pub end_advanced : (d e : Domain) (made left all : ℕ) (cs : List Call) → e ≡ ticks made d → made + left ≡ all → after_calls e (Advance left ∷ cs) ≡ after_calls d (Advance all ∷ cs)
end_advanced d e made left all cs is sum =
    ap (λ (x : Domain). after_calls x (Advance left ∷ cs)) is ∙ sym (rest_advanced made left d cs) ∙ ap (λ (k : ℕ). after_calls d (Advance k ∷ cs)) sum

pub names_on : (d e : Domain) (made left all : ℕ) (cs : List Call) (names : ℕ → List ℕ) (n : ℕ) → e ≡ ticks made d → made + left ≡ all → names_of e (Advance left ∷ cs) names n ≡ names_of d (Advance all ∷ cs) names n
names_on d e made left all cs names n is sum =
    ap (λ (x : Domain). names_of x (Advance left ∷ cs) names n) is ∙ ap (λ (f : ℕ → List ℕ). f n) (sym (names_advanced made left d cs names)) ∙ ap (λ (k : ℕ). names_of d (Advance k ∷ cs) names n) sum

-- ---- the next call

pub end_begun : (d e : Domain) (c : Call) (left now : ℕ) (cs all : List Call) → left ≡ 0 → all ≡ c ∷ cs → ticks now e ≡ after_calls d (c ∷ []) → after_calls e (Advance now ∷ cs) ≡ after_calls d (Advance left ∷ all)
end_begun d e c left now cs all none more made =
    ap (λ (x : Domain). after_calls x cs) made ∙ ap (after_calls d) (sym more) ∙ ap (λ (k : ℕ). after_calls d (Advance k ∷ all)) (sym none)

-- ---- as it is written

some_same : (d : Domain) (cs : List Call) (names : ℕ → List ℕ) (o : Option ℕ) → IfSome o (IsAdmitted d.used) → IfSome o (λ n. names n ≡ names_of d cs names n)
some_same d cs names None h = tt
some_same d cs names (Some n) h = sym (names_kept d cs names n h)

-- who occurs in it has the name that the whole run gives
pub same_names : (d : Domain) (cs : List Call) (names : ℕ → List ℕ) → IsDomain d → All (SameNames names (names_of d cs names)) d.switches
same_names d cs names is =
    All-weaker (IsSwitch d.cpus d.time d.used) (SameNames names (names_of d cs names)) (λ s h. record { prev = some_same d cs names s.prev h.prev; next = some_same d cs names s.next h.next }) d.switches is.traced.switches
