-- The pieces of an advance, one after the other.
use Rattle.std.proofs.Common.{◌≡◌, ◌≢◌, ℕ, zero, suc, ◌+◌, ◌*◌, ◌^◌, ◌<◌, ◌≤◌, List, [], ◌++◌, length, map, get_or, refl, sym, ap, subst, ◌∙◌, arith}
use Rattle.std.specs.Prelude.{All, AllPairs, IsTrue, Bool, true, if◌then◌else◌}
use Rattle.std.proofs.lemmas.List.{append-nil, append_assoc, length-append, length-map, get_or-map}
use Rattle.std.proofs.lemmas.List.Elements.{All-nil, All-append, All-weaker}
use Rattle.domain_run.specs.declared.happened.Happened.{Happened}
use Rattle.domain_run.specs.Switch.{Switch}
use Rattle.domain_run.specs.Domain.{Domain}
use Rattle.domain_run.specs.Log.{LogView, HasLogged}
use Rattle.domain_run.specs.Passing.{with_past, without_switches}
use Rattle.domain_run.specs.Sound.{IsDomain, IsSwitch}
use Rattle.domain_run.specs.Switches.{is_switch_before}
use Rattle.domain_run.specs.Tick.{ticks}
use Rattle.domain_run.specs.Happened.{logged_by_ticks}
use Rattle.domain_run.proofs.CallerLemmas.{ticks_time, ticks_cpus, ticks_after, logged_by_ticks_after, before_time, AllPairs-append, ticks_few, logged_few}
use Rattle.jump_run.proofs.CallerLemmas.{ticks_more, logged_more}
use Rattle.run_figures.specs.Accounting.{AccountingView, IsNextPiece, with_piece}
use Rattle.run_figures.specs.Runs.{AreTasks}
use Rattle.run_figures.specs.declared.run.Admitted.{Admitted}
use Rattle.streamed_run.specs.Streamed.{nothing_streamed, streamed_after, streamed_of, IsStreamedUpTo}
use Rattle.streamed_run.proofs.Bounded.{few_switches}
use Rattle.streamed_run.proofs.Span.{IsWithin, logged_within, made_later}

-- ---- some ticks, and then some of a domain that has forgotten its switches

after_itself : (d : Domain) → with_past d.switches (without_switches d) ≡ d
after_itself d = ap (λ (ss : List Switch). record d { switches = ss }) (append-nil d.switches)

-- the whole run, by the domain before the piece and that after it
pub joined : (k m : ℕ) (d e f : Domain) → e ≡ without_switches (ticks k d) → f ≡ ticks m e → ticks (k + m) d ≡ with_past (ticks k d).switches f
joined k m d e f is made =
    let b = ticks k d in
    sym (ticks_more k m d)
    ∙ ap (ticks m) (sym (after_itself b))
    ∙ ticks_after m b.switches (without_switches b)
    ∙ ap (λ (x : Domain). with_past b.switches (ticks m x)) (sym is)
    ∙ ap (with_past b.switches) (sym made)

pub logged_joined : (k m : ℕ) (d e : Domain) → e ≡ without_switches (ticks k d) → logged_by_ticks k d ++ logged_by_ticks m e ≡ logged_by_ticks (k + m) d
logged_joined k m d e is =
    let b = ticks k d in
    let same : logged_by_ticks m e ≡ logged_by_ticks m b =
    ap (logged_by_ticks m) is ∙ sym (logged_by_ticks_after m b.switches (without_switches b)) ∙ ap (logged_by_ticks m) (after_itself b) in
    ap (λ (hs : List Happened). logged_by_ticks k d ++ hs) same ∙ logged_more k m d

ticks_used : (n : ℕ) (d : Domain) → (ticks n d).used ≡ d.used
ticks_used zero d = refl
ticks_used (suc n) d = ticks_used n d

-- ---- the switches of a run

pub record IsSeen (d : Domain) : Type 0 where
  pub past : All (λ s. s.time < d.time) d.switches
  pub inside : All (λ s. s.cpu < d.cpus) d.switches
  pub rising : AllPairs (λ a b. IsTrue (is_switch_before a b)) d.switches

-- those of a domain
pub seen : (d : Domain) → IsDomain d → IsSeen d
seen d is = record {
  past = All-weaker (IsSwitch d.cpus d.time d.used) (λ (s : Switch). s.time < d.time) (λ s h. h.past) d.switches is.traced.switches;
  inside = All-weaker (IsSwitch d.cpus d.time d.used) (λ (s : Switch). s.cpu < d.cpus) (λ s h. h.inside) d.switches is.traced.switches;
  rising = is.traced.rising;
}

-- and with more, which were made later, after them
seen_later : (b f : Domain) → IsSeen b → IsSeen f → b.time ≤ f.time → b.cpus ≡ f.cpus → All (λ s. b.time ≤ s.time) f.switches → IsSeen (with_past b.switches f)
seen_later b f one two later cpus from = record {
  past = All-append (λ (s : Switch). s.time < f.time) b.switches f.switches (All-weaker (λ (s : Switch). s.time < b.time) (λ (s : Switch). s.time < f.time) (λ s h. omega (arith, h, later)) b.switches one.past) two.past;
  inside = All-append (λ (s : Switch). s.cpu < f.cpus) b.switches f.switches (All-weaker (λ (s : Switch). s.cpu < b.cpus) (λ (s : Switch). s.cpu < f.cpus) (λ s h. omega (arith, h, cpus)) b.switches one.inside) two.inside;
  rising = AllPairs-append (λ (x y : Switch). IsTrue (is_switch_before x y)) b.switches f.switches one.rising two.rising (λ i j x h k. before_time (get_or b.switches i x) (get_or f.switches j x) (omega (arith, one.past i x h, from j x k)));
}

seen_few : (d : Domain) → IsSeen d → d.cpus ≤ 64 → length d.switches ≤ d.time * 64
seen_few d is cpus = few_switches d.time d.switches (All-weaker (λ (s : Switch). s.cpu < d.cpus) (λ (s : Switch). s.cpu < 64) (λ s h. omega (arith, h, cpus)) d.switches is.inside) is.past is.rising

-- ---- THE FIRST PIECE: the switches so far

first_piece : (n : ℕ) (d : Domain) → IsDomain d → d.time + n ≤ 2 ^ 42 → IsNextPiece (nothing_streamed n d) [] d.switches
first_piece n d is early =
    let s = seen d is in
    record {
      logged = All-weaker (λ (s : Switch). s.time < d.time) (λ (s : Switch). All (λ (h : Happened). h.time ≤ s.time) []) (λ s h. All-nil _) d.switches s.past;
      later = All-nil _;
      rising = s.rising;
      past = All-weaker (λ (s : Switch). s.time < d.time) (λ (s : Switch). s.time ≤ d.time + n) (λ s h. omega (arith, h)) d.switches s.past;
      inside = s.inside;
      few_happened = omega arith;
      few_switches = omega (arith, seen_few d s is.steady.cpus.1, early);
    }

pub nothing_up_to : (n : ℕ) (d : Domain) (a : AccountingView) (since : List Happened) → IsDomain d → d.time + n ≤ 2 ^ 42 → a ≡ nothing_streamed n d → since ≡ [] → IsStreamedUpTo d since a
nothing_up_to n d a since is early new none =
    let nothing : IsStreamedUpTo d [] (nothing_streamed n d) = record {
      same_cpus = refl;
      next = first_piece n d is early;
      past = All-nil _;
      inside = All-nil _;
      logged = All-nil _;
      logged_since = All-nil _;
      few = omega arith;
    } in
    subst (λ (x : AccountingView). IsStreamedUpTo d since x) (sym new) (subst (λ (hs : List Happened). IsStreamedUpTo d hs (nothing_streamed n d)) (sym none) nothing)

-- ---- what the advance keeps, once some ticks are streamed

-- the domain with all switches of the run
abbrev pub whole_of : AccountingView → ℕ → Domain → Domain
whole_of was k d = with_past was.switches (ticks k d)

-- some ticks of a domain are streamed, after what the accounting streamed before
abbrev pub streamed_so_far : AccountingView → List Happened → ℕ → Domain → AccountingView
streamed_so_far was since k d = with_piece was (since ++ logged_by_ticks k d) (ticks k d).switches

pub record IsStreamed (was : AccountingView) (since : List Happened) (k : ℕ) (d e : Domain) (a : AccountingView) (log : LogView) : Type 0 where
  pub state : e ≡ without_switches (ticks k d)
  pub streamed : a ≡ streamed_so_far was since k d
  pub switches : IsSeen (whole_of was k d)
  pub wanted : log.wanted ≡ true
  pub empty : log.happened ≡ []

-- ---- THE NEXT PIECE

-- what a log that had nothing was logged
pub logged_alone : (hs : List Happened) (before after : LogView) → before.wanted ≡ true → before.happened ≡ [] → HasLogged before hs after → (after.wanted ≡ true) × (after.happened ≡ hs)
logged_alone hs before after wanted empty has_logged = (
  has_logged.wanted ∙ wanted,
  has_logged.happened ∙ ap (λ (gs : List Happened). gs ++ (if before.wanted then hs else [])) empty ∙ ap (λ (b : Bool). if b then hs else []) wanted,
)

pub time_after : (k m : ℕ) (d e f : Domain) → e ≡ without_switches (ticks k d) → f ≡ ticks m e → f.time ≡ d.time + (k + m)
time_after k m d e f is made =
    let at : e.time ≡ d.time + k = ap (λ (x : Domain). x.time) is ∙ ticks_time k d in
    let more : f.time ≡ e.time + m = ap (λ (x : Domain). x.time) made ∙ ticks_time m e in
    omega (arith, at, more)

-- its switches are made at the time of its beginning, or later
from_beginning : (k m : ℕ) (d e f : Domain) → e ≡ without_switches (ticks k d) → f ≡ ticks m e → All (λ s. d.time + k ≤ s.time) f.switches
from_beginning k m d e f is made =
    let none : e.switches ≡ [] = ap (λ (x : Domain). x.switches) is in
    let at : e.time ≡ d.time + k = ap (λ (x : Domain). x.time) is ∙ ticks_time k d in
    subst (λ (x : Domain). All (λ (s : Switch). d.time + k ≤ s.time) x.switches) (sym made)
    (All-weaker (λ (s : Switch). e.time ≤ s.time) (λ (s : Switch). d.time + k ≤ s.time) (λ s h. omega (arith, h, at)) (ticks m e).switches (made_later m e none))

cpus_after : (k m : ℕ) (d e f : Domain) → e ≡ without_switches (ticks k d) → f ≡ ticks m e → f.cpus ≡ d.cpus
cpus_after k m d e f is made = ap (λ (x : Domain). x.cpus) made ∙ ticks_cpus m e ∙ ap (λ (x : Domain). x.cpus) is ∙ ticks_cpus k d

-- of what was streamed nothing is later than this
logged_past : (was : AccountingView) (since : List Happened) (k : ℕ) (d : Domain) → IsStreamedUpTo d since was → All (λ h. h.time ≤ d.time + k) (was.happened ++ (since ++ logged_by_ticks k d))
logged_past was since k d up_to =
    let P : Happened → Type 0 = λ h. h.time ≤ d.time + k in
    let early : Happened → Type 0 = λ h. h.time ≤ d.time in
    All-append P was.happened (since ++ logged_by_ticks k d)
    (All-weaker early P (λ h l. omega (arith, l)) was.happened up_to.logged)
    (All-append P since (logged_by_ticks k d)
    (All-weaker early P (λ h l. omega (arith, l)) since up_to.logged_since)
    (All-weaker (IsWithin d.time (d.time + k)) P (λ h w. w.1) (logged_by_ticks k d) (logged_within k d)))

-- and it is this much at most
logged_length : (was : AccountingView) (since : List Happened) (k : ℕ) (d : Domain) → length d.tasks ≤ 256 → length (was.happened ++ (since ++ logged_by_ticks k d)) ≤ length was.happened + length since + 2304 * k
logged_length was since k d few = omega (arith, logged_few k d few, length-append was.happened (since ++ logged_by_ticks k d), length-append since (logged_by_ticks k d))

next_of : (was : AccountingView) (since : List Happened) (k m : ℕ) (d e f : Domain) → IsDomain d → IsSeen f → IsStreamedUpTo d since was → d.time + (k + m) ≤ was.time → was.time ≤ 2 ^ 42 → IsSeen (whole_of was k d) → e ≡ without_switches (ticks k d) → f ≡ ticks m e
    → IsNextPiece (streamed_so_far was since k d) (logged_by_ticks m e) f.switches
next_of was since k m d e f first more up_to most early switches is made =
    let b = whole_of was k d in
    let now : b.time ≡ d.time + k = ticks_time k d in
    let at : e.time ≡ d.time + k = ap (λ (x : Domain). x.time) is ∙ now in
    let end = time_after k m d e f is made in
    let cpus = cpus_after k m d e f is made in
    let from = from_beginning k m d e f is made in
    let tasks : length e.tasks ≤ 256 = omega (arith, ap (λ (x : Domain). length x.tasks) is, ticks_few k d, first.steady.listed) in
    let limit = first.steady.cpus.1 in
    let whole = seen_later b f switches more (omega (arith, now, end)) (ticks_cpus k d ∙ sym cpus) (All-weaker (λ (s : Switch). d.time + k ≤ s.time) (λ (s : Switch). b.time ≤ s.time) (λ s h. omega (arith, h, now)) f.switches from) in
    let streamed = was.happened ++ (since ++ logged_by_ticks k d) in
    record {
      logged = All-weaker (λ (s : Switch). d.time + k ≤ s.time) (λ (s : Switch). All (λ (h : Happened). h.time ≤ s.time) streamed)
          (λ s later. All-weaker (λ (h : Happened). h.time ≤ d.time + k) (λ (h : Happened). h.time ≤ s.time) (λ h l. omega (arith, l, later)) streamed (logged_past was since k d up_to)) f.switches from;
      later = All-weaker (IsWithin e.time (e.time + m)) (λ (h : Happened). All (λ (s : Switch). s.time < h.time) b.switches)
          (λ h w. All-weaker (λ (s : Switch). s.time < b.time) (λ (s : Switch). s.time < h.time) (λ s past. omega (arith, past, w.0, at, now)) b.switches switches.past) (logged_by_ticks m e) (logged_within m e);
      rising = whole.rising;
      past = All-weaker (λ (s : Switch). s.time < f.time) (λ (s : Switch). s.time ≤ was.time) (λ s h. omega (arith, h, end, most)) f.switches more.past;
      inside = All-weaker (λ (s : Switch). s.cpu < f.cpus) (λ (s : Switch). s.cpu < was.cpus) (λ s h. omega (arith, h, cpus, up_to.same_cpus)) f.switches more.inside;
      few_happened = omega (arith, logged_length was since k d first.steady.listed, logged_few m e tasks, up_to.few, most, early);
      few_switches = omega (arith, seen_few b switches (omega (arith, ticks_cpus k d, limit)), seen_few f more (omega (arith, cpus, limit)), now, end, most, early);
    }

pub piece_seen : (was : AccountingView) (since : List Happened) (k m : ℕ) (d e f : Domain) (a : AccountingView) (log : LogView) → IsDomain d → IsSeen f → IsStreamedUpTo d since was → d.time + (k + m) ≤ was.time → was.time ≤ 2 ^ 42 → IsStreamed was since k d e a log → f ≡ ticks m e
    → IsNextPiece a (logged_by_ticks m e) f.switches
piece_seen was since k m d e f a log first more up_to most early streamed made =
    subst (λ (x : AccountingView). IsNextPiece x (logged_by_ticks m e) f.switches) (sym streamed.streamed) (next_of was since k m d e f first more up_to most early streamed.switches streamed.state made)

pub next_piece : (was : AccountingView) (since : List Happened) (k m : ℕ) (d e f : Domain) (a : AccountingView) (log : LogView) → IsDomain d → IsDomain f → IsStreamedUpTo d since was → d.time + (k + m) ≤ was.time → was.time ≤ 2 ^ 42 → IsStreamed was since k d e a log → f ≡ ticks m e
    → IsNextPiece a (logged_by_ticks m e) f.switches
next_piece was since k m d e f a log first last up_to most early streamed made = piece_seen was since k m d e f a log first (seen f last) up_to most early streamed made

-- which is streamed, and forgotten
streamed_more : (was : AccountingView) (since : List Happened) (k m : ℕ) (d e f : Domain) (a : AccountingView) (log now : LogView) → IsSeen f → IsStreamed was since k d e a log → f ≡ ticks m e → now.wanted ≡ true → now.happened ≡ []
    → IsStreamed was since (k + m) d (without_switches f) (with_piece a (logged_by_ticks m e) f.switches) now
streamed_more was since k m d e f a log now more is made wanted empty =
    let b = ticks k d in
    let w = whole_of was k d in
    let all = joined k m d e f is.state made in
    let time : b.time ≡ d.time + k = ticks_time k d in
    let end = time_after k m d e f is.state made in
    let cpus = cpus_after k m d e f is.state made in
    let from = from_beginning k m d e f is.state made in
    let whole = seen_later w f is.switches more (omega (arith, time, end)) (ticks_cpus k d ∙ sym cpus) (All-weaker (λ (s : Switch). d.time + k ≤ s.time) (λ (s : Switch). b.time ≤ s.time) (λ s h. omega (arith, h, time)) f.switches from) in
    let logged : (was.happened ++ (since ++ logged_by_ticks k d)) ++ logged_by_ticks m e ≡ was.happened ++ (since ++ logged_by_ticks (k + m) d) =
    append_assoc was.happened (since ++ logged_by_ticks k d) (logged_by_ticks m e)
    ∙ ap (λ (hs : List Happened). was.happened ++ hs) (append_assoc since (logged_by_ticks k d) (logged_by_ticks m e) ∙ ap (λ (hs : List Happened). since ++ hs) (logged_joined k m d e is.state)) in
    let made_all : b.switches ++ f.switches ≡ (ticks (k + m) d).switches = sym (ap (λ (x : Domain). x.switches) all) in
    let switches : (was.switches ++ b.switches) ++ f.switches ≡ was.switches ++ (ticks (k + m) d).switches =
    append_assoc was.switches b.switches f.switches ∙ ap (λ (ss : List Switch). was.switches ++ ss) made_all in
    let same : with_past w.switches f ≡ whole_of was (k + m) d =
    ap (λ (ss : List Switch). record f { switches = ss }) (append_assoc was.switches b.switches f.switches) ∙ ap (with_past was.switches) (sym all) in
    record {
      state = sym (ap without_switches all);
      streamed = ap (λ (x : AccountingView). with_piece x (logged_by_ticks m e) f.switches) is.streamed
          ∙ (λ i. record was { happened = logged i; switches = switches i });
      switches = subst IsSeen same whole;
      wanted = wanted;
      empty = empty;
    }

-- what an accounting that streamed the run up to here has to do with it
seen_up_to : (was : AccountingView) (since : List Happened) (d : Domain) → IsDomain d → IsStreamedUpTo d since was → IsSeen (whole_of was 0 d)
seen_up_to was since d is up_to =
    let own = seen d is in
    record {
      past = All-append (λ (s : Switch). s.time < d.time) was.switches d.switches up_to.past own.past;
      inside = All-append (λ (s : Switch). s.cpu < d.cpus) was.switches d.switches up_to.inside own.inside;
      rising = up_to.next.rising;
    }

-- as the code has it
pub first_streamed : (d e : Domain) (was a : AccountingView) (since : List Happened) (log : LogView) → IsDomain d → IsStreamedUpTo d since was → a ≡ with_piece was since d.switches → e ≡ without_switches d
    → log.wanted ≡ true → log.happened ≡ [] → IsStreamed was since 0 d e a log
first_streamed d e was a since log is up_to streamed left wanted empty = record {
  state = left;
  streamed = streamed ∙ ap (λ (hs : List Happened). with_piece was hs d.switches) (sym (append-nil since));
  switches = seen_up_to was since d is up_to;
  wanted = wanted;
  empty = empty;
}

pub streamed_seen : (was : AccountingView) (since : List Happened) (k m : ℕ) (d e f g : Domain) (a b : AccountingView) (hs : List Happened) (log now : LogView) → IsSeen f → IsStreamed was since k d e a log → f ≡ ticks m e → hs ≡ logged_by_ticks m e → b ≡ with_piece a hs f.switches → g ≡ without_switches f
    → now.wanted ≡ true → now.happened ≡ [] → IsStreamed was since (k + m) d g b now
streamed_seen was since k m d e f g a b hs log now more is made logged streamed left wanted empty =
    let whole = streamed_more was since k m d e f a log now more is made wanted empty in
    record {
      state = left ∙ whole.state;
      streamed = streamed ∙ ap (λ (gs : List Happened). with_piece a gs f.switches) logged ∙ whole.streamed;
      switches = whole.switches;
      wanted = wanted;
      empty = empty;
    }

pub next_streamed : (was : AccountingView) (since : List Happened) (k m : ℕ) (d e f g : Domain) (a b : AccountingView) (hs : List Happened) (log now : LogView) → IsDomain f → IsStreamed was since k d e a log → f ≡ ticks m e → hs ≡ logged_by_ticks m e → b ≡ with_piece a hs f.switches → g ≡ without_switches f
    → now.wanted ≡ true → now.happened ≡ [] → IsStreamed was since (k + m) d g b now
next_streamed was since k m d e f g a b hs log now last is made logged streamed left wanted empty = streamed_seen was since k m d e f g a b hs log now (seen f last) is made logged streamed left wanted empty

-- ---- at the end it is streamed up to there

up_to_there : (was : AccountingView) (since : List Happened) (k : ℕ) (d : Domain) → IsDomain d → IsStreamedUpTo d since was → d.time + k ≤ was.time → was.time ≤ 2 ^ 42 → IsSeen (whole_of was k d) → IsStreamedUpTo (without_switches (ticks k d)) [] (streamed_so_far was since k d)
up_to_there was since k d is up_to most early switches =
    let b = whole_of was k d in
    let now : b.time ≡ d.time + k = ticks_time k d in
    let cpus : b.cpus ≡ d.cpus = ticks_cpus k d in
    let long = logged_length was since k d is.steady.listed in
    let streamed = was.happened ++ (since ++ logged_by_ticks k d) in
    record {
      same_cpus = up_to.same_cpus ∙ sym cpus;
      next = record {
        logged = All-nil _;
        later = All-nil _;
        rising = rw (append-nil b.switches) switches.rising;
        past = All-nil _;
        inside = All-nil _;
        few_happened = omega (arith, long, up_to.few, most, early);
        few_switches = omega (arith, seen_few b switches (omega (arith, cpus, is.steady.cpus.1)), now, most, early);
      };
      past = switches.past;
      inside = switches.inside;
      logged = All-weaker (λ (h : Happened). h.time ≤ d.time + k) (λ (h : Happened). h.time ≤ b.time) (λ h l. omega (arith, l, now)) streamed (logged_past was since k d up_to);
      logged_since = All-nil _;
      few = omega (arith, long, up_to.few, now, most, early);
    }

pub streamed_up_to : (was : AccountingView) (since : List Happened) (k : ℕ) (d e : Domain) (a : AccountingView) (log : LogView) → IsDomain d → IsStreamedUpTo d since was → d.time + k ≤ was.time → was.time ≤ 2 ^ 42 → IsStreamed was since k d e a log → IsStreamedUpTo e log.happened a
streamed_up_to was since k d e a log is up_to most early streamed =
    let there = up_to_there was since k d is up_to most early streamed.switches in
    let here : IsStreamedUpTo e [] a = subst (λ (x : AccountingView). IsStreamedUpTo e [] x) (sym streamed.streamed) (subst (λ (x : Domain). IsStreamedUpTo x [] (streamed_so_far was since k d)) (sym streamed.state) there) in
    subst (λ (hs : List Happened). IsStreamedUpTo e hs a) (sym streamed.empty) here

-- said of an equal domain, and of an equal list
pub still_up_to : (d e : Domain) (hs gs : List Happened) (a : AccountingView) → e ≡ d → gs ≡ hs → IsStreamedUpTo d hs a → IsStreamedUpTo e gs a
still_up_to d e hs gs a same alike is = subst (λ (x : Domain). IsStreamedUpTo x gs a) (sym same) (subst (λ (xs : List Happened). IsStreamedUpTo d xs a) (sym alike) is)

-- ---- the tasks, by their numbers

pub tasks_apart : (tasks : List Admitted) (ns : List ℕ) → map (λ t. t.number) tasks ≡ ns → All (λ n. n < 65536) ns → AllPairs (λ a b. a ≢ b) ns → AreTasks tasks
tasks_apart tasks ns is small apart =
    let long : length ns ≡ length tasks = omega (arith, ap (λ (ms : List ℕ). length ms) is, length-map tasks (λ (t : Admitted). t.number)) in
    let at : (k : ℕ) (d : Admitted) → k < length tasks → get_or ns k 0 ≡ (get_or tasks k d).number =
    λ k d h. sym (ap (λ (ms : List ℕ). get_or ms k 0) is) ∙ get_or-map (λ (t : Admitted). t.number) tasks k d 0 h in
    record {
      small = λ k d h. omega (arith, small k 0 (omega (arith, h, long)), at k d h);
      apart = λ i j d less within same. apart i j 0 less (omega (arith, within, long)) (at i d (omega (arith, less, within)) ∙ same ∙ sym (at j d within));
    }

-- ---- the whole advance

-- once all ticks were made, it is the whole run
pub streamed_whole : (n : ℕ) (d : Domain) → streamed_after n n d ≡ streamed_of (ticks n d) (logged_by_ticks n d)
streamed_whole n d = λ i. record { cpus = sym (ticks_cpus n d) i; time = sym (ticks_time n d) i; tasks = sym (ticks_used n d) i; happened = logged_by_ticks n d; switches = (ticks n d).switches }
