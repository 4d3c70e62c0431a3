-- A period that is streamed, and those that are counted after it.
use Rattle.std.proofs.Common.{◌≡◌, ℕ, zero, suc, ◌+◌, ◌*◌, ◌^◌, ◌<◌, ◌≤◌, List, [], ◌∷◌, ◌++◌, map, refl, sym, ap, subst, ◌∙◌, arith}
use Rattle.std.specs.Prelude.{Option, Some, None, IfSome, true}
use Rattle.std.proofs.Math.Nat.{suc-mul}
use Rattle.std.proofs.lemmas.List.{append-nil, append_assoc}
use Rattle.std.proofs.lemmas.List.Elements.{All-weaker}
use Rattle.domain_run.specs.declared.happened.Happened.{Happened}
use Rattle.domain_run.specs.declared.happened.What.{What}
use Rattle.domain_run.specs.declared.happened.What.TheVariants.{JobEnds, NextReleased, Spent, Cut, Replenished, Released, WokenSpent}
use Rattle.domain_run.specs.declared.pace.Pace.{Pace}
use Rattle.domain_run.specs.Coming.{switches_to_come}
use Rattle.domain_run.specs.Domain.{Domain}
use Rattle.domain_run.specs.GoneOn.{MayGoOn}
use Rattle.domain_run.specs.Happened.{logged_by_ticks}
use Rattle.domain_run.specs.Later.{later_happened, later_switch, later_what}
use Rattle.domain_run.specs.Log.{LogView}
use Rattle.domain_run.specs.Passing.{with_past, without_switches}
use Rattle.domain_run.specs.Sound.{IsDomain, IsSwitch}
use Rattle.domain_run.specs.Switch.{Switch}
use Rattle.domain_run.specs.Tick.{ticks}
use Rattle.domain_run.proofs.CallerLemmas.{going, ticks_time}
use Rattle.repeat_law.specs.Repeats.{happened_again, switches_again}
use Rattle.repeat_run.specs.Sight.{SightView, GoesOnAlike}
use Rattle.run_figures.specs.Accounting.{AccountingView, IsNextPiece, with_piece}
use Rattle.run_figures.specs.Again.{IsPeriodSince, more_logged, more_switches}
use Rattle.streamed_run.specs.Streamed.{IsStreamedUpTo}
use Rattle.streamed_run.specs.declared.repeating.Trail.{Trail}
use Rattle.streamed_run.specs.private.Trail.{IsTrail, KnowsTrail}
use Rattle.streamed_run.proofs.Pieces.{IsSeen, IsStreamed, joined, logged_joined, first_streamed, streamed_seen, piece_seen}
use Rattle.streamed_run.proofs.Span.{logged_within, made_later}

-- ---- the switches of ticks, as a domain keeps them

pub seen_after : (k : ℕ) (d : Domain) → IsDomain d → IsSeen (ticks k d)
seen_after k d is =
    let e = ticks k d in
    let g = going k d is in
    record {
      past = All-weaker (IsSwitch e.cpus e.time e.used) (λ (s : Switch). s.time < e.time) (λ s h. h.past) e.switches g.traced.switches;
      inside = All-weaker (IsSwitch e.cpus e.time e.used) (λ (s : Switch). s.cpu < e.cpus) (λ s h. h.inside) e.switches g.traced.switches;
      rising = g.traced.rising;
    }

-- ---- what is given again is what is given once more, and then more

append_same : {T : Type 0} (xs ys zs : List T) → xs ++ ys ≡ xs ++ zs → ys ≡ zs
append_same [] ys zs same = same
append_same (x ∷ xs) ys zs same = append_same xs ys zs cc

no_later_what : (w : What) → later_what 0 w ≡ w
no_later_what JobEnds = refl
no_later_what (NextReleased d) = let e : d + 0 ≡ d = omega arith in λ i. NextReleased (e i)
no_later_what (Spent d) = let e : d + 0 ≡ d = omega arith in λ i. Spent (e i)
no_later_what Cut = refl
no_later_what (Replenished d) = let e : d + 0 ≡ d = omega arith in λ i. Replenished (e i)
no_later_what (Released d) = let e : d + 0 ≡ d = omega arith in λ i. Released (e i)
no_later_what (WokenSpent d) = let e : d + 0 ≡ d = omega arith in λ i. WokenSpent (e i)

no_later_logged : (hs : List Happened) → map (later_happened 0) hs ≡ hs
no_later_logged [] = refl
no_later_logged (h ∷ hs) =
    let time : h.time + 0 ≡ h.time = omega arith in
    let what = no_later_what h.what in
    let rest = no_later_logged hs in
    λ i. record h { time = time i; what = what i } ∷ rest i

no_later_switches : (ss : List Switch) → map (later_switch 0) ss ≡ ss
no_later_switches [] = refl
no_later_switches (s ∷ ss) =
    let time : s.time + 0 ≡ s.time = omega arith in
    let rest = no_later_switches ss in
    λ i. record s { time = time i } ∷ rest i

logged_again : (k m : ℕ) (hs : List Happened) → happened_again k (suc m) hs ≡ hs ++ more_logged k m hs
logged_again k zero hs =
    let none : 0 * k ≡ 0 = omega arith in
    ap (λ n. map (later_happened n) hs) none ∙ no_later_logged hs ∙ sym (append-nil hs)
logged_again k (suc m) hs =
    ap (λ (gs : List Happened). gs ++ map (later_happened (suc m * k)) hs) (logged_again k m hs) ∙ append_assoc hs (more_logged k m hs) (map (later_happened (suc m * k)) hs)

switched_again : (k m : ℕ) (ss : List Switch) → switches_again k (suc m) ss ≡ ss ++ more_switches k m ss
switched_again k zero ss =
    let none : 0 * k ≡ 0 = omega arith in
    ap (λ n. map (later_switch n) ss) none ∙ no_later_switches ss ∙ sym (append-nil ss)
switched_again k (suc m) ss =
    ap (λ (gs : List Switch). gs ++ map (later_switch (suc m * k)) ss) (switched_again k m ss) ∙ append_assoc ss (more_switches k m ss) (map (later_switch (suc m * k)) ss)

-- ---- from what was written down

-- a log that was logged nothing
abbrev silent : LogView
silent = record { wanted = true; happened = []; room = 0 }

module _ (s : ℕ) (sight : SightView) (mark a : AccountingView) (e : Domain) (t : IsTrail s sight mark e a) where
  abbrev first : Domain
  first = t.start

  -- the period
  abbrev logged : List Happened
  logged = logged_by_ticks s t.start

  abbrev switches : List Switch
  switches = (ticks s t.start).switches

  bare : t.start ≡ without_switches t.start
  bare = ap (λ (ss : List Switch). record t.start { switches = ss }) t.forgotten

  pub time : e.time ≡ t.start.time + s
  time = ap (λ (x : Domain). x.time) t.there ∙ ticks_time s t.start

  at_first : IsStreamed mark [] 0 t.start t.start mark silent
  at_first = first_streamed t.start t.start mark mark [] silent t.domain t.up_to
      (λ i. record mark { happened = sym (append-nil mark.happened) i; switches = (sym (append-nil mark.switches) ∙ ap (λ (ss : List Switch). mark.switches ++ ss) (sym t.forgotten)) i })
      bare refl refl

  now_streamed : IsStreamed mark [] (0 + s) t.start e a silent
  now_streamed = streamed_seen mark [] 0 s t.start t.start (ticks s t.start) e mark a logged silent silent (seen_after s t.start t.domain) at_first refl refl t.streamed t.there refl refl

  module _ (early : e.time ≤ mark.time) (end : mark.time ≤ 2 ^ 42) where
    next : IsNextPiece mark logged switches
    next = piece_seen mark [] 0 s t.start t.start (ticks s t.start) mark silent t.domain (seen_after s t.start t.domain) t.up_to (omega (arith, time, early)) end at_first refl

  -- ---- n ticks more

  module _ (n : ℕ) (is : IsDomain e) where
    abbrev more : Domain
    more = ticks n e

    whole : ticks (s + n) t.start ≡ with_past switches more
    whole = joined s n t.start e more t.there refl

    whole_logged : logged ++ logged_by_ticks n e ≡ logged_by_ticks (s + n) t.start
    whole_logged = logged_joined s n t.start e t.there

    pub trail_more : (f : Domain) (b : AccountingView) → f ≡ without_switches more → b ≡ with_piece a (logged_by_ticks n e) more.switches → IsTrail (s + n) sight mark f b
    trail_more f b left streamed = record {
      start = t.start;
      domain = t.domain;
      forgotten = t.forgotten;
      written = t.written;
      up_to = t.up_to;
      there = left ∙ sym (ap (λ (x : Domain). without_switches x) whole);
      streamed = streamed
          ∙ ap (λ (x : AccountingView). with_piece x (logged_by_ticks n e) more.switches) t.streamed
          ∙ (λ i. record mark {
            happened = (append_assoc mark.happened logged (logged_by_ticks n e) ∙ ap (λ (hs : List Happened). mark.happened ++ hs) whole_logged) i;
            switches = (append_assoc mark.switches switches more.switches ∙ ap (λ (ss : List Switch). mark.switches ++ ss) (sym (ap (λ (x : Domain). x.switches) whole))) i;
          });
    }

    next_more : e.time + n ≤ mark.time → mark.time ≤ 2 ^ 42 → IsNextPiece a (logged_by_ticks n e) more.switches
    next_more early end = piece_seen mark [] (0 + s) n t.start e more a silent t.domain (seen_after n e is) t.up_to (omega (arith, time, early)) end now_streamed refl

  -- ---- PERIODS that go on alike

  module _ (p : ℕ) (paces : List Pace) (is : IsDomain e) (alike : GoesOnAlike s p paces t.start) where
    count : s + p * s ≡ suc p * s
    count = let one = suc-mul p s in omega (arith, one)

    pub logged_more_is : logged_by_ticks (p * s) e ≡ more_logged s p logged
    logged_more_is = append_same logged (logged_by_ticks (p * s) e) (more_logged s p logged)
        (whole_logged (p * s) is ∙ ap (λ n. logged_by_ticks n t.start) count ∙ alike.logged ∙ logged_again s p logged)

    to_come : switches_to_come s t.start ≡ switches
    to_come = ap (λ (x : Domain). (ticks s x).switches) (sym bare)

    pub switched_more_is : (ticks (p * s) e).switches ≡ more_switches s p switches
    switched_more_is = append_same switches (ticks (p * s) e).switches (more_switches s p switches)
        (sym (ap (λ (x : Domain). x.switches) (whole (p * s) is))
        ∙ ap (λ n. (ticks n t.start).switches) count
        ∙ alike.switches
        ∙ (λ i. t.forgotten i ++ switches_again s (suc p) (to_come i))
        ∙ switched_again s p switches)

    pub may_go : MayGoOn (p * s) paces e
    may_go = subst (λ (x : Domain). MayGoOn (p * s) paces x) (sym t.there) alike.goes

    pub period_since : e.time + p * s ≤ a.time → a.time ≤ 2 ^ 42 → IsPeriodSince s p mark a
    period_since early end =
        let same : a.time ≡ mark.time = ap (λ (x : AccountingView). x.time) t.streamed in
        let seen = seen_after s t.start t.domain in
        let then : (ticks s t.start).time ≡ t.start.time + s = ticks_time s t.start in
        let from = made_later s t.start t.forgotten in
        record {
          logged = logged;
          switches = switches;
          from = t.start.time;
          streamed = t.streamed;
          next = next (omega (arith, early, same)) (omega (arith, end, same));
          more = subst (λ (hs : List Happened). IsNextPiece a hs (more_switches s p switches)) logged_more_is
              (subst (λ (ss : List Switch). IsNextPiece a (logged_by_ticks (p * s) e) ss) switched_more_is
              (next_more (p * s) is (omega (arith, early, same)) (omega (arith, end, same))));
          logged_within = logged_within s t.start;
          switched_within = λ k d h. (from k d h, let past = seen.past k d h in omega (arith, past, then));
          to_the_end = omega (arith, early, time);
        }

    pub streamed_more_is : (b : AccountingView) → b ≡ with_piece a (more_logged s p logged) (more_switches s p switches) → b ≡ with_piece a (logged_by_ticks (p * s) e) (ticks (p * s) e).switches
    streamed_more_is b streamed = streamed ∙ (λ i. with_piece a (sym logged_more_is i) (sym switched_more_is i))

-- ---- the next piece, of what was streamed up to here

bare_of : (e : Domain) → e.switches ≡ [] → e ≡ without_switches e
bare_of e none = ap (λ (ss : List Switch). record e { switches = ss }) none

here : (e : Domain) (a : AccountingView) → IsDomain e → IsStreamedUpTo e [] a → e.switches ≡ [] → IsStreamed a [] 0 e e a silent
here e a is up_to none = first_streamed e e a a [] silent is up_to
    (λ i. record a { happened = sym (append-nil a.happened) i; switches = (sym (append-nil a.switches) ∙ ap (λ (ss : List Switch). a.switches ++ ss) (sym none)) i })
    (bare_of e none) refl refl

pub piece_here : (m : ℕ) (e f : Domain) (a : AccountingView) (hs : List Happened) → IsDomain e → IsSeen f → IsStreamedUpTo e [] a → e.switches ≡ [] → e.time + m ≤ a.time → a.time ≤ 2 ^ 42 → f ≡ ticks m e → hs ≡ logged_by_ticks m e → IsNextPiece a hs f.switches
piece_here m e f a hs is seen up_to none early end made logged =
    subst (λ (xs : List Happened). IsNextPiece a xs f.switches) (sym logged)
    (piece_seen a [] 0 m e e f a silent is seen up_to (omega (arith, early)) end (here e a is up_to none) made)

-- ---- what is written down stays while more is streamed

pub trail_passed : (was now : Trail) (made : ℕ) (e f : Domain) (a b : AccountingView) → IsDomain e → KnowsTrail was e a
    → IfSome now.counts (λ counts. was.counts ≡ Some counts) → IfSome now.counts (λ counts. now.since ≡ was.since + made) → now.sight ≡ was.sight
    → f ≡ without_switches (ticks made e) → b ≡ with_piece a (logged_by_ticks made e) (ticks made e).switches → KnowsTrail now f b
trail_passed was now made e f a b is knows counts since sight left streamed = by now.counts counts since
  where
    by : (o : Option AccountingView) → IfSome o (λ counts. was.counts ≡ Some counts) → IfSome o (λ counts. now.since ≡ was.since + made) → IfSome o (λ counts. IsTrail now.since now.sight counts f b)
    by None same later = tt
    by (Some mark) same later =
        let t : IsTrail was.since was.sight mark e a = subst (λ (o : Option AccountingView). IfSome o (λ counts. IsTrail was.since was.sight counts e a)) same knows in
        let on : IsTrail (was.since + made) was.sight mark f b = trail_more was.since was.sight mark a e t made is f b left streamed in
        subst (λ (n : ℕ). IsTrail n now.sight mark f b) (sym later) (subst (λ (v : SightView). IsTrail (was.since + made) v mark f b) (sym sight) on)
