-- A history is its admissions, and then the advance.
use Rattle.std.proofs.Common.{◌≡◌, ℕ, ◌+◌, ◌≤◌, Bool, true, false, cond, ltb, Option, Some, List, [], ◌∷◌, ◌++◌, length, map, refl, sym, ap, ◌∙◌, subst, arith, inl, inr, append-nil, ltb-true}
use Rattle.std.specs.Prelude.{All, not}
use Rattle.std.proofs.lemmas.Bool.{cases_Bool}
use Rattle.std.proofs.lemmas.List.{map-append}
use Rattle.domain_run.specs.declared.call.Call.{Call}
use Rattle.domain_run.specs.declared.call.Call.TheVariants.{Advance}
use Rattle.domain_run.specs.declared.call.Reply.{Reply}
use Rattle.domain_run.specs.declared.call.Reply.TheVariants.{Done}
use Rattle.domain_run.specs.Domain.{Domain}
use Rattle.domain_run.specs.Calls.{reply_to, after_call}
use Rattle.domain_run.specs.Run.{after_calls}
use Rattle.calls_text.specs.declared.section.Entry.{Entry}
use Rattle.calls_text.specs.Histories.{calls_of}
use Rattle.session.specs.Asks.{Made}
use Rattle.session.specs.RunEnd.{advance_of, IsEnd, EndsWith}
use Rattle.calls_trace.specs.Replay.{names_after, names_of}
use Rattle.domain_run.proofs.CallerLemmas.{Reordered}
use Rattle.domain_run.proofs.CallerLemmas.{Alike, ticks_alike, alike_switches}
use Rattle.dl_session.proofs.OrderRuns.{order_free, IsListing, listing_run, was_admitted, is_verdict, granted_calls, LegalFrom, granted_run}
use Rattle.dl_session.proofs.OrderEntries.{granted_both}
use Rattle.dl_session.proofs.OrderVerdicts.{others, others_both, one_if, all_verdicts}

-- ---- calls after calls

pub after_both : (d : Domain) (xs ys : List Call) → after_calls d (xs ++ ys) ≡ after_calls (after_calls d xs) ys
after_both d [] ys = refl
after_both d (x ∷ xs) ys = after_both (after_call d x) xs ys

names_both : (d : Domain) (xs ys : List Call) (names : ℕ → List ℕ) → names_of d (xs ++ ys) names ≡ names_of (after_calls d xs) ys (names_of d xs names)
names_both d [] ys names = refl
names_both d (x ∷ xs) ys names = names_both (after_call d x) xs ys (names_after d x names)

pub legal_front : (d : Domain) (xs ys : List Entry) → LegalFrom d (xs ++ ys) → LegalFrom d xs
legal_front d [] ys legal = refl
legal_front d (x ∷ xs) ys legal =
    let first : x.reply ≡ Some (reply_to d x.call) = cc in
    let others_legal : LegalFrom (after_call d x.call) (xs ++ ys) = cc in
    let rest = legal_front (after_call d x.call) xs ys others_legal in
    ap (λ (r : Option Reply). r ∷ map (λ (e : Entry). e.reply) xs) first ∙ ap (λ (rs : List (Option Reply)). Some (reply_to d x.call) ∷ rs) rest

-- ---- the advance

-- the calls of the end
abbrev pub last_calls : ℕ → List Call
last_calls duration = map (λ m. m.call) (advance_of duration 1)

abbrev calls_if : Bool → ℕ → List Call
calls_if b duration = map (λ (m : Made). m.call) (cond b (record { call = Advance duration; reply = Done duration } ∷ []) [])

pub last_if : (b : Bool) (duration : ℕ) → ltb 0 duration ≡ b → last_calls duration ≡ calls_if b duration
last_if b duration e = ap (λ (x : Bool). calls_if x duration) e

end_alike : (b : Bool) (duration : ℕ) (d e : Domain) → Alike d e → IsListing d → Alike (after_calls d (calls_if b duration)) (after_calls e (calls_if b duration))
end_alike true duration d e alike is = ticks_alike duration d e alike is.numbered
end_alike false duration d e alike is = alike

end_named : (b : Bool) (duration : ℕ) (d : Domain) (names : ℕ → List ℕ) → names_of d (calls_if b duration) names ≡ names
end_named true duration d names = refl
end_named false duration d names = refl

-- ---- the split

pub record IsSplit (start : Domain) (duration : ℕ) (history : List Entry) : Type 0 where
  pub before : List Entry
  pub verdicts : All (λ e. is_verdict e.reply ≡ true) before
  pub calls : calls_of history ≡ calls_of before ++ last_calls duration
  pub granted : granted_calls history ≡ granted_calls before
  pub legal : LegalFrom start before

split_none : (start : Domain) (duration : ℕ) (history : List Entry) → ltb 0 duration ≡ false → others history ≤ one_if (ltb 0 duration) → LegalFrom start history → IsSplit start duration history
split_none start duration history fails most legal =
    let bound : one_if (ltb 0 duration) ≡ 0 = ap one_if fails in
    let none : others history ≡ 0 = omega (arith, most, bound) in
    record {
      before = history;
      verdicts = all_verdicts history none;
      calls = sym (append-nil (calls_of history)) ∙ ap (λ (cs : List Call). calls_of history ++ cs) (sym (last_if false duration fails));
      granted = refl;
      legal = legal;
    }

split_end : (start : Domain) (duration : ℕ) (history : List Entry) → ltb 0 duration ≡ true → others history ≤ one_if (ltb 0 duration) → IsEnd duration history → LegalFrom start history → IsSplit start duration history
split_end start duration history holds most end legal =
    let before = end.before in
    let last = end.last in
    let bound : one_if (ltb 0 duration) ≡ 1 = ap one_if holds in
    let one : others (last ∷ []) ≡ 1 = ap (λ (r : Option Reply). length (cond (not (is_verdict r)) (last ∷ []) [])) end.reply in
    let all : others history ≡ others before + others (last ∷ []) = ap others end.all ∙ others_both before (last ∷ []) in
    let none : others before ≡ 0 = omega (arith, most, bound, one, all) in
    let ungranted : granted_calls (last ∷ []) ≡ [] = ap (λ (r : Option Reply). map (λ (e : Entry). e.call) (cond (was_admitted r) (last ∷ []) [])) end.reply in
    record {
      before = before;
      verdicts = all_verdicts before none;
      calls =
          ap calls_of end.all
          ∙ map-append (λ (e : Entry). e.call) before (last ∷ [])
          ∙ ap (λ (c : Call). calls_of before ++ c ∷ []) end.call
          ∙ ap (λ (cs : List Call). calls_of before ++ cs) (sym (last_if true duration holds));
      granted =
          ap granted_calls end.all
          ∙ granted_both before (last ∷ [])
          ∙ ap (λ (cs : List Call). granted_calls before ++ cs) ungranted
          ∙ append-nil (granted_calls before);
      legal = legal_front start before (last ∷ []) (subst (LegalFrom start) end.all legal);
    }

pub split : (start : Domain) (duration : ℕ) (history : List Entry) → others history ≤ one_if (ltb 0 duration) → EndsWith duration history → LegalFrom start history → IsSplit start duration history
split start duration history most ends legal =
    elim (cases_Bool (ltb 0 duration)) [
      | inl holds ↦ split_end start duration history holds most (ends (ltb-true 0 duration holds)) legal
      | inr fails ↦ split_none start duration history fails most legal
    ]

-- ---- the run

-- two lists of calls show the same
pub record ShowSame (start : Domain) (xs ys : List Call) : Type 0 where
  pub switches : (after_calls start xs).switches ≡ (after_calls start ys).switches
  pub named : (names : ℕ → List ℕ) → names_of start xs names ≡ names_of start ys names

-- a legal history shows what its granted admissions show in any order, with the advance after them
pub shows_same : (start : Domain) (duration : ℕ) (history : List Entry) (calls : List Call) → IsListing start → IsSplit start duration history → Reordered (granted_calls history) calls
    → ShowSame start (calls_of history) (calls ++ last_calls duration)
shows_same start duration history calls is parts r =
    let before = parts.before in
    let gs = granted_calls before in
    let last = last_calls duration in
    let run = granted_run start before parts.verdicts parts.legal in
    let order : Reordered gs calls = subst (λ (cs : List Call). Reordered cs calls) parts.granted r in
    let end = order_free start gs calls order run.admitted in
    let listing : IsListing (after_calls start gs) = listing_run start gs is run.admitted in
    let alike : Alike (after_calls (after_calls start gs) last) (after_calls (after_calls start calls) last) =
    end_alike (ltb 0 duration) duration (after_calls start gs) (after_calls start calls) end.alike listing in
    let left : after_calls start (calls_of history) ≡ after_calls (after_calls start gs) last =
    ap (after_calls start) parts.calls ∙ after_both start (calls_of before) last ∙ ap (λ (x : Domain). after_calls x last) run.state in
    record {
      switches =
          ap (λ (x : Domain). x.switches) left
          ∙ alike_switches (after_calls (after_calls start gs) last) (after_calls (after_calls start calls) last) alike
          ∙ ap (λ (x : Domain). x.switches) (sym (after_both start calls last));
      named = λ names.
          ap (λ (cs : List Call). names_of start cs names) parts.calls
          ∙ names_both start (calls_of before) last names
          ∙ end_named (ltb 0 duration) duration (after_calls start (calls_of before)) (names_of start (calls_of before) names)
          ∙ run.named names
          ∙ end.named names
          ∙ sym (end_named (ltb 0 duration) duration (after_calls start calls) (names_of start calls names))
          ∙ sym (names_both start calls last names);
    }
