-- The calls of a section that are read whole before they are made.
use Rattle.std.proofs.Common.{◌≡◌, ℕ, Bool, true, false, cond, ◌+◌, ◌*◌, ◌<◌, ◌≤◌, List, [], ◌∷◌, ◌++◌, length, sym, ap, subst, ◌∙◌, arith}
use Rattle.std.specs.Prelude.{All, Contains, nat_eq}
use Rattle.std.specs.List.{list_any}
use Rattle.indexmap.specs.IndexSet.{insert_key}
use Rattle.std.proofs.lemmas.List.{length-append, length-map}
use Rattle.std.proofs.lemmas.List.Elements.{All-push, All-weaker, Contains-append_left}
use Rattle.std.proofs.lemmas.List.Sums.{sum_by_push}
use Rattle.domain_run.specs.declared.call.Call.{Call}
use Rattle.domain_run.specs.declared.call.Call.TheVariants.{Admit, Regrade, Wake, Leave, Advance, Limit, Depart, Arrive}
use Rattle.calls_text.specs.declared.section.Entry.{Entry}
use Rattle.calls_text.specs.SectionView.{SectionView}
use Rattle.calls_text.specs.Limits.{IsCall}
use Rattle.calls_text.specs.Reader.{section_with_entries}
use Rattle.calls_trace.specs.declared.foreseen.Foreseen.{Foreseen}
use Rattle.calls_trace.specs.Replay.{calls_in_section}
use Rattle.calls_trace.specs.private.Calls.{ticks_given}
use Rattle.calls_trace.specs.private.Foreseen.{IsForelogged, IsForeseen, AreCallsOf, all_ticks}
use Rattle.calls_trace.proofs.ReadRuns.{calls_push}

-- among more numbers
pub still_forelogged : (few many : List ℕ) → ((n : ℕ) → Contains few n → Contains many n) → (c : Call) → IsForelogged few c → IsForelogged many c
still_forelogged few many keeps (Admit number name params delay script) h = keeps number h
still_forelogged few many keeps (Regrade number params word) h = h
still_forelogged few many keeps (Wake number) h = h
still_forelogged few many keeps (Leave number) h = h
still_forelogged few many keeps (Advance n) h = h
still_forelogged few many keeps (Limit limit word) h = h
still_forelogged few many keeps (Depart number) h = h
still_forelogged few many keeps (Arrive number name params script) h = keeps number h

-- a call makes at most 60,000,000 ticks
pub few_ticks : (c : Call) → IsCall c → ticks_given c ≤ 60000000
few_ticks (Admit number name params delay script) h = omega arith
few_ticks (Regrade number params word) h = omega arith
few_ticks (Wake number) h = omega arith
few_ticks (Leave number) h = omega arith
few_ticks (Advance n) h = h.1
few_ticks (Limit limit word) h = omega arith
few_ticks (Depart number) h = omega arith
few_ticks (Arrive number name params script) h = omega arith

-- one call more
pub one_foreseen : (was is : Foreseen) (c : Call) → IsForeseen was → is.calls ≡ was.calls ++ c ∷ [] → is.numbers.keys ≡ was.numbers.keys → is.ticks ≡ was.ticks + ticks_given c → IsCall c → IsForelogged was.numbers.keys c → IsForeseen is
one_foreseen was is c h calls numbers ticks call logged =
    let long = ap (λ (cs : List Call). length cs) calls in
    record {
      are = subst (All IsCall) (sym calls) (All-push IsCall was.calls c h.are call);
      ticks = omega (arith, ticks, h.ticks, ap all_ticks calls, sum_by_push ticks_given was.calls c);
      short = omega (arith, ticks, h.short, few_ticks c call, long, length-append was.calls (c ∷ []));
      forelogged = subst (λ (cs : List Call). All (IsForelogged is.numbers.keys) cs) (sym calls) (subst (λ (ns : List ℕ). All (IsForelogged ns) (was.calls ++ c ∷ [])) (sym numbers) (All-push (IsForelogged was.numbers.keys) was.calls c h.forelogged logged));
      small = subst (All (λ n. n < 65536)) (sym numbers) h.small;
    }

-- one number more
pub one_listed : (was is : Foreseen) → IsForeseen was → is.calls ≡ was.calls → is.ticks ≡ was.ticks → ((n : ℕ) → Contains was.numbers.keys n → Contains is.numbers.keys n) → All (λ n. n < 65536) is.numbers.keys → IsForeseen is
one_listed was is h calls ticks keeps small = record {
  are = subst (All IsCall) (sym calls) h.are;
  ticks = ticks ∙ h.ticks ∙ ap all_ticks (sym calls);
  short = omega (arith, ticks, h.short, ap (λ (cs : List Call). length cs) calls);
  forelogged = subst (All (IsForelogged is.numbers.keys)) (sym calls) (All-weaker (IsForelogged was.numbers.keys) (IsForelogged is.numbers.keys) (still_forelogged was.numbers.keys is.numbers.keys keeps) was.calls h.forelogged);
  small = small;
}

-- a section with one entry more
pub calls_more : (s : SectionView) (cpus limit : ℕ) (calls more : List Call) (e : Entry) (c : Call) → AreCallsOf s cpus limit calls → e.call ≡ c → more ≡ calls ++ c ∷ [] → AreCallsOf (section_with_entries s (e ∷ [])) cpus limit more
calls_more s cpus limit calls more e c are same is = record {
  same_cpus = are.same_cpus;
  same_limit = are.same_limit;
  same_calls = is ∙ ap (λ (cs : List Call). cs ++ c ∷ []) are.same_calls ∙ ap (λ (x : Call). calls_in_section s ++ x ∷ []) (sym same) ∙ sym (calls_push s e);
}

-- the calls of a section are few, and so are their ticks
pub calls_few : (s : SectionView) (cpus limit : ℕ) (calls : List Call) → AreCallsOf s cpus limit calls → length s.entries ≤ 65536 → length calls ≤ 65536
calls_few s cpus limit calls are few =
    let long : length calls ≡ length s.entries = ap (λ (cs : List Call). length cs) are.same_calls ∙ length-map s.entries (λ (e : Entry). e.call) in
    omega (arith, long, few)

pub ticks_few : (s : SectionView) (cpus limit : ℕ) (f : Foreseen) → IsForeseen f → AreCallsOf s cpus limit f.calls → length s.entries ≤ 65536 → f.ticks ≤ 65536 * 60000000
ticks_few s cpus limit f h are few = omega (arith, h.short, calls_few s cpus limit f.calls are few)

-- ---- a number that is inserted

either_contains : (b : Bool) (ks : List ℕ) (k n : ℕ) → Contains ks n → Contains (cond b ks (ks ++ k ∷ [])) n
either_contains true ks k n h = h
either_contains false ks k n h = Contains-append_left ks (k ∷ []) n h

pub inserted_keeps : (ks : List ℕ) (k n : ℕ) → Contains ks n → Contains (insert_key nat_eq ks k) n
inserted_keeps ks k n h = either_contains (list_any (nat_eq k) ks) ks k n h

either_small : (b : Bool) (ks : List ℕ) (k : ℕ) → All (λ n. n < 65536) ks → k < 65536 → All (λ n. n < 65536) (cond b ks (ks ++ k ∷ []))
either_small true ks k h small = h
either_small false ks k h small = All-push (λ n. n < 65536) ks k h small

pub inserted_small : (ks : List ℕ) (k : ℕ) → All (λ n. n < 65536) ks → k < 65536 → All (λ n. n < 65536) (insert_key nat_eq ks k)
inserted_small ks k h small = either_small (list_any (nat_eq k) ks) ks k h small
