-- The runs under way of the sections that were read so far, and what they lead to.
use Rattle.std.proofs.Common.{◌≡◌, ℕ, ◌+◌, ◌*◌, ◌^◌, ◌≤◌, List, [], ◌∷◌, ◌++◌, length, map, refl, sym, ap, ◌∙◌, length-append, arith}
use Rattle.std.specs.Prelude.{sum_by}
use Rattle.std.specs.List.{AllByRecursion}
use Rattle.std.proofs.lemmas.List.{map-append, length_push, length-map}
use Rattle.std.proofs.lemmas.List.Elements.{recursion_from_All}
use Rattle.std.proofs.lemmas.List.Sums.{sum_by-cons, sum_by_push}
use Rattle.calls_text.specs.SectionView.{SectionView}
use Rattle.calls_text.specs.Limits.{IsSection}
use Rattle.switch_text.specs.SlicedTrace.{whole_of, wholes, all_entries}
use Rattle.switch_text.specs.Trace.{SwitchesView, entry_of, entries_of, trace_of}
use Rattle.calls_trace.specs.declared.playing.Playing.{Playing}
use Rattle.calls_trace.specs.declared.playing_so_far.PlayingSoFar.{PlayingSoFar}
use Rattle.calls_trace.specs.Replay.{run_view, runs_from}
use Rattle.calls_trace.specs.DomainEvents.{domain_of}
use Rattle.calls_trace.specs.private.Playing.{sliced_of}
use Rattle.calls_trace.specs.private.ReadText.{ArePlayingFor, ArePlaying}
use Rattle.run_options.specs.declared.replay_print.ReplayPrint.TheVariants as prints
use Rattle.calls_trace.specs.declared.run_text.RunText.TheVariants.{Trace}
use Rattle.calls_trace.specs.private.RunTexts.{text_of_all}
use Rattle.calls_trace.proofs.Texts.{text_is}
use Rattle.calls_trace.proofs.Rising.{section_trace}
use Rattle.calls_trace.proofs.LoggedLines.{section_time}

runs_push : (base : ℕ) (done : List SectionView) (s : SectionView) → runs_from base (done ++ s ∷ []) ≡ runs_from base done ++ run_view (base + sum_by (λ (t : SectionView). t.cpus) done) s ∷ []
runs_push base [] s = ap (λ (b : ℕ). run_view b s ∷ []) (omega arith)
runs_push base (t ∷ done) s =
    let sum = sum_by-cons (λ (x : SectionView). x.cpus) t done in
    ap (λ (vs : List SwitchesView). run_view base t ∷ vs)
    (runs_push (base + t.cpus) done s ∙ ap (λ (b : ℕ). runs_from (base + t.cpus) done ++ run_view b s ∷ []) (omega (arith, sum)))

wholes_push : (runs : List Playing) (p : Playing) → wholes (map sliced_of (runs ++ p ∷ [])) ≡ wholes (map sliced_of runs) ++ whole_of (sliced_of p) ∷ []
wholes_push runs p = ap wholes (map-append sliced_of runs (p ∷ [])) ∙ map-append whole_of (map sliced_of runs) (sliced_of p ∷ [])

-- one run more
pub one_more : (done : List SectionView) (s : SectionView) (was is : PlayingSoFar) (p : Playing) → ArePlayingFor done was → is.runs.items ≡ was.runs.items ++ p ∷ [] → is.base ≡ was.base + s.cpus → IsSection s
    → whole_of (sliced_of p) ≡ run_view was.base s → ArePlayingFor (done ++ s ∷ []) is
one_more done s was is p so_far items base section whole =
    let few = section.most_cpus in
    let long = length_push done s in
    let more = ap length items in
    let from : was.base ≡ 0 + sum_by (λ (t : SectionView). t.cpus) done = omega (arith, so_far.base_is) in
    record {
      lead = ap (λ (runs : List Playing). wholes (map sliced_of runs)) items
          ∙ wholes_push was.runs.items p
          ∙ ap (λ (vs : List SwitchesView). vs ++ whole_of (sliced_of p) ∷ []) so_far.lead
          ∙ ap (λ (v : SwitchesView). runs_from 0 done ++ v ∷ []) (whole ∙ ap (λ (b : ℕ). run_view b s) from)
          ∙ sym (runs_push 0 done s);
      count = omega (arith, so_far.count, long, more, length_push was.runs.items p);
      base_is = omega (arith, base, so_far.base_is, sum_by_push (λ (t : SectionView). t.cpus) done s);
      inside = omega (arith, base, so_far.inside, few, long);
    }

-- ---- they are few enough to be counted

entries_few : (base : ℕ) (s : SectionView) → IsSection s → length (entries_of (run_view base s)) ≤ 2 ^ 51
entries_few base s is = omega (arith, length-map (domain_of s).switches (entry_of (run_view base s)), (section_trace s is).few, section_time s is)

-- the switches of at most 8 sections are at most 2 ^ 54
pub all_few : (base : ℕ) (sections : List SectionView) → AllByRecursion IsSection sections → length (all_entries (runs_from base sections)) ≤ length sections * 2 ^ 51
all_few base [] are = omega arith
all_few base (s ∷ ss) are =
    omega (arith, length-append (entries_of (run_view base s)) (all_entries (runs_from (base + s.cpus) ss)), entries_few base s are.0, all_few (base + s.cpus) ss are.1)

pub playing_few : (text : List ℕ) (runs : List Playing) → ArePlaying text runs → length (all_entries (wholes (map sliced_of runs))) ≤ 2 ^ 54
playing_few text runs r =
    let most = r.read.within.most in
    let each = recursion_from_All IsSection r.sections r.read.within.each in
    omega (arith, ap (λ (vs : List SwitchesView). length (all_entries vs)) r.lead, all_few 0 r.sections each, most)

-- ---- what is written of them

pub playing_text : (text : List ℕ) (runs : List Playing) → (r : ArePlaying text runs) → trace_of (wholes (map sliced_of runs)) ≡ text_of_all Trace r.sections
playing_text text runs r = ap trace_of r.lead ∙ sym (text_is Trace prints.Trace refl r.sections)
