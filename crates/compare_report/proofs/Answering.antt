-- What a comparison answers, by what it met.
use Rattle.std.proofs.Common.{◌≡◌, ℕ, ◌≤◌, List, [], ◌∷◌, length, take, map, Option, Some, None, refl, sym, ap, ◌∙◌, subst, arith, Err}
use Rattle.std.specs.Prelude.{IfSome}
use Rattle.std.proofs.Math.Seq.{take-append_seam}
use Rattle.std.proofs.lemmas.List.{length-append}
use Rattle.std.specs.Io.KnownBytes.{Keeps}
use Rattle.recorded_text.specs.declared.step.Step.{Step}
use Rattle.recorded_text.specs.Steps.{step_view}
use Rattle.recorded_text.specs.Names.{Grows}
use Rattle.recorded_text.specs.declared.fault.RecordedFault.{RecordedFault}
use Rattle.recorded_text.specs.declared.fault.RecordedFault.TheVariants as recorded
use Rattle.recorded_text.specs.Text.{IsRead, IsRecordedFault, recorded_faults_after, first_bad, switches_in}
use Rattle.counted_io.specs.Sides.{Side, HasNoFault, HasOneFault, IsUntouched}
use Rattle.compare_report.specs.declared.fault.CompareFault.{CompareFault}
use Rattle.compare_report.specs.declared.fault.CompareFault.TheVariants.{BadLine, NoSwitch, Read, Endless, Write, Memory}
use Rattle.compare_report.specs.declared.fault.Input.{Input}
use Rattle.compare_report.specs.declared.fault.Input.TheVariants.{Model, Recorded}
use Rattle.compare_report.specs.declared.options.CompareOptions.{CompareOptions}
use Rattle.compare_report.specs.declared.tally.Tally.{Tally}
use Rattle.compare_report.specs.Reading.{AreReadFrom, pair, ArePair}
use Rattle.compare_report.specs.Answer.{CompareStreams, IsWell, HasBadLine, HasNoSwitch, StopsAt, IsCompareFault, IsReportOf}
use Rattle.compare_report.specs.Report.{IsReport}
use Rattle.compare_report.specs.private.Met.{IsTextFault, fault_of_input}

keeps : (o : Option (List ℕ)) → Keeps o o
keeps None = tt
keeps (Some bytes) = refl

pub untouched : (s : Side) → s.after ≡ s.before → IsUntouched s
untouched s e = record {
  kept = subst (λ (o : Option (List ℕ)). Keeps s.before.bytes o) (sym (ap (λ m. m.bytes) e)) (keeps s.before.bytes);
  no_fault = ap (λ m. m.faults) e;
}

in_each : (o : Option (List ℕ)) (P Q : List ℕ → Type 0) → ((t : List ℕ) → P t → Q t) → IfSome o P → IfSome o Q
in_each None P Q f h = tt
in_each (Some t) P Q f h = f t h

nothing : (steps : List Step) → length steps ≡ 0 → steps ≡ []
nothing [] e = refl
nothing (s ∷ ss) e = absurd (omega (arith, e))

-- a text of no switches
none_of : (text : List ℕ) (names : List (List ℕ)) (steps : List Step) → steps ≡ [] → IsRead text names steps → switches_in text ≡ []
none_of text names steps none h = sym h.shown ∙ ap (λ ss. map (step_view names) ss) none

pub no_switch : (s : Side) (names : List (List ℕ)) (steps : List Step) → length steps ≡ 0 → IfSome s.before.bytes (λ text. IsRead text names steps) → HasNoFault s → HasNoSwitch s
no_switch s names steps none h fine =
    let empty : steps ≡ [] = nothing steps none in
    record {
      good = in_each s.before.bytes (λ text. IsRead text names steps) (λ text. first_bad text ≡ None) (λ text is. is.good) h;
      none = in_each s.before.bytes (λ text. IsRead text names steps) (λ text. switches_in text ≡ []) (λ text is. none_of text names steps empty is) h;
      no_fault = fine;
    }

-- the fault of a reader, told as one of its text
pub fault_told : (input : Input) (s : Side) (e : RecordedFault) → IfSome s.before.bytes (λ text. IsRecordedFault text e) → s.after.faults ≡ recorded_faults_after {T = Unit {0}} s.before.faults (Err e) → IsTextFault input s (fault_of_input input e)
fault_told input s (recorded.BadLine n) h faults = (refl, record { bad = h; no_fault = faults })
fault_told input s recorded.Read h faults = (refl, faults)
fault_told input s recorded.Endless h faults = (refl, faults)
fault_told input s recorded.Memory h faults = faults

-- a fault of the model's text, and one of the recorded one
pub of_model : (asked : CompareOptions) (s : CompareStreams) (e : CompareFault) → IsTextFault Model s.model e → IsUntouched s.recorded → IsUntouched s.writer → IsCompareFault asked s e
of_model asked s (BadLine i n) h order unwritten = subst (λ (j : Input). StopsAt j (HasBadLine n) s) (sym h.0) (record { here = h.1; order = order; unwritten = unwritten })
of_model asked s (NoSwitch i) h order unwritten = subst (λ (j : Input). StopsAt j HasNoSwitch s) (sym h.0) (record { here = h.1; order = order; unwritten = unwritten })
of_model asked s (Read i) h order unwritten = subst (λ (j : Input). StopsAt j HasOneFault s) (sym h.0) (record { here = h.1; order = order; unwritten = unwritten })
of_model asked s (Endless i) h order unwritten = subst (λ (j : Input). StopsAt j HasNoFault s) (sym h.0) (record { here = h.1; order = order; unwritten = unwritten })
of_model asked s (Write n) h order unwritten = absurd h
of_model asked s Memory h order unwritten = record { model = h; recorded = order.no_fault; unwritten = unwritten }

pub of_recorded : (asked : CompareOptions) (s : CompareStreams) (e : CompareFault) → IsTextFault Recorded s.recorded e → IsWell s.model → IsUntouched s.writer → IsCompareFault asked s e
of_recorded asked s (BadLine i n) h order unwritten = subst (λ (j : Input). StopsAt j (HasBadLine n) s) (sym h.0) (record { here = h.1; order = order; unwritten = unwritten })
of_recorded asked s (NoSwitch i) h order unwritten = subst (λ (j : Input). StopsAt j HasNoSwitch s) (sym h.0) (record { here = h.1; order = order; unwritten = unwritten })
of_recorded asked s (Read i) h order unwritten = subst (λ (j : Input). StopsAt j HasOneFault s) (sym h.0) (record { here = h.1; order = order; unwritten = unwritten })
of_recorded asked s (Endless i) h order unwritten = subst (λ (j : Input). StopsAt j HasNoFault s) (sym h.0) (record { here = h.1; order = order; unwritten = unwritten })
of_recorded asked s (Write n) h order unwritten = absurd h
of_recorded asked s Memory h order unwritten = record { model = order.no_fault; recorded = h; unwritten = unwritten }

-- the names of the model stay the first ones
first_names : (old new : List (List ℕ)) → Grows old new → take (length old) new ≡ old
first_names old new g = ap (λ names. take (length old) names) g.behind ∙ take-append_seam old g.more

-- the model's names are among all
pub within_names : (old new : List (List ℕ)) (many : ℕ) → many ≡ length old → Grows old new → many ≤ length new
within_names old new many is g = omega (arith, is, ap length g.behind, length-append old g.more)

pub are_pair : (one other : Option (List ℕ)) (old new : List (List ℕ)) (many : ℕ) (model recorded : List Step) → many ≡ length old → Grows old new → AreReadFrom one [] old model → AreReadFrom other old new recorded → ArePair one other (pair new many model recorded)
are_pair one other old new many model recorded is g m r =
    let firsts : take many new ≡ old = ap (λ (n : ℕ). take n new) is ∙ first_names old new g in
    record {
      few = within_names old new many is g;
      model = subst (λ (names : List (List ℕ)). AreReadFrom one [] names model) (sym firsts) m;
      recorded = subst (λ (names : List (List ℕ)). AreReadFrom other names new recorded) (sym firsts) r;
    }

-- the report of what was read, under the names that the code has for the parts
pub report_is : (asked : CompareOptions) (s : CompareStreams) (none old new : List (List ℕ)) (many : ℕ) (model recorded first second : List Step) (text : List ℕ) (tally : Tally)
    → none ≡ [] → many ≡ length old → Grows old new → first ≡ model → second ≡ recorded
    → AreReadFrom s.model.before.bytes none old model → AreReadFrom s.recorded.before.bytes old new recorded
    → IsReport asked (pair new many first second) text tally → HasNoFault s.model → HasNoFault s.recorded → IsReportOf asked s text tally
report_is asked s none old new many model recorded first second text tally nothing_yet is g same_model same_recorded m r told fine_model fine_recorded = record {
  pair = pair new many model recorded;
  read = are_pair s.model.before.bytes s.recorded.before.bytes old new many model recorded is g (subst (λ (ns : List (List ℕ)). AreReadFrom s.model.before.bytes ns old model) nothing_yet m) r;
  report = subst (λ (ss : List Step). IsReport asked (pair new many ss recorded) text tally) same_model (subst (λ (ss : List Step). IsReport asked (pair new many first ss) text tally) same_recorded told);
  model = fine_model;
  recorded = fine_recorded;
}

pub well : (s : Side) (none names : List (List ℕ)) (steps : List Step) → none ≡ [] → AreReadFrom s.before.bytes none names steps → HasNoFault s → IsWell s
well s none names steps nothing_yet m fine = record {
  names = names;
  steps = steps;
  read = subst (λ (ns : List (List ℕ)). AreReadFrom s.before.bytes ns names steps) nothing_yet m;
  no_fault = fine;
}
