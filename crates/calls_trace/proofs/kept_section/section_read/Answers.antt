use Rattle.std.proofs.Common.{◌≡◌, length, true, false, [], ◌∷◌, List, Option, Ok, refl, sym, ap, subst, ◌∙◌, arith, length-append}
use Rattle.std.specs.Prelude.{All, IfSome}
use Rattle.std.proofs.lemmas.List.Elements.{All-nil}
use Rattle.domain_run.specs.declared.call.Call.{Call}
use Rattle.domain_run.specs.Domain.{Domain}
use Rattle.domain_run.specs.Run.{after_calls}
use Rattle.domain_run.specs.Sound.{IsAdmitted}
use Rattle.calls_text.specs.Limits.{IsCall}
use Rattle.calls_text.specs.Reader.{empty_section, section_with_entries}
use Rattle.calls_text.specs.KeptCall.{IsNextCall, IsNextKept, call_kept}
use Rattle.calls_text.specs.declared.kept_call.Kept.{Kept}
use Rattle.calls_text.proofs.CallerLemmas.{section_within}
use Rattle.switch_text.specs.Names.{name_of_task}
use Rattle.calls_trace.specs.Replay.{names_of}
use Rattle.calls_trace.specs.private.Calls.{ticks_given}
use Rattle.calls_trace.specs.private.Kept.{KeepsCalls, IsOneMore, IsMadeOrKept}
use Rattle.calls_trace.proofs.Starting.{begun_more, made_more}
use Rattle.calls_trace.proofs.kept_section.section_read.Goals as goal

pub open-requires-clause-cpus : goal.open-requires-clause-cpus
open-requires-clause-cpus c =
    let b = c.requires.begun in
    let s = section_within b.text b.before (empty_section c.args.cpus c.args.limit) c.args.reader.now b.within in
    (s.some_cpus, s.most_cpus)

pub open-requires-clause-limit : goal.open-requires-clause-limit
open-requires-clause-limit c =
    let b = c.requires.begun in
    let s = section_within b.text b.before (empty_section c.args.cpus c.args.limit) c.args.reader.now b.within in
    (s.least_limit, s.most_limit)

pub calls-init : goal.calls-init
calls-init c =
    let run = c.in_ok-open.field-0 in
    let made = c.in_ok-open.ensures in
    let none = c.new.ensures in
    let long = ap (λ (cs : List Call). length cs) none in
    let kept : KeepsCalls (record { cpus = c.args.cpus; run = run; calls = c.new.result }) = record {
      start = record {
        all_named = λ n h. let no : false ≡ true = subst (λ (d : Domain). IsAdmitted d.used n) made.state h in absurd cc;
        silent = made.wanted;
        unknown = made.given;
        time = ap (λ (d : Domain). d.time) made.state;
        bare = ap (λ (d : Domain). d.switches) made.state;
      };
      are = subst (All IsCall) (sym none) (All-nil IsCall);
    } in
    record {
      so_far = λ text before w. record {
        section = empty_section c.args.cpus c.args.limit;
        within = w;
        same = record {
          same_cpus = refl;
          made = record {
            domain = ap (after_calls run.state) none ∙ made.state;
            called = λ n. ap (λ (cs : List Call). names_of run.state cs (name_of_task run.names) n) none ∙ made.names n;
          };
          begun = record { made = []; calls = sym none; still = All-nil (λ (c : Call). ticks_given c ≡ 0); domain = made.state };
          kept = kept;
          few = omega (arith, long);
        };
      };
      kept = kept;
      never_more = omega arith;
    }

pub take-requires : goal.take-requires
take-requires c = record {
  call = subst (λ (o : Option Kept). IfSome o (λ k. IsCall (call_kept k))) c.in-Some.is c.in-Ok.ensures.call;
  kept = c.calls.invariant.kept;
}

pub calls-preserved : goal.calls-preserved
calls-preserved c =
    let k = c.in-Some.kept in
    let more = c.in_default-take.ensures.one in
    record {
      so_far = λ text before w.
          let m = c.calls.invariant.so_far text before w in
          let next : IsNextCall text before m.section c.next_of.new.reader k = subst (λ (o : Option Kept). IsNextKept text before m.section c.next_of.new.reader (Ok o)) c.in-Some.is (c.in-Ok.ensures.next text before m.section m.within) in
          let was = c.calls.section in
          let is = c.take.new.self in
          record {
            section = section_with_entries m.section (next.entry ∷ []);
            within = next.within;
            same = record {
              same_cpus = more.same_cpus ∙ m.same.same_cpus;
              made = made_more m.section next.entry was is m.same.made (subst (λ (one : Call). IsOneMore was one is) (sym next.same) more);
              begun = begun_more m.section next.entry was is m.same.begun (subst (λ (one : Call). IsMadeOrKept was one is) (sym next.same) c.in_default-take.ensures.taken);
              kept = more.kept;
              few = omega (arith, more.few, m.same.few, length-append m.section.entries (next.entry ∷ []));
            };
          };
      kept = more.kept;
      never_more = omega (arith, c.calls.invariant.never_more, c.next_of.ensures.never_more);
    }

pub returns : goal.returns
returns c = record {
  read = λ text before w.
      let m = c.calls.invariant.so_far text before w in
      record {
        section = m.section;
        is = section_within text before m.section c.calls.reader m.within;
        following = subst (λ (o : Option Kept). IsNextKept text before m.section c.next_of.new.reader (Ok o)) c.in_default.is (c.in-Ok.ensures.next text before m.section m.within);
        same = m.same;
      };
  never_more = omega (arith, c.calls.invariant.never_more, c.next_of.ensures.never_more);
}
