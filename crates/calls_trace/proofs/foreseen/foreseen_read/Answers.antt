use Rattle.std.proofs.Common.{◌∷◌, [], Option, Ok, refl, subst, arith}
use Rattle.std.specs.Prelude.{IfSome}
use Rattle.calls_text.specs.Limits.{IsCall}
use Rattle.calls_text.specs.Reader.{empty_section, section_with_entries}
use Rattle.calls_text.specs.KeptCall.{IsNextCall, IsNextKept, call_kept}
use Rattle.calls_text.specs.declared.kept_call.Kept.{Kept}
use Rattle.calls_text.proofs.CallerLemmas.{section_within}
use Rattle.calls_trace.proofs.Forelogged.{calls_more, ticks_few}
use Rattle.calls_trace.proofs.foreseen.foreseen_read.Goals as goal

pub calls-init : goal.calls-init
calls-init c = record {
  so_far = λ text before w. record {
    section = empty_section c.args.cpus c.args.limit;
    within = w;
    same = record { same_cpus = refl; same_limit = refl; same_calls = c.none-foreseen.ensures.empty };
  };
  foreseen = c.none-foreseen.ensures.foreseen;
  never_more = omega arith;
}

pub take-requires : goal.take-requires
take-requires c =
    let b = c.requires.begun in
    let m = c.calls.invariant.so_far b.text b.before b.within in
    let few = (section_within b.text b.before m.section c.calls.reader m.within).most_entries in
    record {
      foreseen = c.calls.invariant.foreseen;
      call = subst (λ (o : Option Kept). IfSome o (λ k. IsCall (call_kept k))) c.in-Some.is c.in-Ok.ensures.call;
      few = ticks_few m.section c.args.cpus c.args.limit c.calls.foreseen c.calls.invariant.foreseen m.same few;
    }

pub calls-preserved : goal.calls-preserved
calls-preserved c =
    let k = c.in-Some.kept in
    let more = c.in_default-take.ensures in
    record {
      so_far = λ text before w.
          let m = c.calls.invariant.so_far text before w in
          let next : IsNextCall text before m.section c.next_of.new.reader k = subst (λ (o : Option Kept). IsNextKept text before m.section c.next_of.new.reader (Ok o)) c.in-Some.is (c.in-Ok.ensures.next text before m.section m.within) in
          record {
            section = section_with_entries m.section (next.entry ∷ []);
            within = next.within;
            same = calls_more m.section c.args.cpus c.args.limit c.calls.foreseen.calls c.take.new.self.calls next.entry (call_kept k) m.same next.same more.calls;
          };
      foreseen = more.foreseen;
      never_more = omega (arith, c.calls.invariant.never_more, c.next_of.ensures.never_more);
    }

pub returns : goal.returns
returns c = record {
  foreseen = c.calls.invariant.foreseen;
  read = λ text before w.
      let m = c.calls.invariant.so_far text before w in
      record {
        section = m.section;
        is = section_within text before m.section c.calls.reader m.within;
        following = subst (λ (o : Option Kept). IsNextKept text before m.section c.next_of.new.reader (Ok o)) c.in_default.is (c.in-Ok.ensures.next text before m.section m.within);
        same = m.same;
      };
  never_more = omega (arith, c.calls.invariant.never_more, c.next_of.ensures.never_more);
}
