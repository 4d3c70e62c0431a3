use Rattle.std.proofs.Common.{◌∙◌, ℕ, ◌+◌, ◌-◌, ◌≡◌, Bool, ◌||◌, List, ◌∷◌, ◌++◌, [], length, ap, sym, subst, arith, length-append, length-set}
use Rattle.calls_text.specs.Spelling.{has_later}
use Rattle.calls_text.specs.ReadSoFar.{Counts}
use Rattle.calls_text.specs.Reader.{IsWithin}
use Rattle.calls_text.specs.private.Numbered.{numbered_entry}
use Rattle.calls_text.proofs.Entries.{entry_takes, one_more, counts_more, lacks_unfinished, lacks_bad}
use Rattle.calls_text.proofs.Readers.{view_of, after_from, cut_less, found_more}
use Rattle.calls_text.proofs.calls_reader.CallsReader.next_numbered.Goals as goal

pub returns-then-self-eq-MOST_CALLS-clause-next : goal.returns-then-self-eq-MOST_CALLS-clause-next
returns-then-self-eq-MOST_CALLS-clause-next c = λ text before s w.
    let own : IsWithin text before s (view_of c.self.inside) = subst (IsWithin text before s) (sym c.self.view_is) w in
    let calls : c.self.inside.calls ≡ length s.entries = own.calls in
    rw (← c.self.view_is) (after_from text before s (view_of c.self.inside) own (λ few. absurd (omega (arith, few, calls, c.if-self-eq-MOST_CALLS.true))))

pub returns-in_default-clause-next : goal.returns-in_default-clause-next
returns-in_default-clause-next c = λ text before s w.
    let own : IsWithin text before s (view_of c.self.inside) = subst (IsWithin text before s) (sym c.self.view_is) w in
    rw (← c.self.view_is) (after_from text before s (view_of c.self.inside) own (λ few. lacks_unfinished c.self.inside.later c.self.inside.rest.now (sym c.in_default.ensures)))

pub returns-in-Err-Bad-clause-next : goal.returns-in-Err-Bad-clause-next
returns-in-Err-Bad-clause-next c = λ text before s w.
    let was = c.self.inside in
    let own : IsWithin text before s (view_of was) = subst (IsWithin text before s) (sym c.self.view_is) w in
    let b = after_from text before s (view_of was) own (λ few. lacks_bad was.later was.rest.now c.in-Some.line.now c.in-Some.after.now (sym c.in-Some.ensures) (rw c.in-Err-Bad.field-0-is at c.in-Err-Bad.ensures.fault)) in
    record { body = b.body; header = b.header; so_far = b.so_far; found = b.found; few = b.few; count = b.count; lines = b.lines; full = b.full }

pub returns-in-Ok-clause-entry : goal.returns-in-Ok-clause-entry
returns-in-Ok-clause-entry c = (entry_takes c.self.inside.later c.in-Some.line.now c.self.inside.made (numbered_entry c.in-Ok.numbered) c.in-Ok.ensures.found).0.within

pub returns-in-Ok-clause-less : goal.returns-in-Ok-clause-less
returns-in-Ok-clause-less c = rw (← c.self.view_is) (cut_less c.self.inside.rest.now c.in-Some.line.now c.in-Some.after.now (sym c.in-Some.ensures))

pub returns-in-Ok-clause-never_more : goal.returns-in-Ok-clause-never_more
returns-in-Ok-clause-never_more c =
    let less = cut_less c.self.inside.rest.now c.in-Some.line.now c.in-Some.after.now (sym c.in-Some.ensures) in
    rw (← c.self.view_is) (omega (arith, less))

pub returns-in-Ok-clause-next : goal.returns-in-Ok-clause-next
returns-in-Ok-clause-next c = λ text before s w.
    let was = c.self.inside in
    let own : IsWithin text before s (view_of was) = subst (IsWithin text before s) (sym c.self.view_is) w in
    let e = numbered_entry c.in-Ok.numbered in
    let next = c.in-Ok.ensures.found in
    let more = length-append s.entries (e ∷ []) in
    let calls : was.calls ≡ length s.entries = own.calls in
    record {
      body = own.body;
      from = own.from;
      after = own.after;
      header = own.header;
      so_far = own.so_far;
      domain = own.domain;
      some = own.some;
      most = own.most;
      low = own.low;
      high = own.high;
      entries = one_more was.later own.after was.rest.now c.in-Some.line.now c.in-Some.after.now was.made s.entries e own.entries own.counts (sym c.in-Some.ensures) next;
      few = own.few;
      short = omega (arith, calls, own.short, more, c.if-self-eq-MOST_CALLS.false);
      found = ap (λ (x : Bool). was.found_later || x) c.is_later.ensures ∙ found_more was.found_later (has_later before) s.entries e own.found;
      count = own.count;
      lines = omega (arith, own.lines, more);
      calls = omega (arith, own.calls, more);
      counts = subst (λ (m : List ℕ). Counts m (s.entries ++ e ∷ [])) (sym c.in-Ok.ensures.made) (counts_more was.made s.entries e own.counts own.long next.client next.seq);
      long = ap length c.in-Ok.ensures.made ∙ length-set was.made (e.client - 1) (e.seq + 1) ∙ own.long;
    }
