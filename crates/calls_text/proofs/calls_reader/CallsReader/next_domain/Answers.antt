use Rattle.std.proofs.Common.{◌∙◌, ◌+◌, ◌-◌, ◌≡◌, length, ap, sym, subst, refl, arith}
use Rattle.std.proofs.lemmas.List.{get_or-replicate}
use Rattle.calls_text.specs.declared.fault.PartFault.TheVariants.{Bad}
use Rattle.calls_text.specs.Reader.{ReaderView, IsAfter, empty_section}
use Rattle.calls_text.specs.private.Reading.{LacksDomain}
use Rattle.calls_text.proofs.Entries.{starts}
use Rattle.calls_text.proofs.Lines.{domain_takes}
use Rattle.calls_text.proofs.Readers.{view_of, cut_less, none_made, none_yet}
use Rattle.calls_text.proofs.SectionSteps.{domain_found, domain_unfinished, no_section}
use Rattle.calls_text.proofs.calls_reader.CallsReader.next_domain.Goals as goal

pub returns-then-self-eq-MOST_SECTIONS-clause-next : goal.returns-then-self-eq-MOST_SECTIONS-clause-next
returns-then-self-eq-MOST_SECTIONS-clause-next c = λ text done b.
    let own : IsAfter text done (view_of c.self.inside) = subst (IsAfter text done) (sym c.self.view_is) b in
    let count : c.self.inside.sections ≡ length done = own.count in
    c.end.ensures.next text done b (λ few. absurd (omega (arith, few, count, c.if-self-eq-MOST_SECTIONS.true)))

pub returns-in_default-clause-next : goal.returns-in_default-clause-next
returns-in_default-clause-next c = λ text done b.
    let lacks : LacksDomain c.self.inside.rest.now = domain_unfinished c.self.inside.rest.now (sym c.in_default.ensures) in
    c.end-in_default.ensures.next text done b (λ few. subst (λ (r : ReaderView). LacksDomain r.rest) c.self.view_is lacks)

pub returns-in-Err-Bad-clause-next : goal.returns-in-Err-Bad-clause-next
returns-in-Err-Bad-clause-next c = λ text done b.
    let lacks : LacksDomain c.self.inside.rest.now = no_section c.self.inside.rest.now c.in-Some.line.now c.in-Some.entries.now Bad (sym c.in-Some.ensures) (rw c.in-Err-Bad.field-0-is at c.in-Err-Bad.ensures.gives) in
    c.end-in-Err-Bad.ensures.next text done b (λ few. subst (λ (r : ReaderView). LacksDomain r.rest) c.self.view_is lacks)

pub returns-in-Ok-clause-next : goal.returns-in-Ok-clause-next
returns-in-Ok-clause-next c = λ text done b.
    let was = c.self.inside in
    let own : IsAfter text done (view_of was) = subst (IsAfter text done) (sym c.self.view_is) b in
    let line = c.in-Some.line.now in
    let after = c.in-Some.entries.now in
    let cpus = c.in-Ok.cpus in
    let limit = c.in-Ok.limit in
    let took = domain_takes line (cpus, limit) c.in-Ok.ensures.gives in
    let count : was.sections ≡ length done = own.count in
    record {
      body = own.body;
      from = was.rest.now;
      after = after;
      header = own.header;
      so_far = own.so_far;
      domain = domain_found was.rest.now line after (cpus, limit) (empty_section cpus limit) refl refl (sym c.in-Some.ensures) c.in-Ok.ensures.gives;
      some = took.some;
      most = took.few;
      low = took.low;
      high = took.high;
      entries = starts was.later after;
      few = omega (arith, count, own.few, c.if-self-eq-MOST_SECTIONS.false);
      short = omega arith;
      found = own.found ∙ none_yet _;
      count = ap (λ n. n + 1) own.count;
      lines = ap (λ n. n + 1) own.lines;
      calls = refl;
      counts = λ client is. get_or-replicate 64 (client - 1) 0 0 (omega arith);
      long = refl;
    }

pub returns-in-Ok-clause-less : goal.returns-in-Ok-clause-less
returns-in-Ok-clause-less c = rw (← c.self.view_is) (cut_less c.self.inside.rest.now c.in-Some.line.now c.in-Some.entries.now (sym c.in-Some.ensures))

pub invariant_of-self : goal.invariant_of-self
invariant_of-self c =
    let i = c.self.invariant in
    record {
      most = omega (arith, i.most, c.if-self-eq-MOST_SECTIONS.false);
      few = omega arith;
      counted = omega (arith, i.counted, i.few);
      fewer = none_made;
    }
