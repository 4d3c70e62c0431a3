use Rattle.std.proofs.Common.{ℕ, List, ap, ◌∙◌, sym, arith}
use Rattle.std.proofs.lemmas.List.{take_all}
use Rattle.figure_text.specs.declared.summary.DomainSummary.{DomainSummary}
use Rattle.run_figures.specs.Lines.{numbered_lines}
use Rattle.figure_text.specs.Summary.{summary_view_of, domain_row}
use Rattle.draft.proofs.CallerLemmas.{as_text}
use Rattle.figure_text.proofs.Lines.{more_numbered, numbered-map}
use Rattle.figure_text.proofs.summary.put_domains.Goals as goal

pub loop-number-preserved : goal.loop-number-preserved
loop-number-preserved c =
    let line : ℕ → DomainSummary → List ℕ = λ k d. domain_row k (summary_view_of d) in
    more_numbered line 0 c.args.domains.now c.loop-number.number c.loop-number.number c.index-domains-number.result c.args.out.now c.loop-number.out c.put_domain.new.out c.loop-number-test.true (omega arith)
    c.loop-number.invariant (as_text c.loop-number.out c.put_domain.new.out _ _ (ap (line c.loop-number.number) c.index-domains-number.is) c.put_domain.ensures)

pub returns : goal.returns
returns c =
    let line : ℕ → DomainSummary → List ℕ = λ k d. domain_row k (summary_view_of d) in
    as_text c.args.out.now c.loop-number.out _ _
    (ap (λ (ds : List DomainSummary). numbered_lines line 0 ds) (take_all c.loop-number.number c.args.domains.now c.loop-number-test.false)
    ∙ sym (numbered-map domain_row summary_view_of 0 c.args.domains.now))
    c.loop-number.invariant
