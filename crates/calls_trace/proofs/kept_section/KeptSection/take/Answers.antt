use Rattle.std.proofs.Common.{◌≡◌, List, [], ◌∷◌, ◌++◌, refl, sym, ap, ◌∙◌}
use Rattle.std.proofs.lemmas.List.Elements.{All-nil, All-cons}
use Rattle.domain_run.specs.declared.call.Call.{Call}
use Rattle.calls_text.specs.KeptCall.{call_kept}
use Rattle.calls_trace.specs.private.Calls.{ticks_given}
use Rattle.calls_trace.proofs.kept_section.KeptSection.take.Goals as goal

-- none was kept, and the call is made
pub returns-then-not-is_advance-clause-taken : goal.returns-then-not-is_advance-clause-taken
returns-then-not-is_advance-clause-taken c =
    let call = call_kept c.args.kept in
    let none : c.args.self.now.calls ≡ [] = c.is_empty.ensures c.if-is_empty.true in
    record {
      made = call ∷ [];
      order = ap (λ (cs : List Call). cs ++ call ∷ []) none ∙ sym (ap (λ (cs : List Call). call ∷ cs) none);
      still = All-cons (λ (c : Call). ticks_given c ≡ 0) call [] (c.is_advance.ensures c.if-not-is_advance.true) (All-nil (λ (c : Call). ticks_given c ≡ 0));
      domain = c.in_ok-make_kept.ensures.state;
    }

-- it is kept
pub returns-clause-taken : goal.returns-clause-taken
returns-clause-taken c = record { made = []; order = sym c.in_ok-push.ensures; still = All-nil (λ (c : Call). ticks_given c ≡ 0); domain = refl }
