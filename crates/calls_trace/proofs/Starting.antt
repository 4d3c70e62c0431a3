-- The calls of a section before its first advance.
use Rattle.std.proofs.Common.{◌≡◌, ℕ, Bool, true, false, cond, List, [], ◌∷◌, ◌++◌, refl, sym, ap, ◌∙◌, append_assoc, arith}
use Rattle.std.proofs.lemmas.List.Elements.{All-append}
use Rattle.domain_run.specs.declared.call.Call.{Call}
use Rattle.domain_run.specs.declared.call.Call.TheVariants.{Admit, Regrade, Wake, Leave, Advance, Limit, Depart, Arrive}
use Rattle.domain_run.specs.Domain.{Domain, empty_domain}
use Rattle.domain_run.specs.Calls.{reply_to, is_refusal, after_granted, after_call}
use Rattle.domain_run.specs.Run.{after_calls}
use Rattle.domain_run.specs.Tick.{ticks}
use Rattle.calls_text.specs.declared.section.Entry.{Entry}
use Rattle.calls_text.specs.SectionView.{SectionView}
use Rattle.calls_text.specs.Reader.{section_with_entries}
use Rattle.switch_text.specs.Names.{name_of_task}
use Rattle.calls_trace.specs.declared.kept_section.KeptSection.{KeptSection}
use Rattle.calls_trace.specs.Replay.{calls_in_section, names_of, names_after, no_names}
use Rattle.calls_trace.specs.DomainEvents.{domain_of, names_in}
use Rattle.calls_trace.specs.private.Calls.{ticks_given}
use Rattle.calls_trace.specs.private.Kept.{IsMadeUpTo, IsOneMore, IsMadeOrKept, IsBegunBy}
use Rattle.calls_trace.proofs.ReadRuns.{calls_push, after_push, names_push}
use Rattle.calls_trace.proofs.Ready.{call_left_time}

either_bare : (b : Bool) (d e : Domain) → e.switches ≡ d.switches → (cond b d e).switches ≡ d.switches
either_bare true d e same = refl
either_bare false d e same = same

-- a call that makes no tick makes no switch
pub no_switch : (d : Domain) (c : Call) → ticks_given c ≡ 0 → (after_call d c).switches ≡ d.switches
no_switch d (Admit number name params delay script) none = let c = Admit number name params delay script in either_bare (is_refusal (reply_to d c)) d (after_granted d c) refl
no_switch d (Regrade number params word) none = let c = Regrade number params word in either_bare (is_refusal (reply_to d c)) d (after_granted d c) refl
no_switch d (Wake number) none = either_bare (is_refusal (reply_to d (Wake number))) d (after_granted d (Wake number)) refl
no_switch d (Leave number) none = either_bare (is_refusal (reply_to d (Leave number))) d (after_granted d (Leave number)) refl
no_switch d (Advance k) none = ap (λ (n : ℕ). (ticks n d).switches) none
no_switch d (Limit limit word) none = either_bare (is_refusal (reply_to d (Limit limit word))) d (after_granted d (Limit limit word)) refl
no_switch d (Depart number) none = either_bare (is_refusal (reply_to d (Depart number))) d (after_granted d (Depart number)) refl
no_switch d (Arrive number name params script) none = let c = Arrive number name params script in either_bare (is_refusal (reply_to d c)) d (after_granted d c) refl

-- it takes no time
pub no_time : (d : Domain) (c : Call) → ticks_given c ≡ 0 → (after_call d c).time ≡ d.time
no_time d c none = let all = call_left_time d (after_call d c) c 0 refl in omega (arith, all, none)

-- a section with one call more
pub made_more : (s : SectionView) (e : Entry) (was is : KeptSection) → IsMadeUpTo s was.calls was.run → IsOneMore was e.call is → IsMadeUpTo (section_with_entries s (e ∷ [])) is.calls is.run
made_more s e was is made more =
    let start = empty_domain s.cpus s.limit in
    let calls = calls_in_section s in
    let longer = calls_in_section (section_with_entries s (e ∷ [])) in
    let d = was.run.state in
    let names = name_of_task was.run.names in
    let before : names_of d was.calls names ≡ names_in s = λ i m. made.called m i in
    record {
      domain = more.domain
          ∙ after_push d was.calls e.call
          ∙ ap (λ (x : Domain). after_call x e.call) made.domain
          ∙ sym (after_push start calls e.call)
          ∙ ap (after_calls start) (sym (calls_push s e));
      called = λ n. more.called n
          ∙ ap (λ (f : ℕ → List ℕ). f n) (names_push d was.calls e.call names)
          ∙ ap (λ (x : Domain). names_after x e.call (names_of d was.calls names) n) made.domain
          ∙ ap (λ (f : ℕ → List ℕ). names_after (domain_of s) e.call f n) before
          ∙ sym (ap (λ (f : ℕ → List ℕ). f n) (names_push start calls e.call no_names))
          ∙ ap (λ (cs : List Call). names_of start cs no_names n) (sym (calls_push s e));
    }

after_append : (d : Domain) (xs ys : List Call) → after_calls d (xs ++ ys) ≡ after_calls (after_calls d xs) ys
after_append d [] ys = refl
after_append d (x ∷ xs) ys = after_append (after_call d x) xs ys

-- and the calls of it that are made
pub begun_more : (s : SectionView) (e : Entry) (was is : KeptSection) → IsBegunBy s was.calls was.run.state → IsMadeOrKept was e.call is → IsBegunBy (section_with_entries s (e ∷ [])) is.calls is.run.state
begun_more s e was is begun taken =
    let start = empty_domain s.cpus s.limit in
    record {
      made = begun.made ++ taken.made;
      calls = calls_push s e
          ∙ ap (λ (cs : List Call). cs ++ e.call ∷ []) begun.calls
          ∙ append_assoc begun.made was.calls (e.call ∷ [])
          ∙ ap (λ (cs : List Call). begun.made ++ cs) taken.order
          ∙ sym (append_assoc begun.made taken.made is.calls);
      still = All-append (λ (c : Call). ticks_given c ≡ 0) begun.made taken.made begun.still taken.still;
      domain = taken.domain ∙ ap (λ (d : Domain). after_calls d taken.made) begun.domain ∙ sym (after_append start begun.made taken.made);
    }

-- ---- a refused call
