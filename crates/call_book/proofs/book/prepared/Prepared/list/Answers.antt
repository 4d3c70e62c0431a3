-- Terms stand here in place of searches, which take seconds.
use Rattle.std.proofs.Common.{◌≡◌, ℕ, ◌+◌, Bool, true, false, cond, eqb, leb, ltb, List, length, sym, ap, ◌∙◌, subst, arith}
use Rattle.std.specs.List.{list_any}
use Rattle.attr_check.specs.ParamsView.{ParamsView}
use Rattle.attr_check.specs.Ratio.{cap}
use Rattle.task_script.specs.script.ScriptView.{ScriptView}
use Rattle.domain_run.specs.declared.call.Call.TheVariants as calls
use Rattle.domain_run.specs.declared.call.Reply.{Reply}
use Rattle.domain_run.specs.declared.call.Reply.TheVariants as replies
use Rattle.domain_run.specs.Domain.{Domain}
use Rattle.domain_run.specs.Calls.{admit_reply, reply_to, after_call, is_refusal}
use Rattle.domain_run.specs.Tick.{sum_of}
use Rattle.domain_run.specs.Busy.{IfBusy, LacksRoomFor}
use Rattle.calls_text.specs.Limits.{IsAdmission}
use Rattle.call_book.specs.Book.{AdmissionView, admission}
use Rattle.call_book.specs.private.Listing.{ListingSays, IsCallOf}
use Rattle.call_book.proofs.book.prepared.Prepared.list.Goals as goal

abbrev admission_from : ℕ → List ℕ → ParamsView → ℕ → ScriptView → AdmissionView
admission_from number name params delay script = record { number = number; name = name; params = params; delay = delay; script = script }

-- an admission with the same name and the same script
admission_by : (a : AdmissionView) (name : List ℕ) (script : ScriptView) → name ≡ a.name → script ≡ a.script → IsAdmission a.number a.name a.params a.delay a.script → IsAdmission a.number name a.params a.delay script
admission_by a name script n s is =
    subst (λ (x : List ℕ). IsAdmission a.number x a.params a.delay script) (sym n) (subst (λ (x : ScriptView). IsAdmission a.number a.name a.params a.delay x) (sym s) is)

back_by : (a : AdmissionView) (name : List ℕ) (script : ScriptView) → name ≡ a.name → script ≡ a.script → admission_from a.number name a.params a.delay script ≡ a
back_by a name script n s =
    ap (λ (x : List ℕ). admission_from a.number x a.params a.delay script) n ∙ ap (λ (x : ScriptView). admission_from a.number a.name a.params a.delay x) s

call_by : (a b : AdmissionView) (name : List ℕ) (script : ScriptView) → name ≡ a.name → script ≡ a.script → a ≡ b → IsAdmission a.number a.name a.params a.delay a.script → IsCallOf b (calls.Admit a.number name a.params a.delay script)
call_by a b name script n s same is =
    let whole : admission_from a.number name a.params a.delay script ≡ b = back_by a name script n s ∙ same in
    record { same = ap (λ (x : AdmissionView). admission x) whole; spelled = admission_by a name script n s is }

says_by : (old new : Domain) (a b : AdmissionView) (answer : Reply) → a ≡ b → reply_to old (admission a) ≡ answer → new ≡ after_call old (admission a) → ListingSays old new b answer
says_by old new a b answer same reply state = subst (λ (x : AdmissionView). ListingSays old new x answer) same (record { reply = reply; state = state })

-- a refusal that is not of another kind
twice_by : (d : Domain) (number : ℕ) (params : ParamsView) (r : Reply) → r ≡ admit_reply d number params → is_refusal r ≡ true → (r ≡ replies.Full → ⊥) → ((s : ℕ) → r ≡ replies.Busy s → ⊥) → r ≡ replies.Twice
twice_by d number params r is refused full busy =
    by_tests (leb 256 (length d.tasks)) (list_any (λ n. eqb n number) d.used) (ltb (cap d.cpus d.limit) (sum_of d.tasks + params.bw)) is
  where
    by_tests : (a b c : Bool) → r ≡ cond a replies.Full (cond b replies.Twice (cond c (replies.Busy (sum_of d.tasks)) replies.Admitted)) → r ≡ replies.Twice
    by_tests true b c e = absurd (full e)
    by_tests false true c e = e
    by_tests false false true e = absurd (busy (sum_of d.tasks) e)
    by_tests false false false e = let no : false ≡ true = sym (ap is_refusal e) ∙ refused in absurd cc

pub admit-requires-clause-number : goal.admit-requires-clause-number
admit-requires-clause-number c =
    let n = c.self.invariant.2.numbered in
    (n.0, omega (arith, n.1))

pub admit-requires-clause-delay : goal.admit-requires-clause-delay
admit-requires-clause-delay c = c.self.invariant.2.soon

pub returns-in_default : goal.returns-in_default
returns-in_default c =
    let i = c.self.inside in
    let inv = c.self.invariant in
    let own = admission_from i.number i.name i.params i.delay i.script in (
      says_by c.args.state.now c.admit.new.self own c.args.self replies.Admitted c.self.view_is c.in_default.ensures.admitted c.in_default.ensures.domain,
      ap (λ (a : AdmissionView). a.number) c.self.view_is,
      call_by own c.args.self i.entry_name i.entry_script inv.0 inv.1 c.self.view_is inv.2,
    )

pub invariant_of-result : goal.invariant_of-result
invariant_of-result c =
    let i = c.self.inside in
    let inv = c.self.invariant in
    let back = c.in-Err.ensures.back in
    (inv.0 ∙ sym back.0, inv.1 ∙ sym back.1, admission_by (admission_from i.number i.name i.params i.delay i.script) c.in-Err.refused.name c.in-Err.refused.script back.0 back.1 inv.2)

pub invariant_of-result-in_default-reply : goal.invariant_of-result-in_default-reply
invariant_of-result-in_default-reply c =
    let i = c.self.inside in
    let inv = c.self.invariant in
    let back = c.in-Err.ensures.back in
    (inv.0 ∙ sym back.0, inv.1 ∙ sym back.1, admission_by (admission_from i.number i.name i.params i.delay i.script) c.in-Err.refused.name c.in-Err.refused.script back.0 back.1 inv.2)

pub returns-in-Busy : goal.returns-in-Busy
returns-in-Busy c =
    let i = c.self.inside in
    let inv = c.self.invariant in
    let back = c.in-Err.ensures.back in
    let own = admission_from i.number i.name i.params i.delay i.script in
    let lacks : LacksRoomFor c.args.state.now i.params.bw c.in-Busy.seen = subst (λ (r : Reply). IfBusy r (LacksRoomFor c.args.state.now i.params.bw)) c.in-Busy.is c.in-Err.ensures.busy in (
      says_by c.args.state.now c.admit.new.self own c.args.self (replies.Busy c.in-Busy.seen) c.self.view_is (sym c.in-Err.ensures.reply ∙ c.in-Busy.is) c.in-Err.ensures.domain,
      subst (λ (a : AdmissionView). LacksRoomFor c.args.state.now a.params.bw c.in-Busy.seen) c.self.view_is lacks,
      call_by own c.args.self c.in-Err.refused.name c.in-Err.refused.script back.0 back.1 c.self.view_is inv.2,
    )

pub returns-in-Full : goal.returns-in-Full
returns-in-Full c =
    let i = c.self.inside in
    let back = c.in-Err.ensures.back in
    let own = admission_from i.number i.name i.params i.delay i.script in (
      says_by c.args.state.now c.admit.new.self own c.args.self replies.Full c.self.view_is (sym c.in-Err.ensures.reply ∙ c.in-Full.is) c.in-Err.ensures.domain,
      back_by own c.in-Err.refused.name c.in-Err.refused.script back.0 back.1 ∙ c.self.view_is,
    )

pub returns-in_default-reply : goal.returns-in_default-reply
returns-in_default-reply c =
    let i = c.self.inside in
    let back = c.in-Err.ensures.back in
    let own = admission_from i.number i.name i.params i.delay i.script in
    let reply = c.in-Err.ensures.reply in
    let twice = twice_by c.args.state.now i.number i.params c.in-Err.refused.reply reply c.in-Err.ensures.refused c.in_default-reply.not-Full c.in_default-reply.not-Busy in (
      says_by c.args.state.now c.admit.new.self own c.args.self replies.Twice c.self.view_is (sym reply ∙ twice) c.in-Err.ensures.domain,
      back_by own c.in-Err.refused.name c.in-Err.refused.script back.0 back.1 ∙ c.self.view_is,
    )
