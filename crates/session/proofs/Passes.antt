-- A client of which one pass has made a call.
use Rattle.std.proofs.Common.{◌≡◌, ℕ, ◌<◌, Bool, true, false, eqb, List, length, set, get_or, Option, Ok, Err, refl, sym, ap, subst, ◌∙◌, arith}
use Rattle.std.specs.Prelude.{IfSome}
use Rattle.std.proofs.lemmas.Bool.{eqb-true, eqb-false}
use Rattle.std.proofs.lemmas.List.{get_or-set_same, get_or-set_other, length-set}
use Rattle.pass_seats.specs.Lists.{PassView}
use Rattle.bw_gate.specs.Pieces.{BlankView}
use Rattle.domain_run.specs.declared.call.Call.{Call}
use Rattle.domain_run.specs.declared.call.Call.TheVariants as calls
use Rattle.calls_text.specs.declared.section.Entry.{Entry}
use Rattle.call_book.specs.Book.{admission}
use Rattle.session.specs.declared.locked_book.Ask.{Ask}
use Rattle.session.specs.declared.locked_book.Ask.TheVariants as asks
use Rattle.session.specs.SessionId.{SessionId}
use Rattle.session.specs.Asks.{Answer}
use Rattle.session.specs.private.Entering.{pass_after, IsPassAt, IsClientOf, IsDone}

-- a call changes neither whose pass it is nor of which book
pub kept : (p q : PassView Entry) (call : Call) (answer : Answer) → q ≡ pass_after p call answer → (q.spine ≡ p.spine) × (q.client ≡ p.client)
kept p q call (Ok reply) is = (ap (λ (r : PassView Entry). r.spine) is, ap (λ (r : PassView Entry). r.client) is)
kept p q call (Err refusal) is = (ap (λ (r : PassView Entry). r.spine) is, ap (λ (r : PassView Entry). r.client) is)

pub done_kept : (id : SessionId) (d : ℕ) (p q : PassView Entry) (ask : Ask) (answer : Answer) (blank : Option BlankView) → IsDone id d p q ask answer blank → (q.spine ≡ p.spine) × (q.client ≡ p.client)
done_kept id d p q (asks.Admit prepared ticket) answer blank done = kept p q (admission prepared) answer done.pass
done_kept id d p q (asks.Regrade number params) answer blank done = kept p q (calls.Regrade number params done.word) answer done.replied.pass
done_kept id d p q (asks.Wake number) answer blank done = kept p q (calls.Wake number) answer done.pass
done_kept id d p q (asks.Leave number) answer blank done = kept p q (calls.Leave number) answer done.pass
done_kept id d p q (asks.Limit piece limit) answer blank done = kept p q (calls.Limit limit done.word) answer done.replied.pass

pub still_client : (id : SessionId) (number : ℕ) (ps : List (PassView Entry)) (hand now : Option BlankView) (d : ℕ) (p q : PassView Entry)
    → IsClientOf id number ps hand → d < length ps → p ≡ get_or ps d p → (q.spine ≡ p.spine) × (q.client ≡ p.client) → IfSome now (λ b. b.gate ≡ id.gate)
    → IsClientOf id number (set ps d q) now
still_client id number ps hand now d p q is inside at same own = record {
  member = is.member;
  count = length-set ps d q ∙ is.count;
  each = λ e x there. by e x there (eqb e d) refl;
  own = own;
}
  where
    by : (e : ℕ) (x : PassView Entry) → e < length (set ps d q) → (b : Bool) → eqb e d ≡ b → IsPassAt id number e (get_or (set ps d q) e x)
    by e x there true eq =
        let was = is.each d p inside in
        let here : IsPassAt id number d q = record {
          spine = same.0 ∙ ap (λ (r : PassView Entry). r.spine) at ∙ was.spine;
          owner = same.1 ∙ ap (λ (r : PassView Entry). r.client) at ∙ was.owner;
        } in
        subst (λ (k : ℕ). IsPassAt id number k (get_or (set ps d q) k x)) (sym (eqb-true e d eq)) (subst (IsPassAt id number d) (sym (get_or-set_same ps d q x inside)) here)
    by e x there false eq =
        let before : e < length ps = omega (arith, there, length-set ps d q) in
        subst (IsPassAt id number e) (sym (get_or-set_other ps d e q x (eqb-false e d eq))) (is.each e x before)
