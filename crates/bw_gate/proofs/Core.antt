-- The gate's steps are those of the pure core.
use Rattle.std.proofs.Common.{◌≡◌, ◌≢◌, ◌≤◌, ◌<◌, ℕ, ◌+◌, ◌-◌, ◌==◌, Bool, true, false, List, [], ◌∷◌, Option, Some, None, refl, sym, ap, ◌∙◌, arith, ⊎_elim, eq-eqb, lt-ltb, le-ltb}
use Rattle.std.specs.Prelude.{if◌then◌else◌}
use Rattle.std.specs.List.{sum_by}
use Rattle.std.proofs.lemmas.List.Sums.{sum_by-cons, sum_by-append}
use Rattle.bw_world.specs.declared.step.Outcome.{Outcome}
use Rattle.bw_world.specs.declared.step.Outcome.TheVariants.{Saw, Over, Lost}
use Rattle.bw_world.specs.declared.step.Word.{Word}
use Rattle.bw_world.specs.declared.ticket.Ticket.{Ticket}
use Rattle.bw_world.specs.WorldView.{DomainView}
use Rattle.bw_world.specs.DomainStep.{unchanged_step, done, word_in, is_expected, refusal_of, limit_refusal_of, step_unless_refused, given_found}
use Rattle.bw_gate.specs.declared.answer.Take.TheVariants as takes
use Rattle.bw_gate.specs.declared.answer.Regrade.TheVariants as regrades
use Rattle.bw_gate.specs.declared.answer.Limit.TheVariants as limits
use Rattle.bw_gate.specs.declared.view.Piece.{Piece}
use Rattle.bw_gate.specs.declared.view.Piece.TheVariants as pieces
use Rattle.bw_gate.specs.declared.view.View.{View}
use Rattle.bw_gate.specs.Pieces.{BlankView, TicketView}
use Rattle.std.proofs.lemmas.Bool.{eqb-true, cases_Bool, and_parts}
use Rattle.bw_gate.specs.Word.{used_of, cap_of}
use Rattle.bw_gate.specs.Answers.{cap_by}
use Rattle.std.specs.Prelude.{slice_index, length}
use Rattle.std.proofs.Math.Decide.{dec_lt}
use Rattle.bw_gate.specs.Terms.{TermsView}
use Rattle.bw_gate.specs.Table.{held, held_by, held_by_all, IsTableKept}
use Rattle.bw_gate.proofs.Views.{past_end}
use Rattle.bw_gate.specs.Core.{core_word, tickets_in, tickets_from, with_taken, with_regraded, KeepsTheLaw, TakesAsTheCore, RegradesAsTheCore, GivesAsTheCore, LoadsAsTheCore, LimitsAsTheCore}

sum_if : (b : Bool) (t : Ticket) (ts : List Ticket) → sum_by (λ u. u.bw) (if b then (t ∷ ts) else ts) ≡ (if b then t.bw else 0) + sum_by (λ u. u.bw) ts
sum_if true t ts = sum_by-cons (λ (u : Ticket). u.bw) t ts
sum_if false t ts = let e : sum_by (λ (u : Ticket). u.bw) ts ≡ 0 + sum_by (λ (u : Ticket). u.bw) ts = omega arith in e

sum_in : (d id : ℕ) (ps : List Piece) → sum_by (λ t. t.bw) (tickets_in d id ps) ≡ sum_by (held d) ps
sum_in d id [] = refl
sum_in d id (pieces.Blank ∷ rest) =
    let a = sum_by-cons (held d) pieces.Blank rest in
    let b = sum_in d id rest in
    omega (arith, a, b)
sum_in d id (pieces.Ticket e bw ∷ rest) =
    let a = sum_by-cons (held d) (pieces.Ticket e bw) rest in
    let b = sum_in d id rest in
    let s = sum_if (e == d) (record { id = id; bw = bw }) (tickets_in d id rest) in
    omega (arith, a, b, s)

sum_from : (d id : ℕ) (views : List View) → sum_by (λ t. t.bw) (tickets_from d id views) ≡ held_by_all d views
sum_from d id [] = refl
sum_from d id (v ∷ views) =
    let a = sum_by-append (λ (t : Ticket). t.bw) (tickets_in d id v.pieces) (tickets_from d (id + 1) views) in
    let b = sum_in d id v.pieces in
    let s = sum_from d (id + 1) views in
    let e = sum_by-cons (held_by d) v views in
    omega (arith, a, b, s, e)

within_at : (terms : TermsView) (words : List ℕ) (views : List View) (d : ℕ) → IsTableKept terms words views → Dec (d < length terms.cpus) → used_of (slice_index words d) ≤ cap_of (slice_index words d)
within_at terms words views d kept (yes lt) = (kept.sound d lt).within
within_at terms words views d kept (no ge) =
    let none = ap used_of (past_end words d (omega (arith, kept.count, ge))) in
    omega (arith, none)

pub keeps_the_law : KeepsTheLaw
keeps_the_law terms words views d kept =
    let k = kept.exact d in
    let s = sum_from d 0 views in
    record {
      sum = omega (arith, k, s);
      capped = within_at terms words views d kept (dec_lt d (length terms.cpus));
      book = refl;
      numbers = λ number. omega arith;
    }

-- whether a domain's word is the expected one
expected_is : (n : ℕ) (c : DomainView) → word_in c ≡ core_word n → is_expected (core_word n) c ≡ true
expected_is n c word = rw (eq-eqb c.used (used_of n) (ap (λ (w : Word). w.used) word), eq-eqb c.cap (cap_of n) (ap (λ (w : Word). w.cap) word)) refl

expected_not : (n m : ℕ) (c : DomainView) → word_in c ≡ core_word n → n ≢ m → is_expected (core_word m) c ≡ false
expected_not n m c word ne =
    ⊎_elim
    (λ (yes : is_expected (core_word m) c ≡ true).
    let both = and_parts (c.used == used_of m) (c.cap == cap_of m) yes in
    let used = eqb-true c.used (used_of m) both.0 in
    let cap = eqb-true c.cap (cap_of m) both.1 in
    let same : n ≡ m = omega (arith, used, cap, ap (λ (w : Word). w.used) word, ap (λ (w : Word). w.cap) word) in
    absurd (ne same))
    (λ (no : is_expected (core_word m) c ≡ false). no)
    (cases_Bool (is_expected (core_word m) c))

-- why an exchange is refused, by what is known of the word
lost : (n m wanted : ℕ) (c : DomainView) → word_in c ≡ core_word n → n ≢ m → refusal_of (core_word m) wanted c ≡ Some (Lost (word_in c))
lost n m wanted c word ne = rw (expected_not n m c word ne) refl

over : (n wanted : ℕ) (c : DomainView) → word_in c ≡ core_word n → c.cap < wanted → refusal_of (core_word n) wanted c ≡ Some (Over (word_in c))
over n wanted c word lt = rw (expected_is n c word, lt-ltb c.cap wanted lt) refl

granted : (n wanted : ℕ) (c : DomainView) → word_in c ≡ core_word n → wanted ≤ c.cap → refusal_of (core_word n) wanted c ≡ None
granted n wanted c word le = rw (expected_is n c word, le-ltb c.cap wanted le) refl

limit_lost : (n m cap : ℕ) (c : DomainView) → word_in c ≡ core_word n → n ≢ m → limit_refusal_of (core_word m) cap c ≡ Some (Lost (word_in c))
limit_lost n m cap c word ne = rw (expected_not n m c word ne) refl

limit_over : (n cap : ℕ) (c : DomainView) → word_in c ≡ core_word n → cap < c.used → limit_refusal_of (core_word n) cap c ≡ Some (Over (word_in c))
limit_over n cap c word lt = rw (expected_is n c word, lt-ltb cap c.used lt) refl

limit_granted : (n cap : ℕ) (c : DomainView) → word_in c ≡ core_word n → c.used ≤ cap → limit_refusal_of (core_word n) cap c ≡ None
limit_granted n cap c word le = rw (expected_is n c word, le-ltb cap c.used le) refl

answers : (c : DomainView) (changed : DomainView) (a b : Option Outcome) → a ≡ b → step_unless_refused c a changed ≡ step_unless_refused c b changed
answers c changed a b e = ap (λ (o : Option Outcome). step_unless_refused c o changed) e

-- the parts of a domain's word
used_is : (n : ℕ) (c : DomainView) → word_in c ≡ core_word n → c.used ≡ used_of n
used_is n c word = ap (λ (w : Word). w.used) word

cap_is : (n : ℕ) (c : DomainView) → word_in c ≡ core_word n → c.cap ≡ cap_of n
cap_is n c word = ap (λ (w : Word). w.cap) word

pub takes_as_the_core : TakesAsTheCore
takes_as_the_core b d bw (takes.Taken t) h = record {
  seen = h.seen;
  found = ap (λ (u : TicketView). u.found) h.ticket;
  core = λ id c word.
      answers c (with_taken id bw c) (refusal_of (core_word h.seen) (c.used + bw) c) None (granted h.seen (c.used + bw) c word (omega (arith, used_is h.seen c word, cap_is h.seen c word, h.room)))
      ∙ ap (λ (k : ℕ). done (with_taken id k c)) (sym (ap (λ (u : TicketView). u.bw) h.ticket));
}
takes_as_the_core b d bw (takes.Refused e seen) h = λ id c word.
    answers c (with_taken id bw c) (refusal_of (core_word seen) (c.used + bw) c) (Some (Over (word_in c))) (over seen (c.used + bw) c word (omega (arith, used_is seen c word, cap_is seen c word, h.over)))
takes_as_the_core b d bw (takes.Raced e expected seen) h = λ id c word.
    answers c (with_taken id bw c) (refusal_of (core_word expected) (c.used + bw) c) (Some (Lost (word_in c))) (lost seen expected (c.used + bw) c word h.raced.other)

pub regrades_as_the_core : RegradesAsTheCore
regrades_as_the_core t bw (regrades.Changed u) h = record {
  seen = h.seen;
  found = ap (λ (w : TicketView). w.found) h.ticket;
  core = λ id c word.
      answers c (with_regraded id t.bw bw c) (refusal_of (core_word h.seen) (c.used - t.bw + bw) c) None (granted h.seen (c.used - t.bw + bw) c word (omega (arith, used_is h.seen c word, cap_is h.seen c word, h.room)))
      ∙ ap (λ (k : ℕ). done (with_regraded id t.bw k c)) (sym (ap (λ (w : TicketView). w.bw) h.ticket));
}
regrades_as_the_core t bw (regrades.Refused u seen) h = λ id c word.
    answers c (with_regraded id t.bw bw c) (refusal_of (core_word seen) (c.used - t.bw + bw) c) (Some (Over (word_in c))) (over seen (c.used - t.bw + bw) c word (omega (arith, used_is seen c word, cap_is seen c word, h.over)))
regrades_as_the_core t bw (regrades.Raced u expected seen) h = λ id c word.
    answers c (with_regraded id t.bw bw c) (refusal_of (core_word expected) (c.used - t.bw + bw) c) (Some (Lost (word_in c))) (lost seen expected (c.used - t.bw + bw) c word h.raced.other)

pub gives_as_the_core : GivesAsTheCore
gives_as_the_core t b h = record {
  seen = h.seen;
  found = ap (λ (w : BlankView). w.found) h.blank;
  core = λ id c word here. ap (λ (o : Option Ticket). given_found id c o) here;
}

pub loads_as_the_core : LoadsAsTheCore
loads_as_the_core t n u h = record {
  found = ap (λ (w : TicketView). w.found) h.ticket;
  core = λ c word. ap (λ (k : Word). unchanged_step c (Saw k)) word;
}

pub limits_as_the_core : LimitsAsTheCore
limits_as_the_core b d limit (limits.Set e) h = record {
  seen = h.seen;
  found = ap (λ (w : BlankView). w.found) h.blank;
  core = λ id c word.
      answers c (record c { cap = cap_by b.gate d limit }) (limit_refusal_of (core_word h.seen) (cap_by b.gate d limit) c) None (limit_granted h.seen (cap_by b.gate d limit) c word (omega (arith, used_is h.seen c word, h.room)));
}
limits_as_the_core b d limit (limits.Refused e seen) h = λ id c word.
    answers c (record c { cap = cap_by b.gate d limit }) (limit_refusal_of (core_word seen) (cap_by b.gate d limit) c) (Some (Over (word_in c))) (limit_over seen (cap_by b.gate d limit) c word (omega (arith, used_is seen c word, h.over)))
limits_as_the_core b d limit (limits.Raced e expected seen) h = λ id c word.
    answers c (record c { cap = cap_by b.gate d limit }) (limit_refusal_of (core_word expected) (cap_by b.gate d limit) c) (Some (Lost (word_in c))) (limit_lost seen expected (cap_by b.gate d limit) c word h.raced.other)
