-- What a ticket learns that asks its word for another bandwidth.
use Rattle.std.proofs.Common.{◌≡◌, ℕ, ◌+◌, ◌-◌, ◌<◌, Some, None, List, [], ◌∷◌, ◌++◌, length, refl, sym, ap, ◌∙◌, subst, arith, append_assoc}
use Rattle.std.proofs.lemmas.List.{length-append, length_push}
use Rattle.bw_gate.specs.Word.{used_of, cap_of, IsWord}
use Rattle.bw_gate.specs.Pieces.{TicketView, cpus_of, found_in, last_word_found}
use Rattle.bw_gate.specs.declared.view.Found.{Found}
use Rattle.bw_gate.specs.Answers.{words_of, IsRegrade}
use Rattle.bw_gate.specs.declared.answer.Regrade.TheVariants.{Changed, Refused}
use Rattle.call_book.specs.Pieces.{IsTicketAnswered}

pub last_of_push : (found : List Found) (d n : ℕ) → last_word_found (found ++ found_in d (n ∷ [])) ≡ n
last_of_push [] d n = refl
last_of_push (a ∷ []) d n = refl
last_of_push (a ∷ b ∷ found) d n = last_of_push (b ∷ found) d n

in_more : (d : ℕ) (words more : List ℕ) → found_in d (words ++ more) ≡ found_in d words ++ found_in d more
in_more d [] more = refl
in_more d (n ∷ words) more = ap (λ (found : List Found). record { domain = d; word = n } ∷ found) (in_more d words more)

-- a ticket that the gate refused has its answer
pub refused_answer : (t u : TicketView) (bw seen used : ℕ) → IsRegrade t bw (Refused u seen) → used ≡ used_of seen → IsTicketAnswered t bw u (Some used)
refused_answer t u bw seen used asked logged =
    let words = words_of asked.races in
    let h = asked.last in
    let before = found_in t.domain words in
    let found : u.found ≡ (t.found ++ before) ++ found_in t.domain (seen ∷ []) = ap (λ (x : TicketView). x.found) h.ticket in
    let last : last_word_found u.found ≡ seen = ap last_word_found found ∙ last_of_push (t.found ++ before) t.domain seen in
    let over : cap_of seen < used - t.bw + bw = subst (λ (n : ℕ). cap_of seen < n - t.bw + bw) (sym logged) h.over in
    record {
      words = words ++ seen ∷ [];
      some = omega (arith, length_push words seen);
      found = found ∙ append_assoc t.found before (found_in t.domain (seen ∷ [])) ∙ ap (λ (f : List Found). t.found ++ f) (sym (in_more t.domain words (seen ∷ [])));
      own = record { own = ap (λ (x : TicketView). x.gate) h.ticket; inside = ap (λ (x : TicketView). x.domain) h.ticket };
      answer = (ap (λ (x : TicketView). x.bw) h.ticket, ap used_of last ∙ sym logged, subst (IsWord (cpus_of t.gate t.domain)) (sym last) h.word, subst (λ (n : ℕ). cap_of n < used - t.bw + bw) (sym last) over);
      asked = subst (λ (n : ℕ). IsRegrade t bw (Refused u n)) (sym last) asked;
    }

-- and so has one that the gate changed
pub changed_answer : (t u : TicketView) (bw : ℕ) → IsRegrade t bw (Changed u) → IsTicketAnswered t bw u None
changed_answer t u bw asked =
    let words = words_of asked.races in
    let h = asked.last in
    let two = h.seen ∷ h.seen ∷ [] in
    let both : length two ≡ 2 = refl in
    let found : u.found ≡ (t.found ++ found_in t.domain words) ++ found_in t.domain two = ap (λ (x : TicketView). x.found) h.ticket in
    record {
      words = words ++ two;
      some = omega (arith, length-append words two, both);
      found = found ∙ append_assoc t.found (found_in t.domain words) (found_in t.domain two) ∙ ap (λ (f : List Found). t.found ++ f) (sym (in_more t.domain words two));
      own = record { own = ap (λ (x : TicketView). x.gate) h.ticket; inside = ap (λ (x : TicketView). x.domain) h.ticket };
      answer = ap (λ (x : TicketView). x.bw) h.ticket;
      asked = asked;
    }
