-- A history of a book with one entry more.
use Rattle.std.proofs.Common.{◌≡◌, ℕ, ◌+◌, ◌<◌, ◌≤◌, true, false, cond, eqb, List, [], ◌∷◌, ◌++◌, length, map, refl, sym, ap, ◌∙◌, arith, length-append}
use Rattle.std.proofs.lemmas.List.{map-append}
use Rattle.std.proofs.lemmas.List.Elements.{All-push}
use Rattle.std.proofs.lemmas.List.Sums.{sum_by-cons, count_by-le-length}
use Rattle.calls_text.specs.declared.section.Entry.{Entry}
use Rattle.calls_text.specs.Limits.{IsCall, IsEntry}
use Rattle.calls_text.specs.OwnCalls.{count_made_by}
use Rattle.call_book.specs.Book.{with_key, own_entries, IsMember}
use Rattle.call_book.specs.private.Ledger.{IsHistory}
use Rattle.calls_text.proofs.CallerLemmas.{numbered_more}

-- a client's own entries are as many as it made
pub length-own : (client : ℕ) (history : List Entry) → length (own_entries client history) ≡ count_made_by client history
length-own client [] = refl
length-own client (e ∷ history) =
    let step = sum_by-cons (λ (x : Entry). cond (eqb x.client client) 1 0) e history in
    let count : length (own_entries client (e ∷ history)) ≡ cond (eqb e.client client) 1 0 + count_made_by client history =
    elim (eqb e.client client) as (λ b. length (cond b (e ∷ own_entries client history) (own_entries client history)) ≡ cond b 1 0 + count_made_by client history) [ true ↦ omega (arith, length-own client history) | false ↦ omega (arith, length-own client history) ] in
    count ∙ sym step

pub made_by_most : (client : ℕ) (history : List Entry) → count_made_by client history ≤ length history
made_by_most client history = count_by-le-length (λ (e : Entry). eqb e.client client) history

pub history_push : (clients room : ℕ) (history : List Entry) (e : Entry) → IsHistory clients room history → e.seq ≡ count_made_by e.client history → IsMember clients e.client → IsCall e.call → length history < room → IsHistory clients room (history ++ e ∷ [])
history_push clients room history e is seq member call free =
    let few = is.few in
    let most = member.most in
    let long = length-append history (e ∷ []) in
    record {
      numbered = numbered_more [] history e is.numbered seq;
      members = All-push (λ (x : Entry). IsMember clients x.client) history e is.members member;
      entries = All-push IsEntry history e is.entries (record { client = (member.some, omega (arith, most, few)); call = call });
      few = is.few;
      within = omega (arith, long, free);
      short = is.short;
    }

-- the spine's list grows as the history does
pub log_push : (log longer : List (ℕ × Entry)) (history after : List Entry) (client : ℕ) (e : Entry) → log ≡ map with_key history → longer ≡ log ++ (client, e) ∷ [] → client ≡ e.client → after ≡ history ++ e ∷ [] → longer ≡ map with_key after
log_push log longer history after client e listed more mine grown =
    more ∙ ap (λ (xs : List (ℕ × Entry)). xs ++ (client, e) ∷ []) listed ∙ ap (λ (c : ℕ). map with_key history ++ (c, e) ∷ []) mine ∙ sym (map-append with_key history (e ∷ [])) ∙ ap (map with_key) (sym grown)
