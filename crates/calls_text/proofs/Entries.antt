-- Entries one after the other.
use Rattle.std.proofs.Common.{◌≡◌, ℕ, Bool, false, ◌+◌, ◌-◌, ◌≤◌, ◌<◌, cond, eqb, List, [], ◌∷◌, ◌++◌, length, get_or, map, set, Option, Some, None, refl, sym, ap, ◌∙◌, append_assoc, inl, inr, arith, get_or-set_same, get_or-set_other}
use Rattle.std.specs.Prelude.{codes}
use Rattle.std.specs.List.{AllByRecursion}
use Rattle.std.proofs.lemmas.Bool.{cases_eq, cases_lt, eq-eqb, ne_eqb}
use Rattle.std.proofs.lemmas.Grind.{flat_map-append}
use Rattle.std.proofs.lemmas.Option.{some_pair_parts}
use Rattle.std.proofs.lemmas.List.{append-nil, map-append, get_or_past}
use Rattle.std.proofs.lemmas.List.Folds.{list_any-append}
use Rattle.std.proofs.lemmas.List.Sums.{sum_by_push, count_by-le-length}
use Rattle.calls_text.specs.declared.section.Entry.{Entry}
use Rattle.calls_text.specs.Spelling.{entry_line, is_later, some_later, text_of}
use Rattle.calls_text.specs.OwnCalls.{IsNumberedAfter, count_made_by}
use Rattle.calls_text.specs.Limits.{IsClient}
use Rattle.calls_text.specs.ReadSoFar.{KnowsLater, IsEntryRead, entries_text, SoFar, Counts, LacksEntry}
use Rattle.calls_text.specs.private.Reading.{cut_at, known_at, IsNext}
use Rattle.calls_text.proofs.Flags.{none_of}
use Rattle.calls_text.proofs.Cuts.{cut_takes, cut_again}
use Rattle.calls_text.proofs.Lines.{call_takes, known_takes, known_again, line_lacks}

-- what an entry's line says
pub entry_takes : (later : Bool) (line made : List ℕ) (e : Entry) → IsNext later line made e → IsEntryRead e × (line ≡ entry_line e)
entry_takes later line made e next =
    let t = call_takes line (e.client, e.call) (known_takes later line (e.client, e.call) next.call).0 in
    (record { within = record { client = t.client_is; call = t.is_read }; no_reply = next.no_reply }, t.line_is)

text_more : (entries : List Entry) (e : Entry) → entries_text (entries ++ e ∷ []) ≡ entries_text entries ++ (entry_line e ++ (10 ∷ []))
text_more entries e =
    ap text_of (map-append entry_line entries (e ∷ [])) ∙ flat_map-append (λ (line : List ℕ). line ++ codes "\n") (map entry_line entries) (entry_line e ∷ [])
    ∙ ap (λ (t : List ℕ). entries_text entries ++ t) (append-nil (entry_line e ++ (10 ∷ [])))

regrouped : (t l a : List ℕ) → (t ++ (l ++ (10 ∷ []))) ++ a ≡ t ++ (l ++ 10 ∷ a)
regrouped t l a = simp append_assoc

pub each_more : (entries : List Entry) (e : Entry) → AllByRecursion IsEntryRead entries → IsEntryRead e → AllByRecursion IsEntryRead (entries ++ e ∷ [])
each_more [] e each is = (is, tt)
each_more (x ∷ entries) e each is = (each.0, each_more entries e each.1 is)

-- one more call that the header has
known_more : (later : Bool) (entries : List Entry) (e : Entry) → KnowsLater later (some_later entries) → KnowsLater later (is_later e.call) → KnowsLater later (some_later (entries ++ e ∷ []))
known_more later entries e knows more = λ no. list_any-append (λ (x : Entry). is_later x.call) entries (e ∷ []) ∙ none_of (some_later entries) (some_later (e ∷ [])) (knows no) (none_of (is_later e.call) false (more no) refl)

pub numbered_more : (before entries : List Entry) (e : Entry) → IsNumberedAfter before entries → e.seq ≡ count_made_by e.client (before ++ entries) → IsNumberedAfter before (entries ++ e ∷ [])
numbered_more before [] e is h = (h ∙ ap (count_made_by e.client) (append-nil before), tt)
numbered_more before (x ∷ entries) e is h = (is.0, numbered_more (before ++ x ∷ []) entries e is.1 (h ∙ ap (count_made_by e.client) (sym (append_assoc before (x ∷ []) entries))))

pub one_more : (later : Bool) (text rest line after made : List ℕ) (entries : List Entry) (e : Entry) → SoFar later text rest entries → Counts made entries → cut_at 10 rest ≡ Some (line, after) → IsNext later line made e → SoFar later text after (entries ++ e ∷ [])
one_more later text rest line after made entries e so_far counts cut next =
    let t = entry_takes later line made e next in
    let knows = known_takes later line (e.client, e.call) next.call in
    let rest_is : rest ≡ entry_line e ++ 10 ∷ after = cut_takes 10 rest (line, after) cut ∙ ap (λ (l : List ℕ). l ++ 10 ∷ after) t.1 in
    let whole : entries_text (entries ++ e ∷ []) ++ after ≡ entries_text entries ++ (entry_line e ++ 10 ∷ after) = ap (λ (x : List ℕ). x ++ after) (text_more entries e) ∙ regrouped (entries_text entries) (entry_line e) after in
    record {
      parts = so_far.parts ∙ ap (λ (r : List ℕ). entries_text entries ++ r) rest_is ∙ sym whole;
      known = known_more later entries e so_far.known knows.1;
      each = each_more entries e so_far.each t.0;
      numbered = numbered_more [] entries e so_far.numbered (next.seq ∙ counts e.client next.client);
    }

pub counts_more : (made : List ℕ) (entries : List Entry) (e : Entry) → Counts made entries → length made ≡ 64 → IsClient e.client → e.seq ≡ get_or made (e.client - 1) 0 → Counts (set made (e.client - 1) (e.seq + 1)) (entries ++ e ∷ [])
counts_more made entries e counts len is seq = λ client isc.
    let push : count_made_by client (entries ++ e ∷ []) ≡ count_made_by client entries + cond (eqb e.client client) 1 0 = sum_by_push (λ (x : Entry). cond (eqb x.client client) 1 0) entries e in
    elim (cases_eq e.client client) [
      | inl same ↦
          let is_place : client - 1 ≡ e.client - 1 = omega arith in
          let lt : e.client - 1 < length made = omega arith in
          let old = counts e.client is in
          let one : count_made_by client entries ≡ count_made_by e.client entries = ap (λ (c : ℕ). count_made_by c entries) (sym same) in
          rw (is_place, get_or-set_same made (e.client - 1) (e.seq + 1) 0 lt, push, eq-eqb e.client client same) (omega (arith, old, one))
      | inr other ↦
          let elsewhere : client - 1 ≡ e.client - 1 → ⊥ = λ p. other (omega arith) in
          let old = counts client isc in
          rw (get_or-set_other made (e.client - 1) (client - 1) (e.seq + 1) 0 elsewhere, push, ne_eqb e.client client other) (omega (arith, old))
    ]

pub counts_few : (made : List ℕ) (entries : List Entry) → Counts made entries → length made ≡ 64 → length entries ≤ 65536 → (k : ℕ) → get_or made k 0 ≤ 65536
counts_few made entries counts len few k =
    elim (cases_lt k 64) [
      | inl lt ↦
          let at = counts (k + 1) (omega arith, omega arith) in
          let place : k + 1 - 1 ≡ k = omega arith in
          let most = count_by-le-length (λ (x : Entry). eqb x.client (k + 1)) entries in
          let here : get_or made k 0 ≡ count_made_by (k + 1) entries = ap (λ (i : ℕ). get_or made i 0) (sym place) ∙ at in
          omega (arith, most, here)
      | inr past ↦ rw (get_or_past made k 0 (omega arith)) (omega arith)
    ]

-- the line of an entry is cut off at its end
line_cut : (e : Entry) (after : List ℕ) → IsEntryRead e → cut_at 10 (entry_line e ++ 10 ∷ after) ≡ Some (entry_line e, after)
line_cut e after is = cut_again 10 (entry_line e) after (line_lacks e.client e.call is.within.client is.within.call)

not_both : {X : Type 0} (x : X) (o : Option X) → o ≡ None → o ≡ Some x → ⊥
not_both x None none some = cc
not_both x (Some y) none some = cc

-- an unfinished line is no entry's
pub lacks_unfinished : (later : Bool) (rest : List ℕ) → cut_at 10 rest ≡ None → LacksEntry later rest
lacks_unfinished later rest cut = λ e after is knows same. not_both (entry_line e, after) (cut_at 10 rest) cut (ap (cut_at 10) same ∙ line_cut e after is)

-- nor is a line that is read as no call of this header
pub lacks_bad : (later : Bool) (rest line after : List ℕ) → cut_at 10 rest ≡ Some (line, after) → known_at later line ≡ None → LacksEntry later rest
lacks_bad later rest line after cut bad = λ e rest_of is knows same.
    let again : Some (line, after) ≡ Some (entry_line e, rest_of) = sym cut ∙ ap (cut_at 10) same ∙ line_cut e rest_of is in
    let line_is : line ≡ entry_line e = (some_pair_parts line (entry_line e) after rest_of again).0 in
    not_both (e.client, e.call) (known_at later line) bad (ap (known_at later) line_is ∙ known_again later e.client e.call is.within.client is.within.call knows)

-- before the first entry
pub starts : (later : Bool) (text : List ℕ) → SoFar later text text []
starts later text = record { parts = refl; known = λ no. refl; each = tt; numbered = tt }
