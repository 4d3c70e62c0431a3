-- One byte on in a text.
use Rattle.std.proofs.Common.{ℕ, ◌+◌, ◌<◌, ◌≡◌, List, [], ◌∷◌, ◌++◌, length, drop, get_or, Option, Bool, sym, ap, ◌∙◌, append_assoc, add-zero}
use Rattle.std.proofs.lemmas.List.{at_drop_more, get_or-drop}
use Rattle.rtapp_dialect.specs.Comments.{within_after, byte_written, blanked_from, comment_place, comment_from}
use Rattle.rtapp_dialect.specs.Filling.{first_solid, quote_after, last_after, inside_after, lacks_value, byte_kept, added, filled_from, inserted_at, inserted_from}
use Rattle.rtapp_dialect.specs.declared.comments.Within.{Within}
use Rattle.rtapp_dialect.specs.declared.bracket.Bracket.{Bracket}
use Rattle.rtapp_dialect.specs.declared.spot.Quote.{Quote}
use Rattle.rtapp_dialect.specs.declared.spot.Last.{Last}
use Rattle.rtapp_dialect.specs.declared.insertion.Insertion.{Insertion}

-- the byte after those that were dropped
next_byte : (text : List ℕ) (i : ℕ) → get_or (drop i text) 0 0 ≡ get_or text i 0
next_byte text i = get_or-drop i text 0 0 ∙ ap (λ (n : ℕ). get_or text n 0) (add-zero i)

blank_one : (w : Within) (text : List ℕ) (i : ℕ) → i < length text →
    blanked_from w (drop i text) ≡ byte_written w (get_or text i 0) (get_or text (i + 1) 0) ∷ blanked_from (within_after w (get_or text i 0) (get_or text (i + 1) 0)) (drop (i + 1) text)
blank_one w text i h =
    at_drop_more (blanked_from w) text i 0 h
    ∙ ap (λ (n : ℕ). byte_written w (get_or text i 0) n ∷ blanked_from (within_after w (get_or text i 0) n) (drop (i + 1) text)) (next_byte text (i + 1))

-- what was written, and what the rest will give
pub blank_step : (w v : Within) (text out new all : List ℕ) (i next b : ℕ) → i < length text → next ≡ get_or text (i + 1) 0 → b ≡ byte_written w (get_or text i 0) next → v ≡ within_after w (get_or text i 0) next → new ≡ out ++ (b ∷ []) →
    out ++ blanked_from w (drop i text) ≡ all → new ++ blanked_from v (drop (i + 1) text) ≡ all
blank_step w v text out new all i next b h e f g n inv =
    rw (n, f, g, e) (append_assoc out (byte_written w (get_or text i 0) (get_or text (i + 1) 0) ∷ []) (blanked_from (within_after w (get_or text i 0) (get_or text (i + 1) 0)) (drop (i + 1) text)) ∙ ap (λ (x : List ℕ). out ++ x) (sym (blank_one w text i h)) ∙ inv)

fault_one : (w : Within) (text : List ℕ) (i before : ℕ) → i < length text →
    comment_from w before i (drop i text) ≡ comment_from (within_after w (get_or text i 0) (get_or text (i + 1) 0)) (comment_place w (get_or text i 0) i before) (i + 1) (drop (i + 1) text)
fault_one w text i before h =
    at_drop_more (comment_from w before i) text i 0 h
    ∙ ap (λ (n : ℕ). comment_from (within_after w (get_or text i 0) n) (comment_place w (get_or text i 0) i before) (i + 1) (drop (i + 1) text)) (next_byte text (i + 1))

pub fault_step : (w v : Within) (text : List ℕ) (all : Option ℕ) (i next at before : ℕ) → i < length text → next ≡ get_or text (i + 1) 0 → at ≡ comment_place w (get_or text i 0) i before → v ≡ within_after w (get_or text i 0) next →
    comment_from w before i (drop i text) ≡ all → comment_from v at (i + 1) (drop (i + 1) text) ≡ all
fault_step w v text all i next at before h e f g inv =
    rw (f, g, e) (sym (fault_one w text i before h) ∙ inv)

pub fill_step : (q r : Quote) (l m : Last) (a b : List Bracket) (text out mid new all : List ℕ) (i k : ℕ) (lacks : Bool) → i < length text →
    lacks ≡ lacks_value q l (get_or text i 0) → mid ≡ out ++ added lacks → k ≡ byte_kept q l (get_or text i 0) (first_solid (drop (i + 1) text)) → new ≡ mid ++ (k ∷ []) →
    r ≡ quote_after q (get_or text i 0) → m ≡ last_after q l a (get_or text i 0) → b ≡ inside_after q a (get_or text i 0) →
    out ++ filled_from q l a (drop i text) ≡ all → new ++ filled_from r m b (drop (i + 1) text) ≡ all
fill_step q r l m a b text out mid new all i k lacks h x d e n f g j inv =
    rw (n, d, x, e, f, g, j) (
    append_assoc (out ++ added (lacks_value q l (get_or text i 0))) (byte_kept q l (get_or text i 0) (first_solid (drop (i + 1) text)) ∷ []) (filled_from (quote_after q (get_or text i 0)) (last_after q l a (get_or text i 0)) (inside_after q a (get_or text i 0)) (drop (i + 1) text))
    ∙ append_assoc out (added (lacks_value q l (get_or text i 0))) (byte_kept q l (get_or text i 0) (first_solid (drop (i + 1) text)) ∷ filled_from (quote_after q (get_or text i 0)) (last_after q l a (get_or text i 0)) (inside_after q a (get_or text i 0)) (drop (i + 1) text))
    ∙ ap (λ (y : List ℕ). out ++ y) (sym (at_drop_more (filled_from q l a) text i 0 h))
    ∙ inv)

pub insert_step : (q r : Quote) (l m : Last) (a b : List Bracket) (text : List ℕ) (out new all : List Insertion) (i : ℕ) (lacks : Bool) → i < length text →
    lacks ≡ lacks_value q l (get_or text i 0) → new ≡ out ++ inserted_at lacks i →
    r ≡ quote_after q (get_or text i 0) → m ≡ last_after q l a (get_or text i 0) → b ≡ inside_after q a (get_or text i 0) →
    out ++ inserted_from q l a i (drop i text) ≡ all → new ++ inserted_from r m b (i + 1) (drop (i + 1) text) ≡ all
insert_step q r l m a b text out new all i lacks h x n f g j inv =
    rw (n, x, f, g, j) (
    append_assoc out (inserted_at (lacks_value q l (get_or text i 0)) i) (inserted_from (quote_after q (get_or text i 0)) (last_after q l a (get_or text i 0)) (inside_after q a (get_or text i 0)) (i + 1) (drop (i + 1) text))
    ∙ ap (λ (y : List Insertion). out ++ y) (sym (at_drop_more (inserted_from q l a i) text i 0 h))
    ∙ inv)
