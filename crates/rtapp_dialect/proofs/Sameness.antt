-- A strict text is its own strict text.
use Rattle.std.specs.Prelude.{◌==◌, ◌&&◌, ◌||◌, not, slice_index, Result, IsErr, IfErr, IfOk}
use Rattle.std.proofs.Common.{ℕ, ◌+◌, ◌≡◌, Bool, true, false, List, [], ◌∷◌, ◌++◌, None, Ok, Err, cond, refl, sym, ap, ◌∙◌, subst, arith}
use Rattle.std.proofs.lemmas.Bool.Decides.{nat_tests}
use Rattle.json_order.specs.Grammar.{is_space}
use Rattle.rtapp_dialect.specs.Comments.{within_after, byte_written, blanked_from, comments_blanked, comment_place, comment_from, unended_comment, IsCommentFault}
use Rattle.rtapp_dialect.specs.Filling.{closes, first_solid, quote_after, last_after, inside_after, may_begin, lacks_value, added, byte_kept, filled_from, values_filled, inserted_at, inserted_from, values_inserted}
use Rattle.rtapp_dialect.specs.Strict.{IsJsonText}
use Rattle.rtapp_dialect.specs.declared.comments.Within.{Within}
use Rattle.rtapp_dialect.specs.declared.comments.Within.TheVariants.{Outside, Text, Escape, Line}
use Rattle.rtapp_dialect.specs.declared.bracket.Bracket.{Bracket}
use Rattle.rtapp_dialect.specs.declared.insertion.Insertion.{Insertion}
use Rattle.rtapp_dialect.specs.declared.spot.Quote.{Quote}
use Rattle.rtapp_dialect.specs.declared.spot.Quote.TheVariants.{Closed, Open, Escaped}
use Rattle.rtapp_dialect.specs.declared.strict.StrictText.{StrictText}
use Rattle.rtapp_dialect.specs.declared.fault.DialectFault.{DialectFault}
use Rattle.rtapp_dialect.specs.declared.fault.DialectFault.TheVariants.{Comment, Memory}
use Rattle.rtapp_dialect.specs.declared.spot.Last.{Last}
use Rattle.rtapp_dialect.specs.declared.spot.Last.TheVariants.{Opening, Comma, Key, Other}
use Rattle.rtapp_dialect.proofs.Strictness.{goes_on, is_fine, IsStrict, at_state, space_quote, space_last, space_inside, text_strict}
use Rattle.rtapp_dialect.proofs.Characters.{bytes_strict}

-- COMMENTS

abbrev within_of : Quote → Within
within_of Closed = Outside
within_of Open = Text
within_of Escaped = Escape

no_slash : (l : Last) (c : ℕ) → goes_on l c ≡ true → (c == 47) ≡ false
no_slash Opening c h = grind (arith, nat_tests)
no_slash Comma c h = grind (arith, nat_tests)
no_slash Key c h = grind (arith, nat_tests)
no_slash Other c h = grind (arith, nat_tests)

closed_within : (c next : ℕ) (q s : Bool) → s ≡ false → cond q Text (cond (s && next == 47) Line (cond (s && next == 42) (within_after Outside 47 42) Outside)) ≡ within_of (cond q Open Closed)
closed_within c next true s e = refl
closed_within c next false true e = cc
closed_within c next false false e = refl

open_within : (a b : Bool) → cond a Escape (cond b Outside Text) ≡ within_of (cond a Escaped (cond b Closed Open))
open_within true b = refl
open_within false true = refl
open_within false false = refl

within_same : (q : Quote) (l : Last) (c next : ℕ) → is_fine q l c ≡ true → within_after (within_of q) c next ≡ within_of (quote_after q c)
within_same Closed l c next h = closed_within c next (c == 34) (c == 47) (no_slash l c h)
within_same Open l c next h = open_within (c == 92) (c == 34)
within_same Escaped l c next h = refl

kept_byte : (c next : ℕ) (s : Bool) → s ≡ false → cond (s && (next == 47 || next == 42)) 32 c ≡ c
kept_byte c next true e = cc
kept_byte c next false e = refl

written_same : (q : Quote) (l : Last) (c next : ℕ) → is_fine q l c ≡ true → byte_written (within_of q) c next ≡ c
written_same Closed l c next h = kept_byte c next (c == 47) (no_slash l c h)
written_same Open l c next h = refl
written_same Escaped l c next h = refl

blanked_same : (q : Quote) (l : Last) (a : List Bracket) (cs : List ℕ) → IsStrict q l a cs → blanked_from (within_of q) cs ≡ cs
blanked_same q l a [] h = refl
blanked_same q l a (c ∷ cs) h =
    ap (λ (w : Within). byte_written (within_of q) c (slice_index cs 0) ∷ blanked_from w cs) (within_same q l c (slice_index cs 0) h.0)
    ∙ ap (λ (b : ℕ). b ∷ blanked_from (within_of (quote_after q c)) cs) (written_same q l c (slice_index cs 0) h.0)
    ∙ ap (λ (x : List ℕ). c ∷ x) (blanked_same (quote_after q c) (last_after q l a c) (inside_after q a c) cs h.1)

ended : (q : Quote) (before n : ℕ) → comment_from (within_of q) before n [] ≡ None
ended Closed before n = refl
ended Open before n = refl
ended Escaped before n = refl

ended_same : (q : Quote) (l : Last) (a : List Bracket) (cs : List ℕ) (before n : ℕ) → IsStrict q l a cs → comment_from (within_of q) before n cs ≡ None
ended_same q l a [] before n h = ended q before n
ended_same q l a (c ∷ cs) before n h =
    ap (λ (w : Within). comment_from w (comment_place (within_of q) c n before) (n + 1) cs) (within_same q l c (slice_index cs 0) h.0)
    ∙ ended_same (quote_after q c) (last_after q l a c) (inside_after q a c) cs (comment_place (within_of q) c n before) (n + 1) h.1

-- COMMAS AND VALUES

lacks_none : (q : Quote) (l : Last) (c : ℕ) → is_fine q l c ≡ true → lacks_value q l c ≡ false
lacks_none Closed Opening c h = refl
lacks_none Closed Comma c h = refl
lacks_none Closed Key c h = grind (arith, nat_tests)
lacks_none Closed Other c h = refl
lacks_none Open l c h = refl
lacks_none Escaped l c h = refl

no_closing : (c : ℕ) → goes_on Comma c ≡ true → closes c ≡ false
no_closing c h = grind (arith, nat_tests)

-- a comma that a closing bracket follows is not strict
comma_goes_on : (a : List Bracket) (cs : List ℕ) → IsStrict Closed Comma a cs → closes (first_solid cs) ≡ false
comma_goes_on a [] h = refl
comma_goes_on a (c ∷ cs) h = next (is_space c) refl (λ s. comma_goes_on a cs (at_state Closed (quote_after Closed c) Comma (last_after Closed Comma a c) a (inside_after Closed a c) cs (sym (space_quote c s)) (sym (space_last Comma a c s)) (sym (space_inside a c s)) h.1))
  where
    next : (b : Bool) → is_space c ≡ b → (is_space c ≡ true → closes (first_solid cs) ≡ false) → closes (cond b (first_solid cs) c) ≡ false
    next true e f = f e
    next false e f = no_closing c h.0

is_comma : (c : ℕ) → (c == 44) ≡ true → c ≡ 44
is_comma c h = grind (arith, nat_tests)

and_false : (b : Bool) → (b && false) ≡ false
and_false true = refl
and_false false = refl

kept_after : (l : Last) (a : List Bracket) (c : ℕ) (cs : List ℕ) (b : Bool) → (c == 44) ≡ b → IsStrict (quote_after Closed c) (last_after Closed l a c) (inside_after Closed a c) cs → cond (b && (not (may_begin l) && closes (first_solid cs))) 32 c ≡ c
kept_after l a c cs false e h = refl
kept_after l a c cs true e h =
    let at_comma : IsStrict Closed Comma a cs = subst (λ (x : ℕ). IsStrict (quote_after Closed x) (last_after Closed l a x) (inside_after Closed a x) cs) (is_comma c e) h in
    ap (λ (x : Bool). cond (not (may_begin l) && x) 32 c) (comma_goes_on a cs at_comma) ∙ ap (λ (x : Bool). cond x 32 c) (and_false (not (may_begin l)))

kept_same : (q : Quote) (l : Last) (a : List Bracket) (c : ℕ) (cs : List ℕ) → IsStrict (quote_after q c) (last_after q l a c) (inside_after q a c) cs → byte_kept q l c (first_solid cs) ≡ c
kept_same Closed l a c cs h = kept_after l a c cs (c == 44) refl h
kept_same Open l a c cs h = refl
kept_same Escaped l a c cs h = refl

filled_same : (q : Quote) (l : Last) (a : List Bracket) (cs : List ℕ) → IsStrict q l a cs → filled_from q l a cs ≡ cs
filled_same q l a [] h = refl
filled_same q l a (c ∷ cs) h =
    ap (λ (b : Bool). added b ++ (byte_kept q l c (first_solid cs) ∷ filled_from (quote_after q c) (last_after q l a c) (inside_after q a c) cs)) (lacks_none q l c h.0)
    ∙ ap (λ (b : ℕ). b ∷ filled_from (quote_after q c) (last_after q l a c) (inside_after q a c) cs) (kept_same q l a c cs h.1)
    ∙ ap (λ (x : List ℕ). c ∷ x) (filled_same (quote_after q c) (last_after q l a c) (inside_after q a c) cs h.1)

none_inserted : (q : Quote) (l : Last) (a : List Bracket) (n : ℕ) (cs : List ℕ) → IsStrict q l a cs → inserted_from q l a n cs ≡ []
none_inserted q l a n [] h = refl
none_inserted q l a n (c ∷ cs) h =
    ap (λ (b : Bool). inserted_at b n ++ inserted_from (quote_after q c) (last_after q l a c) (inside_after q a c) (n + 1) cs) (lacks_none q l c h.0)
    ∙ none_inserted (quote_after q c) (last_after q l a c) (inside_after q a c) (n + 1) cs h.1

-- FILES

json_strict : (file : List ℕ) → IsJsonText file → IsStrict Closed Other [] file
json_strict file (rules, v, (cs, sc, e, text)) =
    subst (IsStrict Closed Other []) (sym e) (bytes_strict Closed Other [] cs (text_strict rules v cs text))

same_blanked : (file : List ℕ) → IsJsonText file → comments_blanked file ≡ file
same_blanked file j = blanked_same Closed Other [] file (json_strict file j)

pub no_comment : (file : List ℕ) → IsJsonText file → unended_comment file ≡ None
no_comment file j = ended_same Closed Other [] file 0 0 (json_strict file j)

pub same_text : (file text : List ℕ) → IsJsonText file → text ≡ values_filled (comments_blanked file) → text ≡ file
same_text file text j e =
    e ∙ ap values_filled (same_blanked file j) ∙ filled_same Closed Other [] file (json_strict file j)

pub no_insertion : (file : List ℕ) (is : List Insertion) → IsJsonText file → is ≡ values_inserted (comments_blanked file) → is ≡ []
no_insertion file is j e =
    e ∙ ap values_inserted (same_blanked file j) ∙ none_inserted Closed Other [] 0 file (json_strict file j)

only_memory : (file : List ℕ) (e : DialectFault) → IsJsonText file → IsCommentFault file e → e ≡ Memory
only_memory file (Comment at) j h = let n = no_comment file j in cc
only_memory file Memory j h = refl

pub fails : (file : List ℕ) (result : Result StrictText DialectFault) → IsJsonText file → IsErr result → IfErr result (IsCommentFault file) →
    IfOk result (λ s. (s.text.items ≡ file) × (s.insertions.items ≡ [])) × IfErr result (λ e. e ≡ Memory)
fails file (Ok s) j i h = cc
fails file (Err e) j i h = (tt, only_memory file e j h)
