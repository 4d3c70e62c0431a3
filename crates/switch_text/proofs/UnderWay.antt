-- A trace that goes out line by line.
use Rattle.std.proofs.Common.{◌≡◌, ℕ, zero, suc, ◌+◌, ◌≤◌, List, [], ◌∷◌, ◌++◌, length, replicate, Option, refl, sym, ap, ◌∙◌, append_assoc, arith}
use Rattle.std.specs.List.{flat_map}
use Rattle.std.proofs.KnownBytes.{Appends-trans}
use Rattle.std.proofs.lemmas.List.{length-append}
use Rattle.switch_text.specs.Trace.{SwitchesView, Entry, entries_of, header}
use Rattle.switch_text.specs.private.Merging.{entries_left}
use Rattle.switch_text.specs.private.Sending.{Sends}

-- text ≡ gone ++ (waiting ++ line ++ rest), and of waiting ++ line some more goes out
pub sends_on : (before mid after : Option (List ℕ)) (text waiting line rest left : List ℕ) (sent n : ℕ) → Sends before mid text sent (waiting ++ (line ++ rest)) → Sends mid after (waiting ++ line) n left
    → Sends before after text (sent + n) (left ++ rest)
sends_on before mid after text waiting line rest left sent n s t = record {
  gone = s.gone ++ t.gone;
  taken = Appends-trans before mid after s.gone t.gone s.taken t.taken;
  count = omega (arith, length-append s.gone t.gone, s.count, t.count);
  whole =
      s.whole ∙ ap (λ (xs : List ℕ). s.gone ++ xs) (sym (append_assoc waiting line rest) ∙ ap (λ (xs : List ℕ). xs ++ rest) t.whole ∙ append_assoc t.gone left rest)
      ∙ sym (append_assoc s.gone t.gone (left ++ rest));
}

pub length-sent : (before after : Option (List ℕ)) (text left : List ℕ) (n : ℕ) → Sends before after text n left → length text ≡ n + length left
length-sent before after text left n s = ap length s.whole ∙ omega (arith, length-append s.gone left, s.count)

pub left_of-start : (runs : List SwitchesView) (n : ℕ) → length runs ≤ n → entries_left runs (replicate n 0) ≡ flat_map entries_of runs
left_of-start [] n h = refl
left_of-start (r ∷ rs) zero h = absurd (omega arith)
left_of-start (r ∷ rs) (suc n) h = ap (λ (es : List Entry). entries_of r ++ es) (left_of-start rs n (omega arith))

pub length-header : length header ≡ 14
unfolding header
length-header = refl

-- no more goes out than there was
pub sent_within : (before after : Option (List ℕ)) (waiting left : List ℕ) (n : ℕ) → Sends before after waiting n left → n ≤ length waiting
sent_within before after waiting left n s = omega (arith, length-sent before after waiting left n s)

-- what is added after the text is left, too
pub Sends-more : (before after : Option (List ℕ)) (text left more : List ℕ) (n : ℕ) → Sends before after text n left → Sends before after (text ++ more) n (left ++ more)
Sends-more before after text left more n s = record {
  gone = s.gone;
  taken = s.taken;
  count = s.count;
  whole = ap (λ (xs : List ℕ). xs ++ more) s.whole ∙ append_assoc s.gone left more;
}

pub length_from_append : (xs ys zs : List ℕ) (n : ℕ) → zs ≡ xs ++ ys → length zs ≤ length xs + n → length ys ≤ n
length_from_append xs ys zs n e le = omega (arith, ap length e, length-append xs ys, le)
