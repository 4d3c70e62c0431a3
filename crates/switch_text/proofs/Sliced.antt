-- Lines of runs that go out after what waits.
use Rattle.std.proofs.Common.{◌≡◌, ℕ, ◌+◌, ◌<◌, ◌≤◌, ◌^◌, List, [], ◌∷◌, ◌++◌, length, take, replicate, Option, refl, sym, ap, subst, ◌∙◌, append-nil, arith}
use Rattle.std.specs.List.{flat_map}
use Rattle.std.specs.Io.KnownBytes.{Appends}
use Rattle.std.proofs.KnownBytes.{Appends-nil, Appends-trans}
use Rattle.std.proofs.lemmas.List.{length-append, take-append-le}
use Rattle.std.proofs.Math.Seq.{take-append-add}
use Rattle.switch_text.specs.Trace.{SwitchesView, Entry, entries_of, entries_in_order, header, text_of_entries, trace_of}
use Rattle.switch_text.specs.private.Merging.{entries_left}
use Rattle.counted_io.specs.Faults.{TakesFront}
use Rattle.switch_text.specs.private.Sending.{Sends}
use Rattle.switch_text.specs.private.Sliced.{lines_in, lines_from, IsSending}
use Rattle.switch_text.proofs.Order.{length-in_order}
use Rattle.switch_text.proofs.UnderWay.{sends_on, length-sent, left_of-start}

pub IsSending-start : (before : Option (List ℕ)) (first : List ℕ) (runs : List SwitchesView) → length runs ≤ 8 → IsSending before before first runs (replicate 8 0) 0 first
IsSending-start before first runs h =
    let start = left_of-start runs 8 h in
    record {
      sends = record {
        gone = [];
        taken = Appends-nil before;
        count = refl;
        whole = ap (λ (es : List Entry). first ++ text_of_entries (entries_in_order es)) (sym start);
      };
      bound = omega (arith, ap length start);
    }

pub IsSending-next : (before mid after : Option (List ℕ)) (first : List ℕ) (runs : List SwitchesView) (places places' : List ℕ) (sent n : ℕ) (waiting left : List ℕ) (e : Entry) → IsSending before mid first runs places sent waiting
    → entries_in_order (entries_left runs places) ≡ e ∷ entries_in_order (entries_left runs places') → Sends mid after (waiting ++ e.line) n left → length e.line ≤ 512
    → IsSending before after first runs places' (sent + n) left
unfolding text_of_entries
IsSending-next before mid after first runs places places' sent n waiting left e u next s short =
    let text = first ++ lines_in runs in
    let rest = lines_from runs places' in
    let made : lines_from runs places ≡ e.line ++ rest = ap text_of_entries next in
    let sends = subst (λ (xs : List ℕ). Sends before mid text sent (waiting ++ xs)) made u.sends in
    let count : length (entries_left runs places) ≡ 1 + length (entries_left runs places') = sym (length-in_order (entries_left runs places)) ∙ ap length next ∙ omega (arith, length-in_order (entries_left runs places')) in
    let bound = u.bound in
    record {
      sends = sends_on before mid after text waiting e.line rest left sent n sends s;
      bound = omega (arith, length-sent mid after (waiting ++ e.line) left n s, length-append waiting e.line, count, bound);
    }

-- of a text some went out, and of what is left the writer takes the front alone
pub stops_all : (before mid after : Option (List ℕ)) (text left : List ℕ) (sent n : ℕ) → Sends before mid text sent left → TakesFront mid after left n → TakesFront before after text (sent + n)
stops_all before mid after text left sent n s t =
    let front : take (sent + n) text ≡ s.gone ++ take n left = ap (take (sent + n)) s.whole ∙ ap (λ (k : ℕ). take (k + n) (s.gone ++ left)) s.count ∙ take-append-add s.gone left n in
    record {
      taken = subst (λ (xs : List ℕ). Appends before after xs) (sym front) (Appends-trans before mid after s.gone (take n left) s.taken t.taken);
      some_left = omega (arith, length-sent before mid text left sent s, t.some_left);
    }

-- the writer takes the front of what waits, and not all: so it does of that with more after it
pub front_more : (before after : Option (List ℕ)) (text more : List ℕ) (n : ℕ) → TakesFront before after text n → TakesFront before after (text ++ more) n
front_more before after text more n t =
    let some_left : n < length text = t.some_left in
    let le : n ≤ length text = omega arith in
    record {
      taken = subst (λ (xs : List ℕ). Appends before after xs) (sym (take-append-le n text more le)) t.taken;
      some_left = omega (arith, length-append text more, some_left);
    }

pub IsSending-stops : (before mid after : Option (List ℕ)) (first : List ℕ) (runs : List SwitchesView) (places : List ℕ) (sent n : ℕ) (waiting : List ℕ) → IsSending before mid first runs places sent waiting → TakesFront mid after waiting n
    → TakesFront before after (first ++ lines_in runs) (sent + n)
IsSending-stops before mid after first runs places sent n waiting u t =
    stops_all before mid after (first ++ lines_in runs) (waiting ++ lines_from runs places) sent n u.sends (front_more mid after waiting (lines_from runs places) n t)

-- nothing is left: all that did not go out waits
pub IsSending-ends : (before after : Option (List ℕ)) (first : List ℕ) (runs : List SwitchesView) (places : List ℕ) (sent : ℕ) (waiting : List ℕ) → IsSending before after first runs places sent waiting → entries_left runs places ≡ []
    → Sends before after (first ++ lines_in runs) sent waiting
unfolding text_of_entries entries_in_order
IsSending-ends before after first runs places sent waiting u none =
    let made : lines_from runs places ≡ [] = ap (λ (es : List Entry). text_of_entries (entries_in_order es)) none in
    subst (λ (xs : List ℕ). Sends before after (first ++ lines_in runs) sent xs) (ap (λ (xs : List ℕ). waiting ++ xs) made ∙ append-nil waiting) u.sends

-- what is counted stays below 2^64
pub sent_fits : (before after : Option (List ℕ)) (first : List ℕ) (runs : List SwitchesView) (places : List ℕ) (sent n : ℕ) (waiting : List ℕ) → IsSending before after first runs places sent waiting
    → length first ≤ 65536 → length (flat_map entries_of runs) ≤ 2 ^ 54 → n ≤ length waiting → sent + n < 2 ^ 64
sent_fits before after first runs places sent n waiting u short few le = let bound = u.bound in omega (arith, bound, short, few, le)

-- all went out in the end
pub ends_all : (before mid after : Option (List ℕ)) (text left rest : List ℕ) (sent n : ℕ) → Sends before mid text sent left → Sends mid after left n rest → rest ≡ [] → Appends before after text
ends_all before mid after text left rest sent n s t empty =
    let whole : text ≡ s.gone ++ t.gone = s.whole ∙ ap (λ (xs : List ℕ). s.gone ++ xs) (t.whole ∙ ap (λ (xs : List ℕ). t.gone ++ xs) empty ∙ append-nil t.gone) in
    subst (λ (xs : List ℕ). Appends before after xs) (sym whole) (Appends-trans before mid after s.gone t.gone s.taken t.taken)

-- the trace is the header, and then the lines
pub trace_is : (first : List ℕ) (runs : List SwitchesView) → first ≡ header → first ++ lines_in runs ≡ trace_of runs
unfolding trace_of
trace_is first runs is = ap (λ (xs : List ℕ). xs ++ lines_in runs) is
