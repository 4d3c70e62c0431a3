-- What is printed, from the text at `print`.
use Rattle.std.proofs.Common.{◌≡◌, ◌∙◌, ℕ, List, Option, Some, None, Ok, Err, ap, codes, is_some, length, refl, sym, true≢false, unwrap_or, arith}
use Rattle.clap.specs.Words.{Row, first_of}
use Rattle.command_line.specs.Found.{AreSpanWordsAt, IsAskedAt, IsCutBy, IsCutFault, IsPrintAt, IsReplayPrintAt, IsTextAt, print_text, replay_print_text, replay_span_in, span_in}
use Rattle.chart_pieces.specs.declared.window.Span.{Span}
use Rattle.run_options.specs.Words.{no_part_asked}
use Rattle.run_options.specs.declared.words.SpanWords.{SpanWords}
use Rattle.run_options.specs.declared.words.WordsFault.{WordsFault}
use Rattle.run_options.specs.declared.options.Print.{Print}
use Rattle.run_options.specs.declared.options.Print.TheVariants as prints
use Rattle.run_options.specs.declared.replay_print.ReplayPrint.{ReplayPrint}
use Rattle.run_options.specs.declared.replay_print.ReplayPrint.TheVariants as replay_prints

-- the text of an option, by what a getter answers
pub text_read : (rows : List Row) (name text : List ℕ) → Some text ≡ first_of name rows → IsTextAt rows name text
text_read rows name text is = record {
  absent = λ none. absurd (true≢false (ap is_some (is ∙ none)));
  some = λ found at. ap (λ (o : Option (List ℕ)). unwrap_or o text) (is ∙ at);
}

pub none_read : (rows : List Row) (name : List ℕ) → None ≡ first_of name rows → IsTextAt rows name (codes "")
none_read rows name is = record {
  absent = λ none. refl;
  some = λ found at. absurd (true≢false (sym (ap is_some (is ∙ at))));
}

-- what asks for something is some text
abbrev AreTexts : {P : Type 0} → (P → List ℕ) → Type 0
AreTexts {P} text_of = (p : P) → codes "" ≡ text_of p → ⊥

-- a text asks for one
named : {P : Type 0} (text_of : P → List ℕ) (span : P → Option Span) (otherwise : P) → AreTexts text_of → (rows : List Row) (text : List ℕ) (words : SpanWords) (p : P)
    → IsTextAt rows (codes "print") text → AreSpanWordsAt rows words → text ≡ text_of p → IsCutBy words (span p) → IsAskedAt text_of span otherwise rows p
named text_of span otherwise texts rows text words p read at_words is cut = record {
  asked = λ q at. sym is ∙ read.some (text_of q) at;
  unasked = λ none. absurd (found (first_of (codes "print") rows) refl none);
  words = words;
  are_found = at_words;
  cut = cut;
}
  where
    found : (o : Option (List ℕ)) → first_of (codes "print") rows ≡ o → ((q : _) → first_of (codes "print") rows ≡ Some (text_of q) → ⊥) → ⊥
    found None at none = texts p (sym (read.absent at) ∙ is)
    found (Some t) at none = none p (at ∙ ap (λ x. Some x) (sym (read.some t at) ∙ is))

-- or for nothing else than this one
other : {P : Type 0} (text_of : P → List ℕ) (span : P → Option Span) (otherwise : P) (rows : List Row) (text : List ℕ) (words : SpanWords)
    → IsTextAt rows (codes "print") text → AreSpanWordsAt rows words → ((q : P) → text ≡ text_of q → text_of otherwise ≡ text_of q) → IsCutBy words (span otherwise)
    → IsAskedAt text_of span otherwise rows otherwise
other text_of span otherwise rows text words read at_words differs cut = record {
  asked = λ q at. differs q (read.some (text_of q) at);
  unasked = λ none. refl;
  words = words;
  are_found = at_words;
  cut = cut;
}

-- ---- faults

no_text : length (codes "") ≡ length (codes "chart") → ⊥
no_text bad = absurd (omega (arith, bad))

-- a part is asked for beside another text
pub other_fault : (rows : List Row) (text : List ℕ) (words : SpanWords) (fault : WordsFault) → IsTextAt rows (codes "print") text → AreSpanWordsAt rows words
    → (text ≡ codes "chart" → ⊥) → no_part_asked words ≡ Err fault → IsCutFault rows fault
other_fault rows text words fault read at_words differs refused = record {
  words = words;
  are_found = at_words;
  chart = λ at. absurd (differs (read.some (codes "chart") at));
  other = λ _. refused;
}

-- ---- of a run

print_some : (p : Print) → 0 ≡ length (print_text p) → ⊥
print_some prints.Trace bad = absurd (omega arith)
print_some prints.Calls bad = absurd (omega arith)
print_some prints.Replies bad = absurd (omega arith)
print_some prints.Events bad = absurd (omega arith)
print_some prints.Jobs bad = absurd (omega arith)
print_some prints.Summary bad = absurd (omega arith)
print_some prints.Promises bad = absurd (omega arith)
print_some (prints.Chart span) bad = absurd (omega arith)

pub print_named : (rows : List Row) (text : List ℕ) (words : SpanWords) (p : Print) → IsTextAt rows (codes "print") text → AreSpanWordsAt rows words
    → text ≡ print_text p → IsCutBy words (span_in p) → IsPrintAt rows p
print_named = named print_text span_in prints.Trace (λ p is. print_some p (ap length is))

-- none of these texts
pub record IsOther (text : List ℕ) : Type 0 where
  pub chart : text ≡ codes "chart" → ⊥
  pub replies : text ≡ codes "replies" → ⊥
  pub events : text ≡ codes "events" → ⊥
  pub jobs : text ≡ codes "jobs" → ⊥
  pub summary : text ≡ codes "summary" → ⊥

pub print_other : (rows : List Row) (text : List ℕ) (words : SpanWords) → IsTextAt rows (codes "print") text → AreSpanWordsAt rows words
    → (text ≡ codes "calls" → ⊥) → (text ≡ codes "promises" → ⊥) → IsOther text → no_part_asked words ≡ Ok tt → IsPrintAt rows prints.Trace
print_other rows text words read at_words calls promises differs cut = other print_text span_in prints.Trace rows text words read at_words go cut
  where
    go : (p : Print) → text ≡ print_text p → codes "trace" ≡ print_text p
    go prints.Trace is = refl
    go prints.Calls is = absurd (calls is)
    go prints.Replies is = absurd (differs.replies is)
    go prints.Events is = absurd (differs.events is)
    go prints.Jobs is = absurd (differs.jobs is)
    go prints.Summary is = absurd (differs.summary is)
    go prints.Promises is = absurd (promises is)
    go (prints.Chart span) is = absurd (differs.chart is)

-- ---- of a replay

replay_print_some : (p : ReplayPrint) → 0 ≡ length (replay_print_text p) → ⊥
replay_print_some replay_prints.Trace bad = absurd (omega arith)
replay_print_some replay_prints.Replies bad = absurd (omega arith)
replay_print_some replay_prints.Events bad = absurd (omega arith)
replay_print_some replay_prints.Jobs bad = absurd (omega arith)
replay_print_some replay_prints.Summary bad = absurd (omega arith)
replay_print_some (replay_prints.Chart span) bad = absurd (omega arith)

pub replay_print_named : (rows : List Row) (text : List ℕ) (words : SpanWords) (p : ReplayPrint) → IsTextAt rows (codes "print") text → AreSpanWordsAt rows words
    → text ≡ replay_print_text p → IsCutBy words (replay_span_in p) → IsReplayPrintAt rows p
replay_print_named = named replay_print_text replay_span_in replay_prints.Trace (λ p is. replay_print_some p (ap length is))

pub replay_print_other : (rows : List Row) (text : List ℕ) (words : SpanWords) → IsTextAt rows (codes "print") text → AreSpanWordsAt rows words
    → IsOther text → no_part_asked words ≡ Ok tt → IsReplayPrintAt rows replay_prints.Trace
replay_print_other rows text words read at_words differs cut = other replay_print_text replay_span_in replay_prints.Trace rows text words read at_words go cut
  where
    go : (p : ReplayPrint) → text ≡ replay_print_text p → codes "trace" ≡ replay_print_text p
    go replay_prints.Trace is = refl
    go replay_prints.Replies is = absurd (differs.replies is)
    go replay_prints.Events is = absurd (differs.events is)
    go replay_prints.Jobs is = absurd (differs.jobs is)
    go replay_prints.Summary is = absurd (differs.summary is)
    go (replay_prints.Chart span) is = absurd (differs.chart is)
