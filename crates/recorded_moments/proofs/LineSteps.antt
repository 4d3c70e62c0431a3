-- The moments of a text, one line after the other.
use Rattle.std.proofs.Common.{◌≡◌, ℕ, ◌+◌, true, false, List, [], ◌∷◌, ◌++◌, Option, Some, None, refl, sym, ap, ◌∙◌, append_assoc, append-nil}
use Rattle.std.specs.List.{flat_map}
use Rattle.recorded_text.specs.Text.{split_lines}
use Rattle.recorded_jobs.specs.declared.moment.Moment.{Moment}
use Rattle.recorded_moments.specs.declared.gathering.Wanted.{Wanted}
use Rattle.recorded_moments.specs.Moments.{WatchedView, moments_of_line, moments_of_text, is_bad_event_line, bad_event_from, first_bad_event, AreMomentsOf}
use Rattle.recorded_moments.specs.private.Lines.{IsGatheredSoFar}

pub line_taken : (w : Wanted) (ts : List WatchedView) (text rest line after : List ℕ) (n : ℕ) (moments new : List Moment) → split_lines rest ≡ line ∷ split_lines after → is_bad_event_line line ≡ false → new ≡ moments ++ moments_of_line w ts line → IsGatheredSoFar w ts text rest n moments → IsGatheredSoFar w ts text after (n + 1) new
unfolding bad_event_from
line_taken w ts text rest line after n moments new cut good more h = record {
  bad = h.bad ∙ ap (bad_event_from n) cut ∙ rw good refl;
  shown = h.shown ∙ ap (λ (ls : List (List ℕ)). moments ++ flat_map (moments_of_line w ts) ls) cut ∙ sym (append_assoc moments (moments_of_line w ts line) (moments_of_text w ts after)) ∙ ap (λ (ms : List Moment). ms ++ moments_of_text w ts after) (sym more);
}

pub line_bad : (w : Wanted) (ts : List WatchedView) (text rest line : List ℕ) (lines : List (List ℕ)) (n : ℕ) (moments : List Moment) → split_lines rest ≡ line ∷ lines → is_bad_event_line line ≡ true → IsGatheredSoFar w ts text rest n moments → first_bad_event text ≡ Some n
unfolding bad_event_from
line_bad w ts text rest line lines n moments cut bad h = h.bad ∙ ap (bad_event_from n) cut ∙ rw bad refl

pub last_taken : (w : Wanted) (ts : List WatchedView) (text rest : List ℕ) (n : ℕ) (moments new : List Moment) → split_lines rest ≡ rest ∷ [] → is_bad_event_line rest ≡ false → new ≡ moments ++ moments_of_line w ts rest → IsGatheredSoFar w ts text rest n moments → AreMomentsOf w ts text new
unfolding bad_event_from
last_taken w ts text rest n moments new cut good more h = record {
  good = h.bad ∙ ap (bad_event_from n) cut ∙ rw good refl;
  shown = more ∙ sym (h.shown ∙ ap (λ (ls : List (List ℕ)). moments ++ flat_map (moments_of_line w ts) ls) cut ∙ ap (λ (ms : List Moment). moments ++ ms) (append-nil (moments_of_line w ts rest)));
}
