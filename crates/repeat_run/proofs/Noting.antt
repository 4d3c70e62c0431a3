-- What was written down of the first tasks, and of one more.
use Rattle.std.proofs.Common.{◌≡◌, ℕ, ◌+◌, ◌<◌, List, [], ◌∷◌, ◌++◌, length, take, get_or, ap, sym, subst, ◌∙◌, arith}
use Rattle.std.specs.Prelude.{slice_index_or, is_some}
use Rattle.std.proofs.lemmas.Slice.Zip.{all_zipped_more}
use Rattle.std.proofs.lemmas.List.{take_more}
use Rattle.domain_run.specs.declared.task.Task.{Task}
use Rattle.domain_run.specs.declared.pace.Pace.{Pace}
use Rattle.domain_run.specs.declared.mark.TaskMark.{TaskMark}
use Rattle.domain_run.specs.Marks.{marked, paced_mark}
use Rattle.repeat_law.specs.Marks.{MayBegin}
use Rattle.domain_run.specs.declared.mark.TaskSeen.{TaskSeen}
use Rattle.domain_run.specs.Marks.{IsTaskSeen}
use Rattle.repeat_run.specs.Seen.{AreTasksSeen, IsPaced, ArePaced, LastsThrough, AllLast}

abbrev one_of : {X : Type 0} (i : ℕ) (xs : List X) → i < length xs → X
one_of i [] within = absurd (omega (arith, within))
one_of i (x ∷ xs) within = x

pub seen_more : (i : ℕ) (ts : List Task) (seen : List TaskSeen) (s : TaskSeen) → i < length ts → AreTasksSeen seen (take i ts) → ((d : Task) → IsTaskSeen s (slice_index_or ts i d)) → AreTasksSeen (seen ++ s ∷ []) (take (i + 1) ts)
seen_more i ts seen s within so_far at =
    let d = one_of i ts within in
    subst (λ (xs : List Task). AreTasksSeen (seen ++ s ∷ []) xs) (sym (take_more ts i d within)) (all_zipped_more IsTaskSeen seen (take i ts) s (get_or ts i d) so_far (at d))

paced_push : (k : ℕ) (seen : List TaskSeen) (ts : List Task) (ps : List Pace) (s : TaskSeen) (t : Task) (p : Pace) → ArePaced k seen ts ps → IsPaced k s t p → ArePaced k (seen ++ s ∷ []) (ts ++ t ∷ []) (ps ++ p ∷ [])
paced_push k [] [] [] s t p h one = (one, tt)
paced_push k [] [] (q ∷ ps) s t p h one = absurd h
paced_push k [] (u ∷ ts) ps s t p h one = absurd h
paced_push k (r ∷ seen) [] ps s t p h one = absurd h
paced_push k (r ∷ seen) (u ∷ ts) [] s t p h one = absurd h
paced_push k (r ∷ seen) (u ∷ ts) (q ∷ ps) s t p h one = (h.0, paced_push k seen ts ps s t p h.1 one)

paced_of : (k : ℕ) (s after : TaskSeen) (t : Task) (p : Pace) → IsTaskSeen after t → MayBegin k p s.mark → after.mark ≡ paced_mark (is_some s.rounds) s.is_timed k p s.mark → IsPaced k s t p
paced_of k s after t p seen begins paced = record { begins = begins; paced = ap (λ (m : TaskMark). marked m t) (sym paced) ∙ seen.mark }

pub paced_more : (k i : ℕ) (seen : List TaskSeen) (ts : List Task) (ps : List Pace) (s after : TaskSeen) (p : Pace) → i < length seen → i < length ts → get_or seen i s ≡ s
    → ArePaced k (take i seen) (take i ts) ps → ((d : Task) → IsTaskSeen after (slice_index_or ts i d)) → MayBegin k p s.mark → after.mark ≡ paced_mark (is_some s.rounds) s.is_timed k p s.mark
    → ArePaced k (take (i + 1) seen) (take (i + 1) ts) (ps ++ p ∷ [])
paced_more k i seen ts ps s after p within inside here so_far at begins paced =
    let d = one_of i ts inside in
    let t = get_or ts i d in
    let long : take (i + 1) seen ≡ take i seen ++ s ∷ [] = take_more seen i s within ∙ ap (λ (x : TaskSeen). take i seen ++ x ∷ []) here in
    let all = paced_push k (take i seen) (take i ts) ps s t p so_far (paced_of k s after t p (at d) begins paced) in
    subst (λ (xs : List TaskSeen). ArePaced k xs (take (i + 1) ts) (ps ++ p ∷ [])) (sym long)
    (subst (λ (xs : List Task). ArePaced k (take i seen ++ s ∷ []) xs (ps ++ p ∷ [])) (sym (take_more ts i d inside)) all)

pub last_more : (m i : ℕ) (seen : List TaskSeen) (ps : List Pace) (s : TaskSeen) (p : Pace) → i < length seen → get_or seen i s ≡ s
    → AllLast m (take i seen) ps → LastsThrough m s p → AllLast m (take (i + 1) seen) (ps ++ p ∷ [])
last_more m i seen ps s p within here so_far one =
    let long : take (i + 1) seen ≡ take i seen ++ s ∷ [] = take_more seen i s within ∙ ap (λ (x : TaskSeen). take i seen ++ x ∷ []) here in
    subst (λ (xs : List TaskSeen). AllLast m xs (ps ++ p ∷ [])) (sym long) (all_zipped_more (LastsThrough m) (take i seen) ps s p so_far one)
