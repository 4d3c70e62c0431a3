-- From what was compared to a domain that repeats.
use Rattle.std.proofs.Common.{◌≡◌, ℕ, suc, ◌*◌, ◌≤◌, true, false, cond, eqb, eq-eqb, Option, List, [], ◌∷◌, length, map, refl, ap, sym, subst, ◌∙◌, arith}
use Rattle.std.specs.Prelude.{All, AllPairs, ◌≢◌, is_some}
use Rattle.std.proofs.lemmas.Bool.{ne_eqb}
use Rattle.std.proofs.lemmas.List.Elements.{All-head, All-tail, All-nil, All-cons}
use Rattle.domain_run.specs.declared.task.Task.{Task}
use Rattle.domain_run.specs.Domain.{Domain}
use Rattle.domain_run.specs.Coming.{switches_to_come}
use Rattle.domain_run.specs.Passing.{without_switches}
use Rattle.domain_run.specs.Tick.{ticks}
use Rattle.domain_run.proofs.CallerLemmas.{pairs_first, pairs_rest}
use Rattle.domain_run.specs.declared.pace.Pace.{Pace}
use Rattle.domain_run.specs.declared.pace.Pace.TheVariants.{Rests, Plays, Works}
use Rattle.domain_run.specs.declared.mark.TaskMark.{TaskMark}
use Rattle.task_script.specs.script.Later.{has_timer}
use Rattle.repeat_law.specs.Shift.{ShiftLaw}
use Rattle.domain_run.specs.Shift.{Shift, MayGo, MayShift}
use Rattle.repeat_law.specs.Repeats.{Outlasts, Repeats, many, many_paces, LastsFor, RepeatsLaw, LastsLaw}
use Rattle.domain_run.specs.Marks.{marked, paced_mark, all_marked}
use Rattle.repeat_law.specs.Marks.{MayBegin, HasPeriods, HasPeriodsLaw, shifted_marks, IsSeenAgain, FoundLaw}
use Rattle.domain_run.specs.declared.mark.TaskSeen.{TaskSeen}
use Rattle.repeat_run.specs.Seen.{AreTasksSeen, ArePaced, AllLast}
use Rattle.repeat_run.specs.Gives.{GivesPeriods, IsFoundAgain}
use Rattle.repeat_run.proofs.Giving.{gives_on}

-- ---- the pace of a number, from a list of paces by place

abbrev pace_in : List Pace → List Task → ℕ → Pace
pace_in [] ts n = Rests
pace_in (p ∷ ps) [] n = Rests
pace_in (p ∷ ps) (t ∷ ts) n = cond (eqb t.number n) p (pace_in ps ts n)

others : (p : Pace) (ps : List Pace) (t : Task) (all ts : List Task) → All (λ (u : Task). t.number ≢ u.number) ts → map (λ (u : Task). pace_in (p ∷ ps) (t ∷ all) u.number) ts ≡ map (λ (u : Task). pace_in ps all u.number) ts
others p ps t all [] h = refl
others p ps t all (u ∷ ts) h =
    let other : eqb t.number u.number ≡ false = ne_eqb t.number u.number (All-head (λ (u : Task). t.number ≢ u.number) u ts h) in
    let rest = others p ps t all ts (All-tail (λ (u : Task). t.number ≢ u.number) u ts h) in
    λ i. cond (other i) p (pace_in ps all u.number) ∷ rest i

by_number : (ps : List Pace) (ts : List Task) → length ps ≡ length ts → AllPairs (λ (a b : Task). a.number ≢ b.number) ts → ps ≡ map (λ (t : Task). pace_in ps ts t.number) ts
by_number [] [] same apart = refl
by_number [] (t ∷ ts) same apart = absurd (omega (arith, same))
by_number (p ∷ ps) [] same apart = absurd (omega (arith, same))
by_number (p ∷ ps) (t ∷ ts) same apart =
    let own : eqb t.number t.number ≡ true = eq-eqb t.number t.number refl in
    let rest = by_number ps ts (omega (arith, same)) (pairs_rest (λ (a b : Task). a.number ≢ b.number) t ts apart) in
    let more = others p ps t ts ts (pairs_first (λ (a b : Task). a.number ≢ b.number) t ts apart) in
    let tail = rest ∙ sym more in
    λ i. cond (sym own i) p (pace_in ps ts t.number) ∷ tail i

-- ---- as many of each

seen_length : (seen : List TaskSeen) (ts : List Task) → AreTasksSeen seen ts → length seen ≡ length ts
seen_length [] [] h = refl
seen_length [] (t ∷ ts) h = absurd h
seen_length (s ∷ seen) [] h = absurd h
seen_length (s ∷ seen) (t ∷ ts) h = ap suc (seen_length seen ts h.1)

paced_length : (k : ℕ) (seen : List TaskSeen) (ts : List Task) (ps : List Pace) → ArePaced k seen ts ps → (length ts ≡ length seen) × (length ps ≡ length seen)
paced_length k [] [] [] h = (refl, refl)
paced_length k [] [] (p ∷ ps) h = absurd h
paced_length k [] (t ∷ ts) ps h = absurd h
paced_length k (s ∷ seen) [] ps h = absurd h
paced_length k (s ∷ seen) (t ∷ ts) [] h = absurd h
paced_length k (s ∷ seen) (t ∷ ts) (p ∷ ps) h = let rest = paced_length k seen ts ps h.1 in (ap suc rest.0, ap suc rest.1)

abbrev marks_of : List TaskSeen → List TaskMark
marks_of seen = map (λ (s : TaskSeen). s.mark) seen

have_marks : (seen : List TaskSeen) (ts : List Task) → AreTasksSeen seen ts → all_marked (marks_of seen) ts ≡ ts
have_marks [] [] h = refl
have_marks [] (t ∷ ts) h = absurd h
have_marks (s ∷ seen) [] h = absurd h
have_marks (s ∷ seen) (t ∷ ts) h = let a = h.0.mark in let b = have_marks seen ts h.1 in λ i. a i ∷ b i

module _ (s : Shift) where
  -- the tasks after have the marks of those before, shifted
  have_later : (seen : List TaskSeen) (ts after : List Task) → AreTasksSeen seen ts → ArePaced s.micros seen after (map (λ t. s.pace t.number) ts)
      → all_marked (shifted_marks s (marks_of seen) ts) after ≡ after
  have_later [] [] [] h g = refl
  have_later [] [] (u ∷ after) h g = absurd g
  have_later [] (t ∷ ts) after h g = absurd h
  have_later (b ∷ seen) [] after h g = absurd h
  have_later (b ∷ seen) (t ∷ ts) [] h g = absurd g
  have_later (b ∷ seen) (t ∷ ts) (u ∷ after) h g =
      let p = s.pace t.number in
      let rounds = h.0.rounds in
      let timed = h.0.timed in
      let a : marked (paced_mark (is_some t.cursor.script.rounds) (has_timer t.cursor.script) s.micros p b.mark) u ≡ u =
      (λ i. marked (paced_mark (is_some (sym rounds i)) (sym timed i) s.micros p b.mark) u) ∙ g.0.paced in
      let rest = have_later seen ts after h.1 g.1 in
      λ i. a i ∷ rest i

  outlasts_one : (b : TaskSeen) (t : Task) (p : Pace) → marked b.mark t ≡ t → MayBegin s.micros p b.mark → Outlasts s.micros p t
  outlasts_one b t Rests e h = tt
  outlasts_one b t (Plays r) e h = tt
  outlasts_one b t (Works w) e h = let work : b.mark.work ≡ t.work = ap (λ (t : Task). t.work) e in omega (arith, work, h.1)

  all_outlast : (seen : List TaskSeen) (ts after : List Task) → AreTasksSeen seen ts → ArePaced s.micros seen after (map (λ t. s.pace t.number) ts)
      → All (λ t. Outlasts s.micros (s.pace t.number) t) ts
  all_outlast [] [] after h g = All-nil (λ (t : Task). Outlasts s.micros (s.pace t.number) t)
  all_outlast [] (t ∷ ts) after h g = absurd h
  all_outlast (b ∷ seen) [] after h g = absurd h
  all_outlast (b ∷ seen) (t ∷ ts) [] h g = absurd g
  all_outlast (b ∷ seen) (t ∷ ts) (u ∷ after) h g =
      All-cons (λ (t : Task). Outlasts s.micros (s.pace t.number) t) t ts (outlasts_one b t (s.pace t.number) h.0.mark g.0.begins) (all_outlast seen ts after h.1 g.1)

  all_last : (law : HasPeriodsLaw) (m : ℕ) (seen : List TaskSeen) (ts after : List Task) → AreTasksSeen seen ts → ArePaced s.micros seen after (map (λ t. s.pace t.number) ts)
      → AllLast m seen (map (λ t. s.pace t.number) ts) → MayShift (many m s) ts
  all_last law m [] [] after h g l = All-nil (λ (t : Task). MayGo ((many m s).pace t.number) t)
  all_last law m [] (t ∷ ts) after h g l = absurd h
  all_last law m (b ∷ seen) [] after h g l = absurd h
  all_last law m (b ∷ seen) (t ∷ ts) [] h g l = absurd g
  all_last law m (b ∷ seen) (t ∷ ts) (u ∷ after) h g l =
      let p = s.pace t.number in
      let has : HasPeriods t.cursor.script.rounds m p b.mark = subst (λ (rounds : Option ℕ). HasPeriods rounds m p b.mark) h.0.rounds l.0 in
      let may : MayGo (many_paces m p) t = subst (λ (t : Task). MayGo (many_paces m p) t) h.0.mark (law s.micros m p b.mark t g.0.begins h.0.step has) in
      All-cons (λ (t : Task). MayGo ((many m s).pace t.number) t) t ts may (all_last law m seen ts after h.1 g.1 l.1)

-- ---- what repeats, by the pace of each number

abbrev pub shift_of : ℕ → (ℕ → Pace) → Shift
shift_of k pace = record { micros = k; pace = pace }

pub record IsRepeating (k most : ℕ) (paces : List Pace) (d : Domain) : Type 0 where
  pub pace : ℕ → Pace
  pub listed : paces ≡ map (λ (t : Task). pace t.number) d.tasks
  pub once : Repeats (shift_of k pace) d
  pub lasts : (m : ℕ) → m ≤ most → LastsFor m (shift_of k pace) d

module _ (found_law : FoundLaw) (periods_law : HasPeriodsLaw) where
  pub found_repeats : (k most : ℕ) (seen : List TaskSeen) (paces : List Pace) (d : Domain) → IsFoundAgain k most seen paces d → IsRepeating k most paces d
  found_repeats k most seen paces d f =
      let s : Shift = shift_of k (pace_in paces d.tasks) in
      let as_seen = seen_length seen d.tasks f.first in
      let as_paced = paced_length k seen (ticks k d).tasks paces f.paced in
      let after_length = as_paced.0 in
      let paces_length = as_paced.1 in
      let listed : paces ≡ map (λ (t : Task). s.pace t.number) d.tasks = by_number paces d.tasks (paces_length ∙ as_seen) f.domain.steady.numbered in
      let paced = subst (λ (ps : List Pace). ArePaced k seen (ticks k d).tasks ps) listed f.paced in
      let again : IsSeenAgain s d (marks_of seen) (shifted_marks s (marks_of seen) d.tasks) = record {
        first = have_marks seen d.tasks f.first;
        last = have_later s seen d.tasks (ticks k d).tasks f.first paced;
        everyone = after_length ∙ as_seen;
        curr = f.curr;
        marks = refl;
        long = all_outlast s seen d.tasks (ticks k d).tasks f.first paced;
      } in
      record {
        pace = pace_in paces d.tasks;
        listed = listed;
        once = found_law s d (marks_of seen) (shifted_marks s (marks_of seen) d.tasks) again;
        lasts = λ m within.
            all_last s periods_law m seen d.tasks (ticks k d).tasks f.first paced (subst (λ (ps : List Pace). AllLast m seen ps) listed (f.lasts m within));
      }

module _ (shift_law : ShiftLaw) (repeats_law : RepeatsLaw) (lasts_law : LastsLaw) (found_law : FoundLaw) (periods_law : HasPeriodsLaw) where
  pub found_gives : (k most : ℕ) (seen : List TaskSeen) (paces : List Pace) (d : Domain) → IsFoundAgain k most seen paces d → GivesPeriods most k paces 0 (switches_to_come k d) (without_switches d)
  found_gives k most seen paces d f =
      let r = found_repeats found_law periods_law k most seen paces d f in
      let all = gives_on shift_law repeats_law lasts_law (shift_of k r.pace) d f.domain r.once most r.lasts most 0 (omega arith) in
      let none : 0 * k ≡ 0 = omega arith in
      let from_none = subst (λ n. GivesPeriods most k (map (λ (t : Task). r.pace t.number) d.tasks) n (switches_to_come k d) (without_switches (ticks n d))) none all in
      subst (λ (ps : List Pace). GivesPeriods most k ps 0 (switches_to_come k d) (without_switches d)) (sym r.listed) from_none
