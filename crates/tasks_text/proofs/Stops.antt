-- The first bad line of a text that is no tasks'.
use Rattle.std.proofs.Common.{◌≡◌, ℕ, ◌+◌, ◌≤◌, ◌<◌, Bool, true, false, eqb, ◌||◌, List, [], ◌∷◌, ◌++◌, length, map, None, refl, sym, ap, subst, ◌∙◌, arith, append_assoc, append-nil, length-append}
use Rattle.std.specs.Prelude.{codes, bytes_eq}
use Rattle.std.specs.List.{AllByRecursion}
use Rattle.std.proofs.lemmas.List.{map-append, length-map}
use Rattle.std.proofs.lemmas.List.Elements.{All-from_recursion, recursion_from_All}
use Rattle.std.proofs.lemmas.Grind.{flat_map-append}
use Rattle.task_script.specs.NameView.{IsNameByte}
use Rattle.calls_text.specs.Spelling.{text_of}
use Rattle.tasks_text.specs.declared.task.Task.{Task}
use Rattle.tasks_text.specs.declared.fault.LineFault.{LineFault}
use Rattle.tasks_text.specs.declared.fault.LineFault.TheVariants.{Bad, Memory}
use Rattle.tasks_text.specs.Tasks.{task_line, lines_of_tasks, tasks_spelling, IsTask, has_name, HaveNewNames, IsTaskList}
use Rattle.tasks_text.specs.BadLine.{BeginsTasks, IsBadTaskLine}
use Rattle.tasks_text.specs.private.Lines.{LacksByte, IsNoTask}
use Rattle.tasks_text.specs.private.SoFar.{IsReadTo, IsNextTask, LacksTask, IsOneTaskMore, IsStuck}
use Rattle.tasks_text.proofs.Lacking.{LacksByte-written, lacks_not, same_front}
use Rattle.tasks_text.proofs.Spelled.{line_lacks, line_names}

abbrev Each : List Task → Type 0
Each tasks = AllByRecursion IsTask tasks

-- ---- one task more

line_behind : (x l after : List ℕ) → (x ++ ((l ++ 10 ∷ []) ++ [])) ++ after ≡ x ++ (l ++ 10 ∷ after)
line_behind x l after = simp (append_assoc, append-nil)

spelled_more : (tasks : List Task) (t : Task) (after : List ℕ) → tasks_spelling tasks ++ (task_line t ++ 10 ∷ after) ≡ tasks_spelling (tasks ++ t ∷ []) ++ after
spelled_more tasks t after = sym (
    ap (λ (ls : List (List ℕ)). text_of (codes "dltasks 1" ∷ ls) ++ after) (map-append task_line tasks (t ∷ []))
    ∙ ap (λ (x : List ℕ). x ++ after) (flat_map-append (λ (line : List ℕ). line ++ codes "\n") (lines_of_tasks tasks) (task_line t ∷ []))
    ∙ line_behind (tasks_spelling tasks) (task_line t) after)

each_more : (tasks : List Task) (t : Task) → Each tasks → IsTask t → Each (tasks ++ t ∷ [])
each_more [] t each is = (is, tt)
each_more (x ∷ tasks) t each is = (each.0, each_more tasks t each.1 is)

apart_more : (before tasks : List Task) (t : Task) → HaveNewNames before tasks → has_name t.name (before ++ tasks) ≡ false → HaveNewNames before (tasks ++ t ∷ [])
apart_more before [] t is new = (ap (has_name t.name) (sym (append-nil before)) ∙ new, tt)
apart_more before (x ∷ tasks) t is new = (is.0, apart_more (before ++ x ∷ []) tasks t is.1 (ap (has_name t.name) (append_assoc before (x ∷ []) tasks) ∙ new))

pub one_more : (text rest after : List ℕ) (tasks new : List Task) → IsReadTo text rest tasks → IsOneTaskMore tasks new rest after → IsReadTo text after new
one_more text rest after tasks new so_far more =
    let t = more.task in
    let next = more.next in
    subst (IsReadTo text after) (sym more.added) (record {
      parts = so_far.parts ∙ ap (λ (r : List ℕ). tasks_spelling tasks ++ r) next.line ∙ spelled_more tasks t after;
      most = omega (arith, next.room, length-append tasks (t ∷ []));
      each = each_more tasks t so_far.each next.is;
      apart = apart_more [] tasks t so_far.apart next.new;
    })

pub all_read : (text : List ℕ) (tasks : List Task) → IsReadTo text [] tasks → 0 < length tasks → IsTaskList tasks × (text ≡ tasks_spelling tasks)
all_read text tasks so_far some = (
  record { some = some; most = so_far.most; each = All-from_recursion IsTask tasks so_far.each; apart = so_far.apart },
  so_far.parts ∙ append-nil (tasks_spelling tasks),
)

-- ---- tasks with the same first lines

-- tasks that go on after the lines of others
record Continue (all tasks : List Task) (more : List (List ℕ)) : Type 0 where
  same : List Task
  later : List Task
  parts : all ≡ same ++ later
  lines : map task_line same ≡ map task_line tasks
  rest : map task_line later ≡ more

continue_by : (all tasks : List Task) (more : List (List ℕ)) → map task_line all ≡ map task_line tasks ++ more → Continue all tasks more
continue_by all [] more e = record { same = []; later = all; parts = refl; lines = refl; rest = e }
continue_by [] (t ∷ tasks) more e = absurd cc
continue_by (u ∷ all) (t ∷ tasks) more e =
    let c = continue_by all tasks more cc in
    let head : task_line u ≡ task_line t = cc in
    record {
      same = u ∷ c.same;
      later = c.later;
      parts = ap (λ (us : List Task). u ∷ us) c.parts;
      lines = ap (λ (l : List ℕ). l ∷ map task_line c.same) head ∙ ap (λ (ls : List (List ℕ)). task_line t ∷ ls) c.lines;
      rest = c.rest;
    }

same_has_name : (name : List ℕ) (a b : List Task) → Each a → Each b → map task_line a ≡ map task_line b → has_name name a ≡ has_name name b
same_has_name name [] [] ea eb e = refl
same_has_name name [] (u ∷ b) ea eb e = absurd cc
same_has_name name (t ∷ a) [] ea eb e = absurd cc
same_has_name name (t ∷ a) (u ∷ b) ea eb e =
    let head : task_line t ≡ task_line u = cc in
    let tails : map task_line a ≡ map task_line b = cc in
    ap (λ (n : List ℕ). bytes_eq n name || has_name name a) (line_names t u ea.0 eb.0 head)
    ∙ ap (λ (x : Bool). bytes_eq u.name name || x) (same_has_name name a b ea.1 eb.1 tails)

each_front : (a b : List Task) → Each (a ++ b) → Each a
each_front [] b h = tt
each_front (x ∷ a) b h = (h.0, each_front a b h.1)

each_at : (a : List Task) (t : Task) (b : List Task) → Each (a ++ t ∷ b) → IsTask t
each_at [] t b h = h.0
each_at (x ∷ a) t b h = each_at a t b h.1

new_at : (before a : List Task) (t : Task) (b : List Task) → HaveNewNames before (a ++ t ∷ b) → has_name t.name (before ++ a) ≡ false
new_at before [] t b h = ap (has_name t.name) (append-nil before) ∙ h.0
new_at before (x ∷ a) t b h = ap (has_name t.name) (sym (append_assoc before (x ∷ []) a)) ∙ new_at (before ++ x ∷ []) a t b h.1

-- the task after those of the first lines is a next one
next_after : (all tasks : List Task) (later : List Task) (t : Task) (same rest_tasks : List Task) (rest after : List ℕ) → IsTaskList all → Each tasks → all ≡ same ++ t ∷ rest_tasks → map task_line same ≡ map task_line tasks → rest ≡ task_line t ++ 10 ∷ after → IsNextTask tasks t rest after
next_after all tasks later t same others rest after are each parts lines line =
    let every : Each (same ++ t ∷ others) = subst Each parts (recursion_from_All IsTask all are.each) in
    let new : has_name t.name same ≡ false = new_at [] same t others (subst (HaveNewNames []) parts are.apart) in
    let long : length all ≡ length same + length (t ∷ others) = ap length parts ∙ length-append same (t ∷ others) in
    let as_many : length same ≡ length tasks = sym (length-map same task_line) ∙ ap length lines ∙ length-map tasks task_line in
    record {
      line = line;
      is = each_at same t others every;
      new = sym (same_has_name t.name same tasks (each_front same (t ∷ others) every) each lines) ∙ new;
      room = omega (arith, are.most, long, as_many);
    }

-- ---- texts of lines

abbrev AreLines : List (List ℕ) → Type 0
AreLines lines = AllByRecursion (LacksByte 10) lines

task_lines_lack : (tasks : List Task) → Each tasks → AreLines (map task_line tasks)
task_lines_lack [] h = tt
task_lines_lack (t ∷ tasks) h = (line_lacks t h.0, task_lines_lack tasks h.1)

-- lines whose text goes on after the text of others
record GoOn (all front : List (List ℕ)) (rest : List ℕ) : Type 0 where
  more : List (List ℕ)
  parts : all ≡ front ++ more
  text : text_of more ≡ rest

line_first : (l t r : List ℕ) → ((l ++ 10 ∷ []) ++ t) ++ r ≡ l ++ 10 ∷ (t ++ r)
line_first l t r = simp append_assoc

no_text : (l t : List ℕ) → [] ≡ l ++ 10 ∷ t → ⊥
no_text [] t e = absurd cc
no_text (x ∷ l) t e = absurd cc

go_on_by : (all front : List (List ℕ)) (rest : List ℕ) → AreLines all → AreLines front → text_of all ≡ text_of front ++ rest → GoOn all front rest
go_on_by all [] rest ha hf e = record { more = all; parts = refl; text = e }
go_on_by [] (l ∷ front) rest ha hf e = absurd (no_text l (text_of front ++ rest) (e ∙ line_first l (text_of front) rest))
go_on_by (m ∷ all) (l ∷ front) rest ha hf e =
    let both = same_front 10 m l (text_of all) (text_of front ++ rest) ha.0 hf.0 (simp append_assoc at e) in
    let g = go_on_by all front rest ha.1 hf.1 both.1 in
    record { more = g.more; parts = ap (λ (x : List ℕ). x ∷ all) both.0 ∙ ap (λ (ls : List (List ℕ)). l ∷ ls) g.parts; text = g.text }

-- ---- the first bad line

abbrev any_tasks : List Task
any_tasks = record { name = codes "a"; pid = None; params = record { runtime = 2; deadline = 8; period = 8; reclaim = false; bw = 262144 } } ∷ []

any_are : IsTaskList any_tasks
any_are = record {
  some = omega arith;
  most = omega arith;
  each = All-from_recursion IsTask any_tasks (
    record {
      named = record { some = omega arith; most = omega arith; bytes = All-from_recursion IsNameByte (codes "a") ((omega arith, omega arith), tt) };
      plain = refl;
      numbered = tt;
      checked = refl;
    },
    tt,
  );
  apart = (refl, tt);
}

header_lacks : LacksByte 10 (codes "dltasks 1")
header_lacks = LacksByte-written 10 (codes "dltasks 1") refl

begun : (text rest : List ℕ) (tasks : List Task) → IsReadTo text rest tasks → BeginsTasks (lines_of_tasks tasks)
begun text rest [] so_far = (any_tasks, any_are, map task_line any_tasks, refl)
begun text rest (t ∷ tasks) so_far =
    (t ∷ tasks, record { some = omega arith; most = so_far.most; each = All-from_recursion IsTask (t ∷ tasks) so_far.each; apart = so_far.apart }, [], sym (append-nil (lines_of_tasks (t ∷ tasks))))

none_later : (all tasks same later : List Task) (line rest after : List ℕ) (more : List (List ℕ)) → IsTaskList all → Each tasks → LacksTask tasks rest → rest ≡ line ++ 10 ∷ after → all ≡ same ++ later → map task_line same ≡ map task_line tasks → map task_line later ≡ line ∷ more → ⊥
none_later all tasks same [] line rest after more are each lacks e parts lines later = absurd cc
none_later all tasks same (t ∷ others) line rest after more are each lacks e parts lines later =
    let head : task_line t ≡ line = cc in
    lacks t after (next_after all tasks others t same others rest after are each parts lines (e ∙ ap (λ (l : List ℕ). l ++ 10 ∷ after) (sym head)))

none_goes_on : (all tasks : List Task) (line rest after : List ℕ) (more : List (List ℕ)) → IsTaskList all → Each tasks → LacksTask tasks rest → rest ≡ line ++ 10 ∷ after → lines_of_tasks all ≡ lines_of_tasks tasks ++ line ∷ more → ⊥
none_goes_on all tasks line rest after more are each lacks e lines =
    let c = continue_by all tasks (line ∷ more) cc in
    none_later all tasks c.same c.later line rest after more are each lacks e c.parts c.lines c.rest

none_accepted : (all tasks : List Task) (rest : List ℕ) (more : List (List ℕ)) → IsTaskList all → Each tasks → LacksTask tasks rest → (rest ≡ [] → tasks ≡ []) → lines_of_tasks all ≡ lines_of_tasks tasks ++ more → text_of more ≡ rest → ⊥
none_accepted all tasks rest [] are each lacks empty lines text =
    let none : tasks ≡ [] = empty (sym text) in
    let lengths : length (lines_of_tasks all) ≡ length (lines_of_tasks []) = ap length (lines ∙ append-nil (lines_of_tasks tasks) ∙ ap lines_of_tasks none) in
    omega (arith, lengths, length-map all task_line, are.some)
none_accepted all tasks rest (l ∷ more) are each lacks empty lines text =
    none_goes_on all tasks l rest (text_of more) more are each lacks (sym text ∙ append_assoc l (codes "\n") (text_of more)) lines

pub bad_line : (text rest : List ℕ) (tasks : List Task) → IsReadTo text rest tasks → LacksTask tasks rest → (rest ≡ [] → tasks ≡ []) → IsBadTaskLine text (length tasks + 2)
bad_line text rest tasks so_far lacks empty = record {
  front = lines_of_tasks tasks;
  rest = rest;
  parts = so_far.parts;
  place = omega (arith, length-map tasks task_line);
  before = begun text rest tasks so_far;
  stops = λ line after e begins.
      none_goes_on begins.0 tasks line rest after begins.2 begins.1 so_far.each lacks e (begins.3 ∙ append_assoc (lines_of_tasks tasks) (line ∷ []) begins.2);
  refused = λ accepted.
      let each = recursion_from_All IsTask accepted.0 accepted.1.each in
      let g = go_on_by (lines_of_tasks accepted.0) (lines_of_tasks tasks) rest (header_lacks, task_lines_lack accepted.0 each) (header_lacks, task_lines_lack tasks so_far.each) (sym accepted.2 ∙ so_far.parts) in
      none_accepted accepted.0 tasks rest g.more accepted.1 so_far.each lacks empty g.parts g.text;
}

pub bad_header : (text : List ℕ) → ((rest : List ℕ) → text ≡ codes "dltasks 1\n" ++ rest → ⊥) → IsBadTaskLine text 1
bad_header text none = record {
  front = [];
  rest = text;
  parts = refl;
  place = refl;
  before = (any_tasks, any_are, lines_of_tasks any_tasks, refl);
  stops = λ line after e begins.
      let head : codes "dltasks 1" ≡ line = cc in
      none after (e ∙ ap (λ (l : List ℕ). l ++ 10 ∷ after) (sym head));
  refused = λ accepted. none (text_of (map task_line accepted.0)) accepted.2;
}

-- ---- what lacks one more task

pub full_lacks : (tasks : List Task) (rest : List ℕ) → 256 ≤ length tasks → LacksTask tasks rest
full_lacks tasks rest full = λ t after next. omega (arith, full, next.room)

pub unfinished_lacks : (tasks : List Task) (rest : List ℕ) → LacksByte 10 rest → LacksTask tasks rest
unfinished_lacks tasks rest lacks = λ t after next. lacks_not 10 (task_line t) after (subst (LacksByte 10) next.line lacks)

line_of_next : (tasks : List Task) (t : Task) (rest line after others : List ℕ) → LacksByte 10 line → rest ≡ line ++ 10 ∷ others → IsNextTask tasks t rest after → line ≡ task_line t
line_of_next tasks t rest line after others lacks parts next =
    (same_front 10 line (task_line t) others after lacks (line_lacks t next.is) (sym parts ∙ next.line)).0

pub bad_lacks : (tasks : List Task) (rest line others : List ℕ) → LacksByte 10 line → rest ≡ line ++ 10 ∷ others → ((t : Task) → IsTask t → line ≡ task_line t → ⊥) → LacksTask tasks rest
bad_lacks tasks rest line others lacks parts none = λ t after next.
    none t next.is (line_of_next tasks t rest line after others lacks parts next)

pub repeated_lacks : (tasks : List Task) (u : Task) (rest line others : List ℕ) → LacksByte 10 line → rest ≡ line ++ 10 ∷ others → IsTask u → line ≡ task_line u → has_name u.name tasks ≡ true → LacksTask tasks rest
repeated_lacks tasks u rest line others lacks parts is line_is named = λ t after next.
    let same = line_names u t is next.is (sym line_is ∙ line_of_next tasks t rest line after others lacks parts next) in
    let new : has_name u.name tasks ≡ false = ap (λ (n : List ℕ). has_name n tasks) same ∙ next.new in
    absurd cc

-- what is said of a line is said of the text that begins with it
pub stuck_by : (e : LineFault) (tasks : List Task) (rest line others : List ℕ) → LacksByte 10 line → rest ≡ line ++ 10 ∷ others → IsNoTask line e → IsStuck tasks rest e
stuck_by Bad tasks rest line others lacks parts none = bad_lacks tasks rest line others lacks parts none
stuck_by Memory tasks rest line others lacks parts none = tt

pub no_longer : (tasks new : List Task) (rest after : List ℕ) → IsOneTaskMore tasks new rest after → length after < length rest
no_longer tasks new rest after more = omega (arith, ap length more.next.line, length-append (task_line more.task) (10 ∷ after))

pub one_longer : (tasks new : List Task) (rest after : List ℕ) → IsOneTaskMore tasks new rest after → length new ≡ length tasks + 1
one_longer tasks new rest after more = ap length more.added ∙ length-append tasks (more.task ∷ [])

pub empty_lacks : (tasks : List Task) (rest : List ℕ) → length rest ≡ 0 → LacksTask tasks rest
empty_lacks tasks rest none = λ t after next. omega (arith, none, ap length next.line, length-append (task_line t) (10 ∷ after))

pub no_tasks : (tasks : List Task) → length tasks ≡ 0 → tasks ≡ []
no_tasks [] e = refl
no_tasks (t ∷ tasks) e = absurd (omega (arith, e))

pub not_empty : (rest : List ℕ) (tasks : List Task) → eqb (length rest) 0 ≡ false → rest ≡ [] → tasks ≡ []
not_empty [] tasks some e = absurd cc
not_empty (x ∷ rest) tasks some e = absurd cc
