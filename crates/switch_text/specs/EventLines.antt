-- What happens in the domains that are written.
use Rattle.std.specs.Prelude.{ℕ, IsTrue, ◌<◌, ◌≤◌, ◌^◌, ◌+◌, ◌==◌, ◌&&◌, ◌||◌, nat_lt, not, Bool, List, length, map, All, AllPairs}
use Rattle.domain_run.specs.declared.happened.Happened.{Happened}
use Rattle.domain_run.specs.Happened.{is_first}
use Rattle.switch_text.specs.declared.logged.DomainEvents.{DomainEvents}
use Rattle.switch_text.specs.Names.{Names, name_of_task, HasName}
use Rattle.switch_text.specs.LoggedLine.{has_line}
use Rattle.switch_text.specs.Events.{LoggedView}
use Rattle.limits.specs.Limits.{clock_end}

abbrev pub logged_view : DomainEvents → LoggedView
logged_view t = record {
  base = t.base;
  names = name_of_task t.names.now;
  happened =
      t.happened.now;
}

abbrev pub logged_views : List DomainEvents → List LoggedView
logged_views logged = map logged_view logged

-- what has a line: a time below 2^42, a CPU of the machine below 512, and a name for the task
pub record HasLoggedLine (names : Names) (base : ℕ) (h : Happened) : Type 0 where
  pub time : h.time < clock_end
  pub cpu : base + h.cpu < 512
  pub name : HasName names h.number

-- an earlier time, or the same time and an earlier place of what happens there
abbrev pub is_sooner : Happened → Happened → Bool
is_sooner a b = nat_lt a.time b.time || (a.time == b.time && is_first a b)

-- where neither is a cut, the first is sooner than the second
abbrev pub is_sooner_unless_cut : Happened → Happened → Bool
is_sooner_unless_cut a b = not (has_line a.what) || not (has_line b.what) || is_sooner a b

-- each of what happens has a line, unless it is a cut; what has one rises strictly by time, and at
-- one time by what it is, CPU and number; and it is little enough to be counted
pub record IsLogged (t : DomainEvents) : Type 0 where
  pub lines : All (HasLoggedLine t.names.now t.base) t.happened.now
  pub rising : AllPairs (λ a b. IsTrue (is_sooner_unless_cut a b)) t.happened.now
  pub few : length t.happened.now ≤ 2 ^ 50
