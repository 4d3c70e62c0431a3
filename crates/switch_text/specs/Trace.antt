-- The trace text of several runs: a header, and the lines of all of them in one order (own; ftrace
-- orders by time).
use Rattle.std.specs.Prelude.{ℕ, ◌+◌, ◌==◌, ◌&&◌, ◌||◌, nat_lt, Bool, if◌then◌else◌, List, [], ◌∷◌, ◌++◌, map, codes}
use Rattle.std.specs.List.{flat_map}
use Rattle.domain_run.specs.Switch.{Switch}
use Rattle.switch_text.specs.Line.{switch_line}

-- the run of one domain: the CPU of the machine that is its CPU 0, the names of its tasks by
-- number, its switches
pub record SwitchesView : Type 0 where
  pub base : ℕ
  pub names : ℕ → List ℕ
  pub switches : List Switch

-- when and on which CPU of the machine a switch is, and its line
pub record Entry : Type 0 where
  pub time : ℕ
  pub cpu : ℕ
  pub line : List ℕ

abbrev pub entry_of : SwitchesView → Switch → Entry
entry_of r s = record { time = s.time; cpu = r.base + s.cpu; line = switch_line r.names r.base s }

abbrev pub entries_of : SwitchesView → List Entry
entries_of r = map (entry_of r) r.switches

-- by time, and at one time by the CPU of the machine
abbrev pub is_earlier : Entry → Entry → Bool
is_earlier a b = nat_lt a.time b.time || (a.time == b.time && nat_lt a.cpu b.cpu)

-- an entry, put before the first one that is not earlier
abbrev pub placed_in : Entry → List Entry → List Entry
placed_in e [] = e ∷ []
placed_in e (f ∷ fs) = if is_earlier f e then f ∷ placed_in e fs else e ∷ f ∷ fs

-- the entries by time and CPU; those of one time and CPU stay as they stood
unfoldable pub entries_in_order : List Entry → List Entry
entries_in_order [] = []
entries_in_order (e ∷ es) = placed_in e (entries_in_order es)

-- as ftrace writes it for its tracer nop
unfoldable pub header : List ℕ
header = codes "# tracer: nop\n"

unfoldable pub text_of_entries : List Entry → List ℕ
text_of_entries es = flat_map (λ e. e.line) es

-- the header, and then the lines of all runs by time and CPU
unfoldable pub trace_of : List SwitchesView → List ℕ
trace_of runs = header ++ text_of_entries (entries_in_order (flat_map entries_of runs))
