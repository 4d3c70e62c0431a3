-- The colours of CPUs (own), and the colour of a number on them. To eight CPUs the colours differ
-- in lightness, so that colour-blind readers and readers of a grey print tell them apart. Of more
-- CPUs each has one of five colours, a ramp from dark to light.
use Rattle.std.specs.Prelude.{ℕ, Bool, ◌+◌, ◌*◌, ◌/◌, ◌==◌, ◌||◌, nat_le, nat_lt, if◌then◌else◌, List, codes, map}
use Rattle.std.specs.List.{range_with_len}

abbrev pub palette : ℕ → List ℕ
palette k =
    if k == 0 then codes "#0072B2" else
    (if k == 1 then codes "#E4CC3C" else
    (if k == 2 then codes "#00249C" else
    (if k == 3 then codes "#E478B4" else
    (if k == 4 then codes "#C0FCA8" else
    (if k == 5 then codes "#241848" else
    (if k == 6 then codes "#3C9C24" else codes "#0C603C"))))))

abbrev pub ramp : ℕ → List ℕ
ramp k =
    if k == 0 then codes "#00204d" else
    (if k == 1 then codes "#414d6b" else
    (if k == 2 then codes "#7b7b78" else
    (if k == 3 then codes "#bcae6c" else codes "#ffea46")))

-- of this CPU, where the machine has so many
abbrev pub fill_of : ℕ → ℕ → List ℕ
fill_of cpus cpu = if nat_le cpus 8 then palette cpu else ramp (cpu * 5 / cpus)

abbrev pub is_dark : ℕ → ℕ → Bool
is_dark cpus cpu =
    if nat_le cpus 8
    then cpu == 0 || (cpu == 2 || (cpu == 5 || cpu == 7))
    else nat_lt (cpu * 5 / cpus) 2

abbrev pub ink_of : ℕ → ℕ → List ℕ
ink_of cpus cpu = if is_dark cpus cpu then codes "#fff" else codes "#000"

-- the CPUs of the legend: each, or the first of each colour of the ramp
abbrev pub first_of_colour : ℕ → ℕ → ℕ
first_of_colour cpus k = (k * cpus + 4) / 5

abbrev pub legend_cpus : ℕ → List ℕ
legend_cpus cpus =
    if nat_le cpus 8 then range_with_len 0 cpus
    else map (first_of_colour cpus) (range_with_len 0 5)
