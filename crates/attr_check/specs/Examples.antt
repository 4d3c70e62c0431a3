-- Worked rows, computed from the definitions.
use Rattle.std.specs.Prelude.{ℕ, ◌≡◌, ◌^◌, true, false, Ok, Err, refl}
use Rattle.attr_check.specs.declared.attr.SchedAttr.{SchedAttr}
use Rattle.attr_check.specs.declared.refusal.AttrRefusal.TheVariants.{NotDeadline, UnknownFlag, TopBit, Small, Order, Grain, Long}
use Rattle.attr_check.specs.Accepted.{accepted}

abbrev attr : ℕ → ℕ → ℕ → ℕ → ℕ → SchedAttr
attr policy flags runtime deadline period =
    record {
      policy = policy;
      flags = flags;
      runtime = runtime;
      deadline = deadline;
      period = period;
    }

-- SMALL RUNTIME: 1 us is below 1024 ns, 2 us is a quarter of 8 us
small_runtime : accepted (attr 6 0 1000 8000 8000) ≡ Err Small
small_runtime = refl

two_of_eight : accepted (attr 6 0 2000 8000 8000)
    ≡ Ok (record { runtime = 2; deadline = 8; period = 8; reclaim = false; bw = 262144 })
two_of_eight = refl

-- a period of 0 means the deadline, and flag 2 asks for reclaiming beside the flags 1 and 4
no_period : accepted (attr 6 7 2000 3000 0)
    ≡ Ok (record { runtime = 2; deadline = 3; period = 3; reclaim = true; bw = 699050 })
no_period = refl

reset_and_overrun : accepted (attr 6 5 2000 3000 8000)
    ≡ Ok (record { runtime = 2; deadline = 3; period = 8; reclaim = false; bw = 262144 })
reset_and_overrun = refl

-- the longest period, and no bandwidth: 2 us in each 2^32
longest : accepted (attr 6 0 2000 4294967296000 4294967296000)
    ≡ Ok (record {
      runtime = 2;
      deadline = 4294967296;
      period = 4294967296;
      reclaim = false;
      bw = 0;
    })
longest = refl

-- each refusal, where every test before it passes
not_deadline : accepted (attr 5 8 1000 8000 8000) ≡ Err NotDeadline
not_deadline = refl

unknown_flag : accepted (attr 6 8 (2 ^ 63) 8000 8000) ≡ Err UnknownFlag
unknown_flag = refl

top_bit_of_the_runtime : accepted (attr 6 0 (2 ^ 63) 8000 8000) ≡ Err TopBit
top_bit_of_the_runtime = refl

top_bit_of_the_deadline : accepted (attr 6 0 1000 (2 ^ 63) 8000) ≡ Err TopBit
top_bit_of_the_deadline = refl

top_bit_of_the_period : accepted (attr 6 0 1000 8000 (2 ^ 63)) ≡ Err TopBit
top_bit_of_the_period = refl

small : accepted (attr 6 0 1023 1000 8000) ≡ Err Small
small = refl

runtime_above_the_deadline : accepted (attr 6 0 9001 9000 10000) ≡ Err Order
runtime_above_the_deadline = refl

deadline_above_the_period : accepted (attr 6 0 2001 9000 8000) ≡ Err Order
deadline_above_the_period = refl

grain_of_the_runtime : accepted (attr 6 0 2001 8000 8000) ≡ Err Grain
grain_of_the_runtime = refl

grain_of_the_deadline : accepted (attr 6 0 2000 8001 9000) ≡ Err Grain
grain_of_the_deadline = refl

grain_of_the_period : accepted (attr 6 0 2000 8000 4294967296001) ≡ Err Grain
grain_of_the_period = refl

long : accepted (attr 6 0 2000 8000 4294967297000) ≡ Err Long
long = refl
