-- Worked rows of charges, of the end of a budget, and of pieces.
use Rattle.std.specs.Prelude.{ℕ, ℤ, pos, neg_ℤ, ◌≡◌, ◌*◌, ◌-ℤ◌, List, [], ◌∷◌, refl}
use Rattle.tick_split.specs.declared.element.Slice.{Slice}
use Rattle.tick_split.specs.Charging.{charged_slice}
use Rattle.tick_split.specs.Pieces.{piece_of}

abbrev slice : ℤ → ℕ → ℕ → Slice
slice left rate ticks = record { left = left; rate = rate; ticks = ticks }

-- SLICES AND PLANS: charged for more than is left, for just that, and for a minute at rate one
overdrawn : charged_slice (slice (pos 4194304) 551883 8) ≡ slice (neg_ℤ (pos 220760)) 551883 8
overdrawn = refl

just_spent : charged_slice (slice (pos 2097152) 1048576 2) ≡ slice (pos 0) 1048576 2
just_spent = refl

a_minute : charged_slice (slice (pos 1) 1 60000000) ≡ slice (neg_ℤ (pos 59999999)) 1 60000000
a_minute = refl

-- a plan with 4 us left at the rate of "fraction and carry": something is left after 7 ticks, and
-- nothing after 8
left_after_seven : (pos 4194304 -ℤ pos (551883 * 7)) ≡ pos 331123
left_after_seven = refl

left_after_eight : (pos 4194304 -ℤ pos (551883 * 8)) ≡ neg_ℤ (pos 220760)
left_after_eight = refl

-- PIECES: five elements in two pieces, and three in three
abbrev five : List ℕ
five = 10 ∷ (11 ∷ (12 ∷ (13 ∷ (14 ∷ []))))

first_of_two : piece_of 0 2 five ≡ 10 ∷ (11 ∷ [])
first_of_two = refl

second_of_two : piece_of 1 2 five ≡ 12 ∷ (13 ∷ (14 ∷ []))
second_of_two = refl

abbrev three : List ℕ
three = 10 ∷ (11 ∷ (12 ∷ []))

last_of_three : piece_of 2 3 three ≡ 12 ∷ []
last_of_three = refl
