-- Worked rows, each of which the definitions compute.
use Rattle.std.specs.Prelude.{◌≡◌, ℕ, List, [], ◌∷◌, map, take, refl}
use Rattle.bw_world.specs.declared.book.Change.TheVariants.{Entered, Regraded, Released}
use Rattle.bw_world.specs.declared.step.Outcome.TheVariants.{Saw, Done, Over, Lost, Not}
use Rattle.bw_world.specs.declared.step.Step.{Step}
use Rattle.bw_world.specs.declared.step.Step.TheVariants.{Load, Take, Regrade, Give, Enter, Release, Limit, Move}
use Rattle.bw_world.specs.declared.step.Word.{Word}
use Rattle.bw_world.specs.WorldView.{DomainView}
use Rattle.bw_world.specs.DomainStep.{unused_domain}
use Rattle.bw_world.specs.WorldStep.{after_steps, outcomes_of}
use Rattle.bw_world.specs.ExactWord.{tasks_after_changes}

-- a word of a cap and a used part
abbrev word : ℕ → ℕ → Word
word cap used = record { cap = cap; used = used }

-- the used parts after each of the first steps
abbrev words_after : List Step → List DomainView → ℕ → List ℕ
words_after steps domains k = map (λ d. d.used) (after_steps (take k steps) domains)

-- world_steps: one domain of the cap 524288
abbrev one : List DomainView
one = unused_domain 524288 ∷ []

abbrev half : ℕ → Word
half used = word 524288 used

abbrev steps : List Step
steps =
    Load 0 ∷ Take 1 0 262144 (half 0) ∷ Take 2 0 262144 (half 0) ∷ Take 2 0 262144 (half 262144)
    ∷ Take 3 0 1 (half 524288) ∷ Enter 1 7 ∷ Give 1 ∷ Regrade 1 131072 (half 524288) ∷ Release 1
    ∷ Give 1 ∷ []

world_steps_outcomes : outcomes_of steps one
    ≡ Saw (half 0) ∷ Done ∷ Lost (half 262144) ∷ Done ∷ Over (half 524288) ∷ Done ∷ Not ∷ Done
    ∷ Done ∷ Done ∷ []
world_steps_outcomes = refl

world_steps_words : map (words_after steps one) (1 ∷ 2 ∷ 3 ∷ 4 ∷ 5 ∷ 6 ∷ 7 ∷ 8 ∷ 9 ∷ 10 ∷ [])
    ≡ (0 ∷ []) ∷ (262144 ∷ []) ∷ (262144 ∷ []) ∷ (524288 ∷ []) ∷ (524288 ∷ []) ∷ (524288 ∷ [])
    ∷ (524288 ∷ []) ∷ (393216 ∷ []) ∷ (393216 ∷ []) ∷ (262144 ∷ []) ∷ []
world_steps_words = refl

world_steps_end : after_steps steps one ≡ record {
  cap = 524288;
  used = 262144;
  in_hand = record { id = 2; bw = 262144 } ∷ [];
  admitted = [];
  changes = Entered 7 1 262144 ∷ Regraded 7 131072 ∷ Released 7 ∷ [];
} ∷ []
world_steps_end = refl

-- a step that does not fit: no such domain; more than one CPU for one ticket; an id that is live in
-- another domain; a number that is admitted; a ticket in hand to release; a ticket that is gone
abbrev two : List DomainView
two = unused_domain 2097152 ∷ unused_domain 1048576 ∷ []

abbrev wide : ℕ → Word
wide used = word 2097152 used

abbrev misfitting : List Step
misfitting =
    Load 2 ∷ Take 1 2 0 (wide 0) ∷ Take 1 0 1048577 (wide 0) ∷ Take 1 0 1048576 (wide 0)
    ∷ Take 1 1 0 (word 1048576 0) ∷ Enter 1 5 ∷ Enter 1 6 ∷ Take 2 0 0 (wide 1048576) ∷ Enter 2 5
    ∷ Release 2 ∷ Release 1 ∷ Give 1 ∷ Give 1 ∷ Regrade 1 0 (wide 0) ∷ []

misfits : outcomes_of misfitting two
    ≡ Not ∷ Not ∷ Not ∷ Done ∷ Not ∷ Done ∷ Not ∷ Done ∷ Not ∷ Not ∷ Done ∷ Done ∷ Not ∷ Not ∷ []
misfits = refl

-- Lost before Over, in a Take and in a Regrade; as much as the cap is granted; a Regrade may
-- go above one CPU
abbrev exchanges : List Step
exchanges =
    Take 1 0 1048576 (wide 0) ∷ Take 2 0 1048577 (wide 7) ∷ Take 2 0 1048576 (wide 7)
    ∷ Regrade 1 3000000 (wide 7) ∷ Regrade 1 3000000 (wide 1048576)
    ∷ Regrade 1 2097152 (wide 1048576) ∷ Regrade 1 2097153 (wide 2097152)
    ∷ Take 2 0 0 (wide 2097152) ∷ []

refused : outcomes_of exchanges two
    ≡ Done ∷ Not ∷ Lost (wide 1048576) ∷ Lost (wide 1048576) ∷ Over (wide 1048576) ∷ Done
    ∷ Over (wide 2097152) ∷ Done ∷ []
refused = refl

-- two tasks of one domain, of which one is given another bandwidth and the other is released
abbrev book : List Step
book =
    Take 8 1 100 (word 1048576 0) ∷ Take 9 1 200 (word 1048576 100) ∷ Enter 9 4 ∷ Enter 8 3
    ∷ Regrade 8 150 (word 1048576 300) ∷ Release 9 ∷ []

book_end : after_steps book two ≡ unused_domain 2097152 ∷ record {
  cap = 1048576;
  used = 350;
  in_hand = record { id = 9; bw = 200 } ∷ [];
  admitted = record { number = 3; ticket = 8; bw = 150 } ∷ [];
  changes = Entered 4 9 200 ∷ Entered 3 8 100 ∷ Regraded 3 150 ∷ Released 4 ∷ [];
} ∷ []
book_end = refl

book_told : tasks_after_changes
    (Entered 4 9 200 ∷ Entered 3 8 100 ∷ Regraded 3 150 ∷ Released 4 ∷ [])
    ≡ record { number = 3; ticket = 8; bw = 150 } ∷ []
book_told = refl

-- the limit changes. Lowered below what is used it is refused; a word of which the cap alone is not
-- the expected one is Lost, to a Take and to a Limit, and Lost comes before Over; a cap equal to
-- what is used is granted, and leaves no room; then a task fits again. The widest cap is 2^26, and
-- a domain that is not there is Not. No Limit is a change of the book
abbrev limits : List Step
limits =
    Take 1 0 262144 (half 0) ∷ Limit 0 131072 (half 262144) ∷ Limit 0 131072 (half 0)
    ∷ Limit 0 262144 (half 262144) ∷ Take 2 0 262144 (half 262144)
    ∷ Limit 0 1048576 (half 262144) ∷ Take 2 0 262144 (word 262144 262144)
    ∷ Limit 0 1048576 (word 262144 262144) ∷ Take 2 0 262144 (word 1048576 262144)
    ∷ Limit 0 67108865 (word 1048576 524288) ∷ Limit 1 1048576 (word 1048576 524288)
    ∷ Limit 0 67108864 (word 1048576 524288) ∷ Load 0 ∷ []

limits_outcomes : outcomes_of limits one
    ≡ Done ∷ Over (half 262144) ∷ Lost (half 262144) ∷ Done ∷ Lost (word 262144 262144)
    ∷ Lost (word 262144 262144) ∷ Over (word 262144 262144) ∷ Done ∷ Done ∷ Not ∷ Not ∷ Done
    ∷ Saw (word 67108864 524288) ∷ []
limits_outcomes = refl

limits_end : after_steps limits one ≡ record {
  cap = 67108864;
  used = 524288;
  in_hand = record { id = 1; bw = 262144 } ∷ record { id = 2; bw = 262144 } ∷ [];
  admitted = [];
  changes = [];
} ∷ []
limits_end = refl

-- a task moves from one domain to another, where a ticket of equal bandwidth was taken for it: the
-- used parts are the same before and after, and the old ticket can be given back then
abbrev narrow : ℕ → Word
narrow used = word 1048576 used

abbrev moving : List Step
moving =
    Take 1 0 300 (wide 0) ∷ Enter 1 5 ∷ Take 2 1 300 (narrow 0) ∷ Move 1 2 5 ∷ Give 1 ∷ []

moving_outcomes : outcomes_of moving two ≡ Done ∷ Done ∷ Done ∷ Done ∷ Done ∷ []
moving_outcomes = refl

moving_words : map (words_after moving two) (3 ∷ 4 ∷ 5 ∷ [])
    ≡ (300 ∷ 300 ∷ []) ∷ (300 ∷ 300 ∷ []) ∷ (0 ∷ 300 ∷ []) ∷ []
moving_words = refl

moving_end : after_steps (take 4 moving) two ≡ record {
  cap = 2097152;
  used = 300;
  in_hand = record { id = 1; bw = 300 } ∷ [];
  admitted = [];
  changes = Entered 5 1 300 ∷ Released 5 ∷ [];
} ∷ record {
  cap = 1048576;
  used = 300;
  in_hand = [];
  admitted = record { number = 5; ticket = 2; bw = 300 } ∷ [];
  changes = Entered 5 2 300 ∷ [];
} ∷ []
moving_end = refl

-- a Move that does not fit: the tickets have not equal bandwidth; they are of one domain; the task
-- has another number; the old ticket is in hand; there is no such ticket; the number is admitted in
-- the other domain too
abbrev staying : List Step
staying =
    Take 1 0 300 (wide 0) ∷ Enter 1 5 ∷ Take 2 1 299 (narrow 0) ∷ Move 1 2 5
    ∷ Take 3 0 300 (wide 300) ∷ Move 1 3 5 ∷ Regrade 2 300 (narrow 299) ∷ Move 1 2 6 ∷ Move 3 2 5
    ∷ Move 4 2 5 ∷ Move 1 4 5 ∷ Take 4 1 7 (narrow 300) ∷ Enter 4 5 ∷ Move 1 2 5 ∷ []

staying_outcomes : outcomes_of staying two
    ≡ Done ∷ Done ∷ Done ∷ Not ∷ Done ∷ Not ∷ Done ∷ Not ∷ Not ∷ Not ∷ Not ∷ Done ∷ Done ∷ Not ∷ []
staying_outcomes = refl
