-- What the calls of a gate answer (own).
use Rattle.std.specs.Prelude.{ℕ, ◌≡◌, ◌≢◌, ◌≤◌, ◌<◌, ◌+◌, ◌-◌, ◌*◌, List, [], ◌∷◌, ◌++◌, All}
use Rattle.bw_gate.specs.Word.{used_of, cap_of, word_of, IsWord}
use Rattle.bw_gate.specs.Pieces.{GateId, BlankView, TicketView, cpus_of, found_in}
use Rattle.bw_gate.specs.declared.answer.Take.{Take}
use Rattle.bw_gate.specs.declared.answer.Take.TheVariants as takes
use Rattle.bw_gate.specs.declared.answer.Regrade.{Regrade}
use Rattle.bw_gate.specs.declared.answer.Regrade.TheVariants as regrades
use Rattle.bw_gate.specs.declared.answer.Limit.{Limit}
use Rattle.bw_gate.specs.declared.answer.Limit.TheVariants as limits

-- the piece, with the words of a domain that it found more; those of a ticket are of its own
abbrev pub blank_found : BlankView → ℕ → List ℕ → BlankView
blank_found b d words = record b { found = b.found ++ found_in d words }

abbrev pub ticket_found : TicketView → List ℕ → TicketView
ticket_found t words = record t { found = t.found ++ found_in t.domain words }

-- a blank that has become a ticket
abbrev pub ticket_of : BlankView → ℕ → ℕ → List ℕ → TicketView
ticket_of b d bw words =
    record { gate = b.gate; domain = d; bw = bw; found = b.found ++ found_in d words }

-- what a raced try found: a word by its load, and another by its exchange
pub record Race : Type 0 where
  pub expected : ℕ
  pub seen : ℕ

-- the words that raced tries found, one after another
abbrev pub words_of : List Race → List ℕ
words_of [] = []
words_of (race ∷ races) = race.expected ∷ race.seen ∷ words_of races

-- a raced try to take so much in a domain: an exchange is made only where the word that the load
-- found has room for it under the cap that it carries; and the word that the exchange found is
-- another one, as sound
pub record IsRaceOfTake (gate : GateId) (d bw : ℕ) (race : Race) : Type 0 where
  pub word : IsWord (cpus_of gate d) race.expected
  pub room : used_of race.expected + bw ≤ cap_of race.expected
  pub other : race.seen ≢ race.expected
  pub other_word : IsWord (cpus_of gate d) race.seen

-- a raced try to regrade a ticket to so much: only where that word has room for it in the place of
-- the ticket's bandwidth
pub record IsRaceOfRegrade (t : TicketView) (bw : ℕ) (race : Race) : Type 0 where
  pub word : IsWord (cpus_of t.gate t.domain) race.expected
  pub held : t.bw ≤ used_of race.expected
  pub room : used_of race.expected - t.bw + bw ≤ cap_of race.expected
  pub other : race.seen ≢ race.expected
  pub other_word : IsWord (cpus_of t.gate t.domain) race.seen

-- taken: both steps found one word, which has room for the bandwidth
pub record IsTaken (b : BlankView) (d bw : ℕ) (t : TicketView) : Type 0 where
  pub seen : ℕ
  pub word : IsWord (cpus_of b.gate d) seen
  pub room : used_of seen + bw ≤ cap_of seen
  pub ticket : t ≡ ticket_of b d bw (seen ∷ seen ∷ [])

-- refused: the word that the load found has no room for the bandwidth under the cap that it carries
pub record IsTakeRefused (b : BlankView) (d bw : ℕ) (c : BlankView) (seen : ℕ) : Type 0 where
  pub word : IsWord (cpus_of b.gate d) seen
  pub over : cap_of seen < used_of seen + bw
  pub blank : c ≡ blank_found b d (seen ∷ [])

-- raced: the exchange found another word than the load
pub record IsTakeRaced (b : BlankView) (d bw : ℕ) (c : BlankView) (race : Race) : Type 0 where
  pub raced : IsRaceOfTake b.gate d bw race
  pub blank : c ≡ blank_found b d (race.expected ∷ race.seen ∷ [])

-- try_take by a blank of so much in a domain
abbrev pub IsTryOfTake : BlankView → ℕ → ℕ → Take → Type 0
IsTryOfTake b d bw (takes.Taken t) = IsTaken b d bw t
IsTryOfTake b d bw (takes.Refused c seen) = IsTakeRefused b d bw c seen
IsTryOfTake b d bw (takes.Raced c expected seen) =
    IsTakeRaced b d bw c (record { expected = expected; seen = seen })

-- try_regrade by a ticket to so much, likewise. What is not changed keeps its domain and its
-- bandwidth
pub record IsChanged (t : TicketView) (bw : ℕ) (u : TicketView) : Type 0 where
  pub seen : ℕ
  pub word : IsWord (cpus_of t.gate t.domain) seen
  pub held : t.bw ≤ used_of seen
  pub room : used_of seen - t.bw + bw ≤ cap_of seen
  pub ticket : u ≡ record t { bw = bw; found = t.found ++ found_in t.domain (seen ∷ seen ∷ []) }

pub record IsRegradeRefused (t : TicketView) (bw : ℕ) (u : TicketView) (seen : ℕ) : Type 0 where
  pub held : t.bw ≤ used_of seen
  pub word : IsWord (cpus_of t.gate t.domain) seen
  pub over : cap_of seen < used_of seen - t.bw + bw
  pub ticket : u ≡ ticket_found t (seen ∷ [])

pub record IsRegradeRaced (t : TicketView) (bw : ℕ) (u : TicketView) (race : Race) : Type 0 where
  pub raced : IsRaceOfRegrade t bw race
  pub ticket : u ≡ ticket_found t (race.expected ∷ race.seen ∷ [])

abbrev pub IsTryOfRegrade : TicketView → ℕ → Regrade → Type 0
IsTryOfRegrade t bw (regrades.Changed u) = IsChanged t bw u
IsTryOfRegrade t bw (regrades.Refused u seen) = IsRegradeRefused t bw u seen
IsTryOfRegrade t bw (regrades.Raced u expected seen) =
    IsRegradeRaced t bw u (record { expected = expected; seen = seen })

-- the answer is not that of a race
abbrev pub IsTakeDecided : Take → Type 0
IsTakeDecided (takes.Taken t) = Unit {0}
IsTakeDecided (takes.Refused b seen) = Unit {0}
IsTakeDecided (takes.Raced b expected seen) = ⊥

abbrev pub IsRegradeDecided : Regrade → Type 0
IsRegradeDecided (regrades.Changed t) = Unit {0}
IsRegradeDecided (regrades.Refused t seen) = Unit {0}
IsRegradeDecided (regrades.Raced t expected seen) = ⊥

-- take and regrade repeat their try until it is not raced: all tries but the last were raced, each
-- found its two words and nothing else was found, and the last one answers
pub record IsTake (b : BlankView) (d bw : ℕ) (answer : Take) : Type 0 where
  pub races : List Race
  pub raced : All (IsRaceOfTake b.gate d bw) races
  pub last : IsTryOfTake (blank_found b d (words_of races)) d bw answer
  pub decided : IsTakeDecided answer

pub record IsRegrade (t : TicketView) (bw : ℕ) (answer : Regrade) : Type 0 where
  pub races : List Race
  pub raced : All (IsRaceOfRegrade t bw) races
  pub last : IsTryOfRegrade (ticket_found t (words_of races)) bw answer
  pub decided : IsRegradeDecided answer

-- give by a ticket: its one step found a sound word, of which at least the ticket's bandwidth is
-- used, and a blank comes back
pub record IsGive (t : TicketView) (b : BlankView) : Type 0 where
  pub seen : ℕ
  pub room : t.bw ≤ used_of seen
  pub word : IsWord (cpus_of t.gate t.domain) seen
  pub blank : b ≡ record { gate = t.gate; found = t.found ++ found_in t.domain (seen ∷ []) }

-- load by a ticket: it answers the word that its one step found, and the ticket keeps its domain
-- and its bandwidth
pub record IsLoad (t : TicketView) (seen : ℕ) (u : TicketView) : Type 0 where
  pub room : t.bw ≤ used_of seen
  pub word : IsWord (cpus_of t.gate t.domain) seen
  pub ticket : u ≡ ticket_found t (seen ∷ [])

-- the cap that a domain has by a limit
abbrev pub cap_by : GateId → ℕ → ℕ → ℕ
cap_by gate d limit = cpus_of gate d * limit

-- a raced try to set a limit: an exchange is made only where no more is used of the word that the
-- load found than the new cap
pub record IsRaceOfLimit (gate : GateId) (d limit : ℕ) (race : Race) : Type 0 where
  pub word : IsWord (cpus_of gate d) race.expected
  pub room : used_of race.expected ≤ cap_by gate d limit
  pub other : race.seen ≢ race.expected
  pub other_word : IsWord (cpus_of gate d) race.seen

-- set: the word that the load found, and then the word left, which carries the new cap and what was
-- used. So a write to sched_rt_runtime_us changes what each CPU gives to deadline tasks, and
-- admitted tasks keep what they have (sched-deadline.rst, "System wide settings"; one step on one
-- word is our own)
pub record IsSet (b : BlankView) (d limit : ℕ) (c : BlankView) : Type 0 where
  pub seen : ℕ
  pub word : IsWord (cpus_of b.gate d) seen
  pub room : used_of seen ≤ cap_by b.gate d limit
  pub blank : c ≡ blank_found b d (seen ∷ word_of (cap_by b.gate d limit) (used_of seen) ∷ [])

-- refused: more is used of the word that the load found than the new cap. A kernel answers a write
-- to sched_rt_runtime_us with EBUSY then (sched_dl_global_validate)
pub record IsLimitRefused (b : BlankView) (d limit : ℕ) (c : BlankView) (seen : ℕ) : Type 0 where
  pub word : IsWord (cpus_of b.gate d) seen
  pub over : cap_by b.gate d limit < used_of seen
  pub blank : c ≡ blank_found b d (seen ∷ [])

-- raced: the exchange found another word than the load
pub record IsLimitRaced (b : BlankView) (d limit : ℕ) (c : BlankView) (race : Race) : Type 0 where
  pub raced : IsRaceOfLimit b.gate d limit race
  pub blank : c ≡ blank_found b d (race.expected ∷ race.seen ∷ [])

-- try_limit by a blank of a limit in a domain
abbrev pub IsTryOfLimit : BlankView → ℕ → ℕ → Limit → Type 0
IsTryOfLimit b d limit (limits.Set c) = IsSet b d limit c
IsTryOfLimit b d limit (limits.Refused c seen) = IsLimitRefused b d limit c seen
IsTryOfLimit b d limit (limits.Raced c expected seen) =
    IsLimitRaced b d limit c (record { expected = expected; seen = seen })

abbrev pub IsLimitDecided : Limit → Type 0
IsLimitDecided (limits.Set b) = Unit {0}
IsLimitDecided (limits.Refused b seen) = Unit {0}
IsLimitDecided (limits.Raced b expected seen) = ⊥

-- limit repeats its try until it is not raced
pub record IsLimited (b : BlankView) (d limit : ℕ) (answer : Limit) : Type 0 where
  pub races : List Race
  pub raced : All (IsRaceOfLimit b.gate d limit) races
  pub last : IsTryOfLimit (blank_found b d (words_of races)) d limit answer
  pub decided : IsLimitDecided answer
