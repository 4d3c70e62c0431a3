-- The gate's steps are those of the pure core (own). To the core a domain of a gate is one with the
-- two parts of its word, the cap and what is used, all of whose tickets are in hand, each under the
-- number of its seat as its id.
use Rattle.std.specs.Prelude.{ℕ, ◌≡◌, ◌+◌, ◌-◌, ◌==◌, if◌then◌else◌, List, [], ◌∷◌, ◌++◌, Some, map, slice_index}
use Rattle.bw_world.specs.declared.step.Outcome.TheVariants.{Saw, Over, Lost}
use Rattle.bw_world.specs.declared.step.Word.{Word}
use Rattle.bw_world.specs.declared.ticket.Ticket.{Ticket}
use Rattle.bw_world.specs.WorldView.{DomainView}
use Rattle.bw_world.specs.DomainStep.{unchanged_step, done, word_in, limited, in_hand_of, without, with_bw, loaded, taken, regraded_in_hand, given}
use Rattle.bw_world.specs.ExactWord.{IsExactDomain}
use Rattle.bw_gate.specs.declared.answer.Take.{Take}
use Rattle.bw_gate.specs.declared.answer.Take.TheVariants as takes
use Rattle.bw_gate.specs.declared.answer.Regrade.{Regrade}
use Rattle.bw_gate.specs.declared.answer.Regrade.TheVariants as regrades
use Rattle.bw_gate.specs.declared.view.Piece.{Piece}
use Rattle.bw_gate.specs.declared.view.Piece.TheVariants as pieces
use Rattle.bw_gate.specs.declared.view.View.{View}
use Rattle.bw_gate.specs.declared.answer.Limit.{Limit}
use Rattle.bw_gate.specs.declared.answer.Limit.TheVariants as limits
use Rattle.bw_gate.specs.Terms.{TermsView}
use Rattle.bw_gate.specs.Word.{used_of, cap_of, word_of}
use Rattle.bw_gate.specs.Pieces.{BlankView, TicketView, found_in}
use Rattle.bw_gate.specs.Table.{IsTableKept}
use Rattle.bw_gate.specs.Answers.{cap_by, IsTryOfTake, IsTryOfRegrade, IsTryOfLimit, IsGive, IsLoad}

-- the tickets of a domain among some pieces, with one id
abbrev pub tickets_in : ℕ → ℕ → List Piece → List Ticket
tickets_in d id [] = []
tickets_in d id (pieces.Blank ∷ rest) = tickets_in d id rest
tickets_in d id (pieces.Ticket e bw ∷ rest) =
    if e == d then (record { id = id; bw = bw } ∷ tickets_in d id rest) else tickets_in d id rest

-- the tickets of a domain among the views from one seat on
abbrev pub tickets_from : ℕ → ℕ → List View → List Ticket
tickets_from d id [] = []
tickets_from d id (v ∷ views) = tickets_in d id v.pieces ++ tickets_from d (id + 1) views

-- a word, as the core sees it
abbrev pub core_word : ℕ → Word
core_word n = record { cap = cap_of n; used = used_of n }

-- a domain of a gate's table, as the core sees it
abbrev pub core_of : List ℕ → List View → ℕ → DomainView
core_of words views d = record {
  cap = cap_of (slice_index words d);
  used = used_of (slice_index words d);
  in_hand = tickets_from d 0 views;
  admitted = [];
  changes = [];
}

-- the rule of the table is the law of the core, in each domain
abbrev pub KeepsTheLaw : Type 0
KeepsTheLaw =
    (terms : TermsView) (words : List ℕ) (views : List View) (d : ℕ)
    → IsTableKept terms words views → IsExactDomain (core_of words views d)

-- a domain, in which a ticket was taken; in which a ticket in hand has another bandwidth in the
-- place of `was`; to which a ticket was given back
abbrev pub with_taken : ℕ → ℕ → DomainView → DomainView
with_taken id bw c =
    record c { used = c.used + bw; in_hand = c.in_hand ++ record { id = id; bw = bw } ∷ [] }

abbrev pub with_regraded : ℕ → ℕ → ℕ → DomainView → DomainView
with_regraded id was bw c =
    record c { used = c.used - was + bw; in_hand = map (with_bw id bw) c.in_hand }

abbrev pub with_given : ℕ → ℕ → DomainView → DomainView
with_given id bw c = record c { used = c.used - bw; in_hand = without id c.in_hand }

-- a fact of whatever domain has this word, and of whatever id
abbrev pub Everywhere : ℕ → (ℕ → DomainView → Type 0) → Type 0
Everywhere n Fact = (id : ℕ) (c : DomainView) → word_in c ≡ core_word n → Fact id c

-- what the core's Take answers and does where the domain has the word that the last step of a try
-- found
pub record IsCoreTaken (b : BlankView) (d bw : ℕ) (t : TicketView) : Type 0 where
  pub seen : ℕ
  pub found : t.found ≡ b.found ++ found_in d (seen ∷ seen ∷ [])
  pub core : Everywhere seen
      (λ id c. taken id bw (core_word seen) c ≡ done (with_taken id t.bw c))

abbrev pub IsCoreTake : BlankView → ℕ → ℕ → Take → Type 0
IsCoreTake b d bw (takes.Taken t) = IsCoreTaken b d bw t
IsCoreTake b d bw (takes.Refused e seen) =
    Everywhere seen (λ id c. taken id bw (core_word seen) c ≡ unchanged_step c (Over (word_in c)))
IsCoreTake b d bw (takes.Raced e expected seen) =
    Everywhere seen
    (λ id c. taken id bw (core_word expected) c ≡ unchanged_step c (Lost (word_in c)))

-- what the core's Regrade answers and does to a ticket in hand, likewise
pub record IsCoreChanged (t : TicketView) (bw : ℕ) (u : TicketView) : Type 0 where
  pub seen : ℕ
  pub found : u.found ≡ t.found ++ found_in t.domain (seen ∷ seen ∷ [])
  pub core : Everywhere seen
      (λ id c. regraded_in_hand id t.bw bw (core_word seen) c ≡ done (with_regraded id t.bw u.bw c))

abbrev pub IsCoreRegrade : TicketView → ℕ → Regrade → Type 0
IsCoreRegrade t bw (regrades.Changed u) = IsCoreChanged t bw u
IsCoreRegrade t bw (regrades.Refused u seen) =
    Everywhere seen
    (λ id c. regraded_in_hand id t.bw bw (core_word seen) c ≡ unchanged_step c (Over (word_in c)))
IsCoreRegrade t bw (regrades.Raced u expected seen) =
    Everywhere seen
    (λ id c. regraded_in_hand id t.bw bw (core_word expected) c
    ≡ unchanged_step c (Lost (word_in c)))

-- what the core's Give does, at whatever domain has the word that the step found and this ticket in
-- hand
pub record IsCoreGive (t : TicketView) (b : BlankView) : Type 0 where
  pub seen : ℕ
  pub found : b.found ≡ t.found ++ found_in t.domain (seen ∷ [])
  pub core : (id : ℕ) (c : DomainView) → word_in c ≡ core_word seen
      → in_hand_of id c ≡ Some (record { id = id; bw = t.bw })
      → given id c ≡ done (with_given id t.bw c)

-- what the core's Load answers, at whatever domain has the word that the step found: it changes
-- nothing
pub record IsCoreLoad (t : TicketView) (n : ℕ) (u : TicketView) : Type 0 where
  pub found : u.found ≡ t.found ++ found_in t.domain (n ∷ [])
  pub core : (c : DomainView) → word_in c ≡ core_word n
      → loaded c ≡ unchanged_step c (Saw (core_word n))

-- a try of the gate answers as the core does
abbrev pub TakesAsTheCore : Type 0
TakesAsTheCore =
    (b : BlankView) (d bw : ℕ) (answer : Take)
    → IsTryOfTake b d bw answer → IsCoreTake b d bw answer

abbrev pub RegradesAsTheCore : Type 0
RegradesAsTheCore =
    (t : TicketView) (bw : ℕ) (answer : Regrade)
    → IsTryOfRegrade t bw answer → IsCoreRegrade t bw answer

-- give and load do as the core does
abbrev pub GivesAsTheCore : Type 0
GivesAsTheCore = (t : TicketView) (b : BlankView) → IsGive t b → IsCoreGive t b

abbrev pub LoadsAsTheCore : Type 0
LoadsAsTheCore = (t : TicketView) (n : ℕ) (u : TicketView) → IsLoad t n u → IsCoreLoad t n u

-- what the core's Limit answers and does where the domain has the word that the last step of a try
-- found; where it is done, the word left has the domain's new cap and what was used
pub record IsCoreSet (b : BlankView) (d limit : ℕ) (e : BlankView) : Type 0 where
  pub seen : ℕ
  pub found : e.found
      ≡ b.found ++ found_in d (seen ∷ word_of (cap_by b.gate d limit) (used_of seen) ∷ [])
  pub core : Everywhere seen (λ id c.
      limited (cap_by b.gate d limit) (core_word seen) c
      ≡ done (record c { cap = cap_by b.gate d limit }))

abbrev pub IsCoreLimit : BlankView → ℕ → ℕ → Limit → Type 0
IsCoreLimit b d limit (limits.Set e) = IsCoreSet b d limit e
IsCoreLimit b d limit (limits.Refused e seen) =
    Everywhere seen
    (λ id c. limited (cap_by b.gate d limit) (core_word seen) c
    ≡ unchanged_step c (Over (word_in c)))
IsCoreLimit b d limit (limits.Raced e expected seen) =
    Everywhere seen
    (λ id c. limited (cap_by b.gate d limit) (core_word expected) c
    ≡ unchanged_step c (Lost (word_in c)))

abbrev pub LimitsAsTheCore : Type 0
LimitsAsTheCore =
    (b : BlankView) (d limit : ℕ) (answer : Limit)
    → IsTryOfLimit b d limit answer → IsCoreLimit b d limit answer
