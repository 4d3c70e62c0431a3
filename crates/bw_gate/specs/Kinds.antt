-- The steps on a gate's table (own), beside the word that each finds. A step acts with the seat of
-- the piece in hand, changes that view alone, and appends the word that it found.
use Rattle.std.specs.Prelude.{ℕ, ◌≡◌, ◌≤◌, ◌==◌, ◌+◌, ◌-◌, [], ◌∷◌, ◌++◌, take, drop, MatchBool}
use Rattle.atomic_table.specs.Table.{Step, Me}
use Rattle.bw_gate.specs.declared.view.Piece.{Piece}
use Rattle.bw_gate.specs.declared.view.Piece.TheVariants.{Blank, Ticket}
use Rattle.bw_gate.specs.declared.view.View.{View}
use Rattle.bw_gate.specs.Terms.{cpus_in}
use Rattle.bw_gate.specs.Word.{used_of, cap_of, IsWord}
use Rattle.bw_gate.specs.Pieces.{found_in}
use Rattle.bw_gate.specs.Table.{held_by}

-- the view after a step that found this word of a domain
abbrev pub with_found : ℕ → ℕ → View → View
with_found d n v = record v { found = v.found ++ found_in d (n ∷ []) }

-- the same, where the step has made this piece of the one in hand
abbrev pub made : Piece → ℕ → ℕ → View → View
made piece d n v = record v { pieces = piece ∷ []; found = v.found ++ found_in d (n ∷ []) }

-- the view after a step that set the limit of a domain, and left this word
abbrev pub with_limit_set : ℕ → ℕ → View → View
with_limit_set d n v = record v {
  found = v.found ++ found_in d (n ∷ []);
  limited_in = v.limited_in ++ d ∷ [];
}

-- a word that a view can find: what it carries as used has room for what the view's pieces hold of
-- it, and is at most the cap that it carries, which is one that the domain's CPUs can have
pub record IsFound (d : ℕ) (v : View) (n : ℕ) : Type 0 where
  pub room : held_by d v ≤ used_of n
  pub word : IsWord (cpus_in v.terms d) n

module _ {S : Type 0} where
  -- a step that only reads: no exchange, sum or store but of zeros has these numbers, and no word
  -- of a gate is zero. The rule leaves the cap free, so that each kind of step that is no limit
  -- says by its numbers that the cap stays
  abbrev pub Reads : Step S → Type 0
  Reads s = (s.first ≡ 0) × (s.second ≡ 0)

  -- load: the word stays
  abbrev pub Loads : Step S → Me S View → ℕ → Me S View → Type 0
  Loads s me n after =
      (IsFound s.word me.0 n × Reads s) × (after ≡ (with_found s.word n me.0, me.1))

  -- take: compare_exchange of `first` for `second`, which finds a sound word; where `first` was
  -- found, the blank has become a ticket of this domain and of the bandwidth that the word gained
  abbrev pub Takes : Step S → Me S View → ℕ → Me S View → Type 0
  Takes s me n after =
      ((cap_of s.second ≡ cap_of s.first) × IsWord (cpus_in me.0.terms s.word) n)
      × MatchBool (n == s.first)
      (after ≡ (made (Ticket s.word (s.second - s.first)) s.word n me.0, me.1))
      (after ≡ (with_found s.word n me.0, me.1))

  -- regrade: likewise; the ticket keeps its domain, and has the bandwidth that it had and what the
  -- word gained or lost
  abbrev pub Regrades : Step S → Me S View → ℕ → Me S View → Type 0
  Regrades s me n after =
      ((cap_of s.second ≡ cap_of s.first) × IsWord (cpus_in me.0.terms s.word) n)
      × MatchBool (n == s.first)
      (after
      ≡ (made (Ticket s.word (s.second + held_by s.word me.0 - s.first)) s.word n me.0, me.1))
      (after ≡ (with_found s.word n me.0, me.1))

  -- give: fetch_sub of the ticket's bandwidth; it has become a blank
  abbrev pub Gives : Step S → Me S View → ℕ → Me S View → Type 0
  Gives s me n after =
      (IsFound s.word me.0 n × (s.first ≡ held_by s.word me.0) × (s.second ≡ 0))
      × (after ≡ (made Blank s.word n me.0, me.1))

  -- limit: compare_exchange of `first` for `second`, by a blank that stays one; where `first` was
  -- found, the word that the step left is appended in its place
  abbrev pub Limits : Step S → Me S View → ℕ → Me S View → Type 0
  Limits s me n after =
      ((me.0.pieces ≡ Blank ∷ []) × IsWord (cpus_in me.0.terms s.word) n)
      × MatchBool (n == s.first)
      (after ≡ (with_limit_set s.word s.second me.0, me.1))
      (after ≡ (with_found s.word n me.0, me.1))

-- Beside these five, open splits pieces off, renew makes a piece as open deals it, and close joins
-- pieces, by loads that append nothing.

-- open: the first piece goes to a new seat, and the others stay
abbrev pub first_piece : View → View
first_piece v = record v { pieces = take 1 v.pieces }

abbrev pub other_pieces : View → View
other_pieces v = record v { pieces = drop 1 v.pieces }

-- renew: the piece has found nothing
abbrev pub without_found : View → View
without_found v = record v { found = [] }

abbrev pub Renews : {S : Type 0} → Step S → Me S View → ℕ → Me S View → Type 0
Renews s me n after = (after ≡ (without_found me.0, me.1)) × Reads s

-- close: a new seat comes, which has no piece and knows the terms
abbrev pub without_piece : View → View
without_piece v = record v { pieces = []; found = []; limited_in = [] }

abbrev pub Comes : {S : Type 0} → Step S → Me S View → ℕ → Me S View → Type 0
Comes s me n after = (after ≡ (without_piece me.0, me.1)) × Reads s

-- close: it takes the pieces of all other seats in, and each of these is left with none
abbrev pub with_pieces_of : View → View → View
with_pieces_of v w = record v {
  pieces = v.pieces ++ w.pieces;
  limited_in = v.limited_in ++ w.limited_in;
}

abbrev pub spent : View
spent = record {
  pieces = [];
  found = [];
  limited_in = [];
  terms = record { cpus = []; limits = []; pieces = 0 };
}
