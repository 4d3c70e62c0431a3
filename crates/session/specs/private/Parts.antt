-- What the parts of a session keep before it is opened.
use Rattle.std.specs.Prelude.{◌≡◌, ℕ, ◌+◌, ◌<◌, ◌≤◌, List, [], length, map, true, Option, is_some, IfSome, All, replicate, vec_capacity, slice_index, slice_index_or}
use Rattle.atomic_table.specs.Seated.{TableId}
use Rattle.pass_seats.specs.Lists.{PassView}
use Rattle.bw_gate.specs.Pieces.{GateId, BlankView}
use Rattle.calls_text.specs.declared.section.Entry.{Entry}
use Rattle.call_book.specs.Book.{BookView}
use Rattle.session.specs.declared.parts.Hand.{Hand}
use Rattle.session.specs.SessionId.{SessionId, IsSession}
use Rattle.session.specs.private.Entering.{IsSessionBook}

-- the passes of a client with which nothing was entered
abbrev pub new_passes : List TableId → ℕ → List (PassView Entry)
new_passes spines client = map (λ s. record { spine = s; client = client; entries = [] }) spines

-- the hand of a client: a new pass of each domain's book, and a piece of the gate
pub record IsHand (gate : GateId) (spines : List TableId) (client : ℕ) (h : Hand) : Type 0 where
  pub passes : h.passes.items ≡ new_passes spines client
  pub own : IfSome h.blank (λ b. b.gate ≡ gate)

-- the hands of the clients 1, 2, .. that were not given out
abbrev pub AreHands : GateId → List TableId → List (Option Hand) → Type 0
AreHands gate spines hands =
    (i : ℕ) (x : Option Hand) → i < length hands
    → IfSome (slice_index_or hands i x) (IsHand gate spines (i + 1))

-- room for so many passes in each hand, and for one more than it has
abbrev pub HaveRoom : ℕ → List (Option Hand) → Type 0
HaveRoom n hands =
    (i : ℕ) (x : Option Hand) → i < length hands
    → IfSome (slice_index_or hands i x) (λ h. n ≤ vec_capacity h.passes)

abbrev pub HaveRoomForOne : List (Option Hand) → Type 0
HaveRoomForOne hands =
    (i : ℕ) (x : Option Hand) → i < length hands
    → IfSome (slice_index_or hands i x) (λ h. length h.passes.items < vec_capacity h.passes)

-- the new passes of a book, of the clients 1, 2, ..
abbrev pub AreNewPasses : TableId → List (PassView Entry) → Type 0
AreNewPasses spine passes =
    (k : ℕ) (x : PassView Entry) → k < length passes
    → slice_index_or passes k x ≡ record { spine = spine; client = k + 1; entries = [] }

-- the book of a domain of a gate
pub record IsBookOf (gate : GateId) (d cpus limit clients room workers : ℕ)
    (b : BookView) : Type 0 where
  pub of_gate : b.gate ≡ gate
  pub of_domain : b.domain ≡ d
  pub has_cpus : b.cpus ≡ cpus
  pub has_limit : b.limit ≡ limit
  pub has_clients : b.clients ≡ clients
  pub has_room : b.room ≡ room
  pub has_workers : b.workers ≡ workers

abbrev pub AreBooks : GateId → List ℕ → ℕ → ℕ → ℕ → ℕ → List BookView → Type 0
AreBooks gate domains limit clients room workers books =
    (d : ℕ) (x : BookView) → d < length books
    → IsBookOf gate d (slice_index domains d) limit clients room workers
    (slice_index_or books d x)

-- the books of the domains 0, 1, ..
abbrev pub AreSessionBooks : SessionId → List BookView → Type 0
AreSessionBooks id books =
    (d : ℕ) (x : BookView) → d < length books → IsSessionBook id d (slice_index_or books d x)

abbrev pub AreBlanksOf : GateId → List BlankView → Type 0
AreBlanksOf gate blanks = All (λ b. b.gate ≡ gate) blanks

-- the session that these parts make
abbrev pub id_of : GateId → List BookView → List (List ℕ) → ℕ → ℕ → ℕ → ℕ → SessionId
id_of gate books cpu_sets limit clients room workers = record {
  gate = gate;
  spines = map (λ b. b.spine) books;
  cpu_sets = cpu_sets;
  limit = limit;
  clients = clients;
  max_calls = room;
  workers = workers;
}

pub record AreParts (id : SessionId) (books : List BookView) (hands : List (Option Hand))
    (pool : List BlankView) : Type 0 where
  pub session : IsSession id
  pub named : AreSessionBooks id books
  pub some : map is_some hands ≡ replicate id.clients true
  pub dealt : AreHands id.gate id.spines hands
  pub own : AreBlanksOf id.gate pool
