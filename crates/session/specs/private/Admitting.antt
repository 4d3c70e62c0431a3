-- Admissions under way: what each client was answered, and what is put together of it.
use Rattle.std.specs.Prelude.{◌≡◌, ℕ, ◌-◌, ◌<◌, ◌≤◌, ◌==◌, ◌%◌, Bool, List, [], ◌∷◌, length, map, filter, slice_index_or}
use Rattle.rtapp_scenario.specs.ScenarioView.{TaskSpecView}
use Rattle.session.specs.declared.refusal.Refusal.{Refusal}
use Rattle.session.specs.SessionId.{SessionId}
use Rattle.session.specs.Asks.{Answer, ClientView, Asked, Asks}
use Rattle.session.specs.Admissions.{own_asked, refused_in}

-- the tasks of the client at a place among so many, which are counted from 0
abbrev pub is_own_task : ℕ → ℕ → TaskSpecView → Bool
is_own_task n i t = (t.number - 1) % n == i

abbrev pub own_tasks : ℕ → ℕ → List TaskSpecView → List TaskSpecView
own_tasks n i tasks = filter (is_own_task n i) tasks

-- each task with its answer
abbrev pub with_answers : List TaskSpecView → List Answer → List Asked
with_answers [] answers = []
with_answers (t ∷ tasks) [] = []
with_answers (t ∷ tasks) (a ∷ answers) =
    record { task = t; answer = a } ∷ with_answers tasks answers

-- there is an answer for each
abbrev pub AreAnswers : ℕ → ℕ → List TaskSpecView → List Answer → Type 0
AreAnswers n i tasks answers = length answers ≡ length (own_tasks n i tasks)

-- the client at a place among so many asked for its own tasks, in their order, and got these
-- answers
pub record AsksOwn (id : SessionId) (n i : ℕ) (tasks : List TaskSpecView) (c c' : ClientView)
    (answers : List Answer) : Type 0 where
  pub each : AreAnswers n i tasks answers
  pub asks : Asks id c c' (with_answers (own_tasks n i tasks) answers)

-- a client at its place among so many, with room for so many answers
pub record SeatView : Type 0 where
  pub client : ClientView
  pub place : ℕ
  pub many : ℕ
  pub room : ℕ

-- there is room for the answers to its own tasks
abbrev pub HasRoom : List TaskSpecView → SeatView → Type 0
HasRoom tasks s = length (own_tasks s.many s.place tasks) ≤ s.room

-- a client that asked for the tasks of its seat
abbrev pub AsksSeat : SessionId → List TaskSpecView → SeatView → ClientView → List Answer → Type 0
AsksSeat id tasks s c answers = AsksOwn id s.many s.place tasks s.client c answers

-- a client at its place
pub record IsSeat (tasks : List TaskSpecView) (n i : ℕ) (c : ClientView)
    (s : SeatView) : Type 0 where
  pub client : s.client ≡ c
  pub place : s.place ≡ i
  pub many : s.many ≡ n
  pub room : HasRoom tasks s

-- the clients in their order, each at its place
pub record HaveSeats (tasks : List TaskSpecView) (clients : List ClientView)
    (seats : List SeatView) : Type 0 where
  pub count : length seats ≡ length clients
  pub each : (i : ℕ) (x : ClientView) (s : SeatView) → i < length clients
      → IsSeat tasks (length clients) i (slice_index_or clients i x) (slice_index_or seats i s)

-- the client of each seat has asked
pub record AreAsked (id : SessionId) (tasks : List TaskSpecView) (seats : List SeatView)
    (clients : List ClientView) (shares : List (List Answer)) : Type 0 where
  pub count : length clients ≡ length seats
  pub shared : length shares ≡ length seats
  pub each : (i : ℕ) (s : SeatView) (x : ClientView) → i < length seats
      → AsksSeat id tasks (slice_index_or seats i s) (slice_index_or clients i x)
      (slice_index_or shares i [])

-- the clients' answers put together: one for each task; those of the tasks of each client are its
-- own; and the refusals are those among them
pub record IsUnion (tasks : List TaskSpecView) (shares : List (List Answer))
    (refused : List (ℕ × Refusal)) : Type 0 where
  pub asked : List Asked
  pub tasks_are : map (λ q. q.task) asked ≡ tasks
  pub refused_are : refused ≡ refused_in asked
  pub own : (i : ℕ) (x : List Answer) → i < length shares
      → own_asked (length shares) i asked
      ≡ with_answers (own_tasks (length shares) i tasks) (slice_index_or shares i x)
