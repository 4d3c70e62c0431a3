-- Which client asks for which task of a scenario, and what all of them are answered (own).
use Rattle.std.specs.Prelude.{◌≡◌, ℕ, ◌+◌, ◌-◌, ◌<◌, ◌==◌, ◌%◌, Bool, List, length, map, filter}
use Rattle.std.specs.Prelude.{filter_map, Option, Some, None, Ok, Err, All, slice_index_or}
use Rattle.std.specs.Option.{option_map}
use Rattle.domain_run.specs.declared.call.Reply.TheVariants as replies
use Rattle.rtapp_scenario.specs.ScenarioView.{TaskSpecView}
use Rattle.session.specs.declared.refusal.Refusal.{Refusal}
use Rattle.session.specs.declared.refusal.Refusal.TheVariants as refusals
use Rattle.session.specs.SessionId.{SessionId}
use Rattle.session.specs.Asks.{Answer, ClientView, IsLawful, Asked, Asks}
use Rattle.session.specs.Clients.{IsNew}

-- task k is asked for by client 1 + (k - 1) mod n, here counted from 0
abbrev pub is_own : ℕ → ℕ → Asked → Bool
is_own n i q = (q.task.number - 1) % n == i

abbrev pub own_asked : ℕ → ℕ → List Asked → List Asked
own_asked n i asked = filter (is_own n i) asked

-- a refusal, and EBUSY of the book too
abbrev pub refused_with : Answer → Option Refusal
refused_with (Err refusal) = Some refusal
refused_with (Ok (replies.Busy seen)) = Some (refusals.Busy seen)
refused_with (Ok _) = None

-- the refused tasks by number, in the order of tasks
abbrev pub refused_in : List Asked → List (ℕ × Refusal)
refused_in asked =
    filter_map (λ q. option_map (λ r. (q.task.number, r)) (refused_with q.answer)) asked

-- the clients 1, 2, .., which have entered nothing
pub record AreNew (id : SessionId) (clients : List ClientView) : Type 0 where
  pub count : length clients ≡ id.clients
  pub each : (i : ℕ) (x : ClientView) → i < length clients
      → IsNew id (i + 1) (slice_index_or clients i x)

-- there is a lawful answer for each task; the refusals are those among the answers; and each client
-- asked for its own tasks, in their order, and got their answers
pub record AllAsked (id : SessionId) (tasks : List TaskSpecView) (before after : List ClientView)
    (refused : List (ℕ × Refusal)) : Type 0 where
  pub asked : List Asked
  pub tasks_are : map (λ q. q.task) asked ≡ tasks
  pub lawful : All (λ q. IsLawful id q.task q.answer) asked
  pub refused_are : refused ≡ refused_in asked
  pub places : length after ≡ length before
  pub each : (i : ℕ) (x : ClientView) → i < length before
      → Asks id (slice_index_or before i x) (slice_index_or after i x)
      (own_asked (length before) i asked)
