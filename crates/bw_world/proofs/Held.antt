-- What a live ticket holds is within the word.
use Rattle.std.proofs.Common.{◌≡◌, ◌≤◌, ℕ, Some, arith}
use Rattle.bw_world.specs.declared.ticket.Ticket.{Ticket}
use Rattle.bw_world.specs.declared.ticket.Task.{Task}
use Rattle.bw_world.specs.WorldView.{DomainView}
use Rattle.bw_world.specs.DomainStep.{in_hand_of, admitted_of}
use Rattle.bw_world.specs.ExactWord.{IsExactDomain}
use Rattle.bw_world.proofs.Counted.{found_adds}

pub in_hand_within : (d : DomainView) (id : ℕ) (t : Ticket) → IsExactDomain d → in_hand_of id d ≡ Some t → t.bw ≤ d.used
in_hand_within d id t exact found = omega (arith, exact.sum, found_adds (λ (x : Ticket). x.bw) _ d.in_hand t found)

pub admitted_within : (d : DomainView) (id : ℕ) (t : Task) → IsExactDomain d → admitted_of id d ≡ Some t → t.bw ≤ d.used
admitted_within d id t exact found = omega (arith, exact.sum, found_adds (λ (x : Task). x.bw) _ d.admitted t found)
