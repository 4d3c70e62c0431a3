use Rattle.std.proofs.Common.{◌≡◌, ℕ, List, length, sym, ap, subst, ◌∙◌, arith}
use Rattle.std.proofs.lemmas.List.{length-map}
use Rattle.std.proofs.lemmas.Grind.{common_steps}
use Rattle.session.specs.private.Closing.{IsClosingRoom}
use Rattle.session.proofs.session.Session.unlock.Goals as goal

pub shut-requires : goal.shut-requires
shut-requires g c = λ k x inside. (c.unlock_all-books.ensures.named k x inside).gate ∙ sym c.shared.invariant.0

pub pour_waiting-requires-clause-hands : goal.pour_waiting-requires-clause-hands
pour_waiting-requires-clause-hands g c = c.self.invariant.2

pub new-requires-clause-session : goal.new-requires-clause-session
new-requires-clause-session g c = c.self.invariant.0

pub new-requires-clause-gate : goal.new-requires-clause-gate
new-requires-clause-gate g c = c.shared.invariant.0

pub new-requires-clause-count : goal.new-requires-clause-count
new-requires-clause-count g c = c.unlock_all-books.ensures.count

pub new-requires-clause-named : goal.new-requires-clause-named
new-requires-clause-named g c = c.unlock_all-books.ensures.named

pub new-requires-clause-room : goal.new-requires-clause-room
new-requires-clause-room g c =
    let sets = c.shared.inside.cpu_sets in
    let count : c.len.result ≡ length g.N.Names.id.cpu_sets = c.len.ensures ∙ sets.ok.0 ∙ sym (length-map sets.items (λ v. v.items)) ∙ ap (λ (l : List (List ℕ)). length l) c.shared.invariant.1 in
    subst (λ (n : ℕ). IsClosingRoom n c.in-Ok.rooms.room) count c.in-Ok.ensures.room

pub new-requires-clause-blanks : goal.new-requires-clause-blanks
new-requires-clause-blanks g c = grind (arith, common_steps)

pub new-requires-clause-ending : goal.new-requires-clause-ending
new-requires-clause-ending g c = grind (arith, common_steps)

pub new-requires-clause-for_all : goal.new-requires-clause-for_all
new-requires-clause-for_all g c = grind (arith, common_steps)

pub new-requires-clause-limit : goal.new-requires-clause-limit
new-requires-clause-limit g c = grind (arith, common_steps)
