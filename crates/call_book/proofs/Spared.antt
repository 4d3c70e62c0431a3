-- A book that hands out a blank for a task that comes has room for the task's ticket.
use Rattle.std.proofs.Common.{◌≡◌, ◌+◌, ◌<◌, ◌≤◌, Option, Some, None, List, [], ◌∷◌, ◌++◌, length, sym, ap, ◌∙◌, arith, length-append}
use Rattle.std.specs.Prelude.{IfNone}
use Rattle.std.specs.Option.{option_to_list}
use Rattle.std.proofs.lemmas.List.{length-map}
use Rattle.bw_gate.specs.Pieces.{BlankView}
use Rattle.domain_run.specs.Domain.{Domain}
use Rattle.domain_run.specs.Keys.{key_of}
use Rattle.call_book.specs.Pieces.{held_key, HoldsTickets}
use Rattle.call_book.specs.private.Stock.{StockView}

pub spared_room : (d : Domain) (old new : StockView) (blank : Option BlankView) → HoldsTickets d old.tickets → length d.tasks < 256 → new ≡ record old { blanks = new.blanks } → old.blanks ≡ new.blanks ++ option_to_list blank → IfNone blank (old.blanks ≡ []) → length old.tickets + length old.blanks ≤ 256 → length new.tickets + length new.blanks < 256
spared_room d old new None held few kept blanks none most =
    let tasks : length old.tickets ≡ length d.tasks = sym (length-map old.tickets held_key) ∙ ap length held ∙ length-map d.tasks key_of in
    let tickets : length new.tickets ≡ length old.tickets = ap (λ (s : StockView). length s.tickets) kept in
    let both = length-append new.blanks [] in
    let old_blanks = ap (λ (bs : List BlankView). length bs) blanks in
    let no_blanks = ap (λ (bs : List BlankView). length bs) none in
    omega (arith, tasks, tickets, few, both, old_blanks, no_blanks)
spared_room d old new (Some b) held few kept blanks none most =
    let tickets : length new.tickets ≡ length old.tickets = ap (λ (s : StockView). length s.tickets) kept in
    let both = length-append new.blanks (b ∷ []) in
    let old_blanks = ap (λ (bs : List BlankView). length bs) blanks in
    omega (arith, tickets, both, old_blanks, most)
