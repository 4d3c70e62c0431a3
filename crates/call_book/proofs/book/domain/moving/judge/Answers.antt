use Rattle.std.proofs.Common.{◌≡◌, true, false, Some, refl, sym, ap, ◌∙◌}
use Rattle.domain_run.specs.declared.call.Reply.TheVariants as Reply
use Rattle.domain_run.specs.Domain.{Domain}
use Rattle.domain_run.specs.Calls.{admit_reply}
use Rattle.domain_run.specs.Views.{Moving, moving_in}
use Rattle.call_book.specs.Book.{BookView, state_of}
use Rattle.call_book.proofs.book.domain.moving.judge.Goals as goal

pub returns-then-not-is_of : goal.returns-then-not-is_of
returns-then-not-is_of c =
    let a = c.args.prepared.now in
    let to_state : c.to.inside.state ≡ state_of c.args.to.now = c.to.invariant.run ∙ ap (λ (b : BookView). state_of b) c.to.view_is in
    let from_state : c.from.inside.state ≡ state_of c.args.from.now = c.from.invariant.run ∙ ap (λ (b : BookView). state_of b) c.from.view_is in
    let task : Moving = record { name = c.in-Some.name.now; params = c.in-Some.params.now; script = c.in-Some.script.now } in
    let found : moving_in (state_of c.args.from.now) a.number ≡ Some task =
    ap (λ n. moving_in (state_of c.args.from.now) n) (sym c.number-number.ensures.number) ∙ ap (λ (d : Domain). moving_in d c.number-number.result) (sym from_state) ∙ sym c.in-Some.ensures.moving in (
      record {
        from_book = c.has_room.ensures.yes c.if-not-has_room.false;
        to_book = c.has_room-else-not-has_room.ensures.yes c.if-not-has_room-2.false;
        listed = λ e.
            let same : c.admit_reply-reply.result ≡ Reply.Full = c.admit_reply-reply.ensures.reply ∙ ap (λ (d : Domain). admit_reply d c.number-number.result c.params.result.now) to_state ∙ ap (λ n. admit_reply (state_of c.args.to.now) n c.params.result.now) c.number-number.ensures.number ∙ ap (λ p. admit_reply (state_of c.args.to.now) a.number p) c.params.ensures ∙ e in
            let yes = c.is_full.ensures.1 same in
            let no : true ≡ false = sym yes ∙ c.if-is_full.false in
            absurd cc;
      },
      record {
        task = task;
        found = found;
        differs = λ e.
            let yes = c.is_of.ensures.1 e in
            let no : true ≡ false = sym yes ∙ c.if-not-is_of.true in
            absurd cc;
        logged = refl;
      },
    )
