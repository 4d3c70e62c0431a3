-- What a domain says to an admission that is ready.
use Rattle.std.specs.Prelude.{◌≡◌}
use Rattle.domain_run.specs.declared.call.Reply.TheVariants as Reply
use Rattle.domain_run.specs.Domain.{Domain}
use Rattle.domain_run.specs.Calls.{reply_to, after_call}
use Rattle.domain_run.specs.Busy.{LacksRoomFor}
use Rattle.domain_run.specs.declared.call.Call.{Call}
use Rattle.domain_run.specs.declared.call.Reply.{Reply as Answer}
use Rattle.calls_text.specs.Limits.{IsCall}
use Rattle.call_book.specs.Book.{AdmissionView, admission}
use Rattle.call_book.specs.declared.book.prepared.Listing.{Listing}
use Rattle.call_book.specs.declared.book.prepared.Listing.TheVariants.{Listed, Busy, Full, Twice}

-- the domain answers this, and does what it answers
pub record ListingSays (old new : Domain) (a : AdmissionView) (answer : Answer) : Type 0 where
  pub reply : reply_to old (admission a) ≡ answer
  pub state : new ≡ after_call old (admission a)

-- the call, as it stands in a history
pub record IsCallOf (a : AdmissionView) (call : Call) : Type 0 where
  pub same : call ≡ admission a
  pub spelled : IsCall call

abbrev pub IsListing : Domain → Domain → AdmissionView → Listing → Type 0
IsListing old new a (Listed number call) =
    ListingSays old new a Reply.Admitted × (number ≡ a.number) × IsCallOf a call
IsListing old new a (Busy seen call) =
    ListingSays old new a (Reply.Busy seen) × LacksRoomFor old a.params.bw seen × IsCallOf a call
IsListing old new a (Full prepared) = ListingSays old new a Reply.Full × (prepared ≡ a)
IsListing old new a (Twice prepared) = ListingSays old new a Reply.Twice × (prepared ≡ a)
