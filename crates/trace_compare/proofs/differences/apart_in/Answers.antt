use Rattle.std.proofs.Common.{sym, subst}
use Rattle.trace_compare.specs.Matched.{ArePartnersShort}
use Rattle.trace_compare.proofs.differences.apart_in.Goals as goal

pub apart_of-requires-clause-partners : goal.apart_of-requires-clause-partners
apart_of-requires-clause-partners c = subst ArePartnersShort (sym c.as_slice-2.ensures.value) c.requires.matching.partners
