use Rattle.std.proofs.Common.{◌≡◌, ◌<◌, ◌+◌, ◌^◌, ℕ, length, arith, ap, ◌∙◌, subst, sym}
use Rattle.counted_io.specs.Calls.{IsWriting}
use Rattle.counted_io.proofs.Known.{Appends-next, Appends-all, Appends-kept, rest_length}
use Rattle.counted_io.proofs.Asked.{write_on, write_stop}
use Rattle.counted_io.proofs.counted.Counted.write_all.Goals as goal

pub write-requires : goal.write-requires
write-requires g c =
    let long = rest_length c.args.bytes.now c.loop-at.at in
    record { some = omega (arith, long); faults = subst (λ n. n < 2 ^ 63) (sym c.loop-at.invariant.faults) c.requires }

pub loop-at-preserved : goal.loop-at-preserved
loop-at-preserved g c =
    let long = rest_length c.args.bytes.now c.loop-at.at in
    record {
      taken = Appends-next _ _ _ c.args.bytes.now c.loop-at.at c.in-Some.n c.loop-at.invariant.taken c.in-Some.ensures.taken;
      within = omega (arith, c.in-Some.ensures.count.1, long);
      faults = c.in-Some.ensures.faults ∙ c.loop-at.invariant.faults;
      empty = λ none. absurd (omega (arith, none));
      asked = write_on _ _ _ _ _ _ c.in-Some.n c.loop-at.invariant.asked c.in-Some.ensures.asked.1 long c.in-Some.ensures.asked.2 c.in-Some.ensures.count.0;
    }

pub returns-in-None : goal.returns-in-None
returns-in-None g c = record {
  ok = tt;
  err = record { taken = Appends-kept _ _ _ _ c.loop-at.invariant.taken c.in-None.ensures.kept; some_left = omega arith };
  empty = λ none. absurd (omega (arith, none));
  faults = c.in-None.ensures.faults ∙ ap (λ n. n + 1) c.loop-at.invariant.faults;
  asked = write_stop _ _ _ _ _ _ c.loop-at.invariant.asked c.in-None.ensures.asked.1 (rest_length c.args.bytes.now c.loop-at.at) c.in-None.ensures.asked.2;
}

pub returns : goal.returns
returns g c =
    let r = c.loop-at.invariant.asked in
    let all : c.loop-at.at ≡ length c.args.bytes.now = omega (arith, c.loop-at.invariant.within) in
    record {
      ok = Appends-all _ _ c.args.bytes.now c.loop-at.at all c.loop-at.invariant.taken;
      err = tt;
      empty = c.loop-at.invariant.empty;
      faults = c.loop-at.invariant.faults;
      asked = (r.calls, r.since, subst (λ (k : ℕ). IsWriting (length c.args.bytes.now) k r.calls) all r.written);
    }
