use Rattle.std.proofs.Common.{◌≡◌, ◌≢◌, ◌∙◌, ◌<◌, ℕ, None, get_or, length, refl, sym, ap, inl, inr, arith}
use Rattle.std.specs.Int.{bit_at}
use Rattle.std.proofs.lemmas.Bool.{cases_eq}
use Rattle.std.proofs.lemmas.List.{get_or-set_same, get_or-set_other}
use Rattle.std.proofs.lemmas.Nat.Bits.{bit_at-zero}
use Rattle.edf_pick.specs.Places.{Places}
use Rattle.edf_pick.proofs.settling.clear.Goals as goal

pub cpus-init : goal.cpus-init
cpus-init c = record {
  inside = λ k e. e;
  gone = λ k e bare. absurd (omega (arith, e, bare));
  others = λ k e. refl;
  len = refl;
  room = refl;
  taken = c.requires.taken;
}

pub cpus-preserved : goal.cpus-preserved
cpus-preserved c =
    let now = c.cpus.places.items in
    let new = c.vacate-marks.new.places.items in
    let i = c.first-cpu.result in
    let inv = c.cpus.invariant in
    let mark = c.first-cpu.ensures.marked in
    let left = bit_at c.without-ahead.result in
    let inside : i < length now = omega (arith, c.requires.within i (inv.inside i mark), inv.len) in
    let here : get_or new i None ≡ None = ap (λ (ps : Places). get_or ps i None) c.vacate-marks.ensures.places ∙ get_or-set_same now i None None inside in
    let there : (k : ℕ) → k ≢ i → get_or new k None ≡ get_or now k None = λ k apart. ap (λ (ps : Places). get_or ps k None) c.vacate-marks.ensures.places ∙ get_or-set_other now i k None None apart in
    let before : (k : ℕ) → left k ≡ 1 → k ≢ i = λ k e same. let both : left k ≡ 0 = ap left same ∙ c.without-ahead.ensures.bare in omega arith in
    let still : (k : ℕ) → left k ≡ 1 → bit_at c.cpus.ahead k ≡ 1 = λ k e. sym (c.without-ahead.ensures.others k (before k e)) ∙ e in
    record {
      len = c.vacate-marks.ensures.len ∙ inv.len;
      room = c.vacate-marks.ensures.room ∙ inv.room;
      inside = λ k e. inv.inside k (still k e);
      gone = λ k e bare. elim (cases_eq k i) [
        | inl same ↦ ap (λ (j : ℕ). get_or new j None) same ∙ here
        | inr apart ↦ there k apart ∙ inv.gone k e (sym (c.without-ahead.ensures.others k apart) ∙ bare)
      ];
      others = λ k e. there k (λ same. let one = inv.inside i mark in let zero : bit_at c.args.left i ≡ 0 = ap (bit_at c.args.left) (sym same) ∙ e in absurd (omega (arith, one, zero))) ∙ inv.others k e;
      taken = c.vacate-marks.ensures.taken;
    }

pub returns-clause-gone : goal.returns-clause-gone
returns-clause-gone c =
    let done : c.cpus.ahead ≡ 0 = omega arith in
    λ cpu e. c.cpus.invariant.gone cpu e (ap (λ (m : ℕ). bit_at m cpu) done ∙ bit_at-zero cpu)

-- (The rest is plain: written out, since a search would take long.)
pub first-cpu-requires : goal.first-cpu-requires
first-cpu-requires c = omega arith

pub without-ahead-requires : goal.without-ahead-requires
without-ahead-requires c = c.first-cpu.ensures.within

pub vacate-marks-requires-clause-within : goal.vacate-marks-requires-clause-within
vacate-marks-requires-clause-within c =
    let i = c.first-cpu.result in
    let inv = c.cpus.invariant in
    omega (arith, c.requires.within i (inv.inside i c.first-cpu.ensures.marked), inv.len)

pub vacate-marks-requires-clause-few : goal.vacate-marks-requires-clause-few
vacate-marks-requires-clause-few c = omega (arith, c.requires.few, c.cpus.invariant.len)

pub vacate-marks-requires-clause-taken : goal.vacate-marks-requires-clause-taken
vacate-marks-requires-clause-taken c = c.cpus.invariant.taken

pub cpus-smaller : goal.cpus-smaller
cpus-smaller c = c.without-ahead.ensures.fewer c.first-cpu.ensures.marked

pub returns-clause-others : goal.returns-clause-others
returns-clause-others c = c.cpus.invariant.others

pub returns-clause-len : goal.returns-clause-len
returns-clause-len c = c.cpus.invariant.len

pub returns-clause-room : goal.returns-clause-room
returns-clause-room c = c.cpus.invariant.room

pub returns-clause-taken : goal.returns-clause-taken
returns-clause-taken c = c.cpus.invariant.taken
