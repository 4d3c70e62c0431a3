-- An empty domain keeps what every domain keeps.
use Rattle.std.proofs.Common.{◌≡◌, ℕ, ◌<◌, ◌≤◌, Option, Some, None, get_or, replicate, sym, ◌∙◌, arith, inl, inr}
use Rattle.std.proofs.lemmas.Bool.{cases_lt}
use Rattle.std.proofs.lemmas.List.{length-replicate, get_or-replicate, get_or_past}
use Rattle.std.proofs.lemmas.List.Elements.{All-nil}
use Rattle.domain_run.specs.Domain.{empty_domain}
use Rattle.domain_run.specs.Sound.{IsSteady, IsDomain, HasNoTaskTwice}

-- no task runs anywhere
nobody_at : (n i : ℕ) → get_or (replicate n (let none : Option ℕ = None in none)) i None ≡ None
nobody_at n i =
    let nothing : Option ℕ = None in
    elim (cases_lt i n) [
      | inl h ↦ get_or-replicate n i nothing nothing h
      | inr h ↦ get_or_past (replicate n nothing) i nothing (omega (arith, length-replicate n nothing))
    ]

pub nobody_twice : (n : ℕ) → HasNoTaskTwice (replicate n None)
nobody_twice n = record { once = λ i j k a b. let no : None ≡ Some k = sym (nobody_at n i) ∙ a in absurd cc }

opened_steady : (cpus limit : ℕ) → 0 < cpus → cpus ≤ 64 → 10485 ≤ limit → limit ≤ 1048576 → IsSteady (empty_domain cpus limit)
opened_steady cpus limit some few low high = record {
  early = omega arith;
  cpus = (some, few);
  limit = (low, high);
  within = omega arith;
  listed = omega arith;
  sound = All-nil _;
  homes = All-nil _;
  numbered = λ i j d a b. absurd (omega arith);
  known = All-nil _;
  wide = length-replicate cpus None;
  apart = nobody_twice cpus;
}

pub opened_is : (cpus limit : ℕ) → 0 < cpus → cpus ≤ 64 → 10485 ≤ limit → limit ≤ 1048576 → IsDomain (empty_domain cpus limit)
opened_is cpus limit some few low high = record {
  steady = opened_steady cpus limit some few low high;
  traced = record {
    switches = All-nil _;
    rising = λ i j d a b. absurd (omega arith);
    on_cpu = λ cpu n e. let no : None ≡ Some n = sym (nobody_at cpus cpu) ∙ e in absurd cc;
  };
}
