-- A shifted domain keeps what every domain keeps.
use Rattle.std.proofs.Common.{◌≡◌, ℕ, ◌+◌, ◌<◌, ◌≤◌, ◌||◌, ◌&&◌, ltb, List, length, map, get_or, sym, ◌∙◌, subst, arith}
use Rattle.std.specs.Prelude.{All, IsTrue, ◌≢◌}
use Rattle.std.proofs.lemmas.List.{length-map}
use Rattle.std.proofs.lemmas.List.Elements.{All-map, All-weaker}
use Rattle.attr_check.specs.Ratio.{cap}
use Rattle.domain_run.specs.declared.task.Task.{Task}
use Rattle.domain_run.specs.Bounds.{IsEarly}
use Rattle.domain_run.specs.Switch.{Switch}
use Rattle.domain_run.specs.Switches.{is_switch_before}
use Rattle.domain_run.specs.Domain.{Domain}
use Rattle.domain_run.specs.Sound.{IsSound, IsSwitch, IsDomain, IsAdmitted}
use Rattle.domain_run.proofs.CallerLemmas.{AllPairs-map, sound_paced}
use Rattle.domain_run.specs.Later.{later_task, later_switch}
use Rattle.domain_run.specs.Shift.{Shift, shifted_task, shifted, MayShift, IsSoonAfter}
use Rattle.repeat_law.proofs.Lists.{lt_later, eq_later}
use Rattle.repeat_law.proofs.Paces.{by_pace, number_paced}
use Rattle.repeat_law.proofs.Ticking.{sum_over}

switch_later : (cpus time k : ℕ) (used : List ℕ) (s : Switch) → IsSwitch cpus time used s → IsSwitch cpus (time + k) used (later_switch k s)
switch_later cpus time k used s h = let past = h.past in record { past = omega (arith, past); inside = h.inside; prev = h.prev; next = h.next }

before_later : (k : ℕ) (a b : Switch) → IsTrue (is_switch_before a b) → IsTrue (is_switch_before (later_switch k a) (later_switch k b))
before_later k a b h =
    let l = lt_later a.time b.time k in
    let e = eq_later a.time b.time k in
    (λ i. l i || (e i && ltb a.cpu b.cpu)) ∙ h

module _ (s : Shift) where
  each : (P : Task → Type 0) (ts : List Task) → ((k r w : ℕ) (t : Task) → P t → P (later_task k r w t)) → All P ts → All P (map (shifted_task s) ts)
  each P ts keeps h = All-map P (shifted_task s) ts (All-weaker P (λ t. P (shifted_task s t)) (λ t is. by_pace P s.micros (s.pace t.number) t is (λ r w. keeps s.micros r w t is)) ts h)

  number_over : (t : Task) → (shifted_task s t).number ≡ t.number
  number_over t = number_paced s.micros (s.pace t.number) t

  pub kept_over : (d : Domain) → IsDomain d → MayShift s d.tasks → IsEarly (d.time + s.micros) → All (λ t. IsSoonAfter s.micros t.condition) d.tasks → IsDomain (shifted s d)
  kept_over d is may early soon =
      let y = is.steady in
      let k = s.micros in
      let f = shifted_task s in
      let many : length (map f d.tasks) ≡ length d.tasks = simp length-map in
      let listed = y.listed in
      record {
        steady = record {
          early = early;
          cpus = y.cpus;
          limit = y.limit;
          within = subst (λ x. x ≤ cap d.cpus d.limit) (sym (sum_over s d.tasks)) y.within;
          listed = omega (arith, many, listed);
          sound = All-map (IsSound (d.time + k)) f d.tasks (λ i x w. let t = get_or d.tasks i x in sound_paced k d.time (s.pace t.number) t (y.sound i x w) (may i x w) (soon i x w));
          homes = each (λ t. t.cpu < d.cpus) d.tasks (λ k r w t h. h) y.homes;
          numbered = AllPairs-map (λ a b. a.number ≢ b.number) f (λ a b h e. h (sym (number_over a) ∙ e ∙ number_over b)) d.tasks y.numbered;
          known = each (λ t. IsAdmitted d.used t.number) d.tasks (λ k r w t h. h) y.known;
          wide = y.wide;
          apart = y.apart;
        };
        traced = record {
          switches = All-map (IsSwitch d.cpus (d.time + k) d.used) (later_switch k) d.switches (All-weaker (IsSwitch d.cpus d.time d.used) (λ x. IsSwitch d.cpus (d.time + k) d.used (later_switch k x)) (λ x h. switch_later d.cpus d.time k d.used x h) d.switches is.traced.switches);
          rising = AllPairs-map (λ a b. IsTrue (is_switch_before a b)) (later_switch k) (λ a b h. before_later k a b h) d.switches is.traced.rising;
          on_cpu = is.traced.on_cpu;
        };
      }
