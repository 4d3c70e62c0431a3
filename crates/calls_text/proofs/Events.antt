-- An event at the front of a text, and what follows the comma after it.
use Rattle.std.proofs.Common.{◌≡◌, ℕ, ◌-◌, ◌<◌, ◌≤◌, List, [], ◌∷◌, ◌++◌, take, drop, length, get_or, Option, Some, None, refl, sym, ap, ◌∙◌, append-nil, inl, inr, ◌⊎◌, arith}
use Rattle.std.specs.Prelude.{decimal}
use Rattle.task_script.specs.declared.phase.Event.{Event}
use Rattle.task_script.specs.declared.phase.Event.TheVariants.{Run, Sleep, Timer, Wait}
use Rattle.calls_text.specs.Spelling.{event_text}
use Rattle.calls_text.specs.declared.fault.PartFault.{PartFault}
use Rattle.calls_text.specs.declared.fault.PartFault.TheVariants.{Bad, Memory}
use Rattle.calls_text.specs.private.Reading.{PartFails, NoDigit, IsFirstNumber, IsFirstEvent, event_first_at}
use Rattle.calls_text.proofs.Cuts.{rest_is, front_byte, cut_again}
use Rattle.calls_text.proofs.Numbers.{none_by}
use Rattle.calls_text.proofs.Scripts.{event_again, event_lacks, comma, reads_events}

-- what stands after the first byte
abbrev pub later_first : List ℕ → List ℕ
later_first text = take (length text - 1) (drop 1 text)

-- the byte that an event begins with
abbrev letter : Event → ℕ
letter (Run n) = 114
letter (Sleep n) = 115
letter (Timer n) = 116
letter Wait = 119

begins : (text : List ℕ) (e : Event) (rest : List ℕ) → IsFirstEvent text e rest → get_or text 0 0 ≡ letter e
begins text (Run n) rest f = ap (λ (xs : List ℕ). get_or xs 0 0) f.text_is
begins text (Sleep n) rest f = ap (λ (xs : List ℕ). get_or xs 0 0) f.text_is
begins text (Timer n) rest f = ap (λ (xs : List ℕ). get_or xs 0 0) f.text_is
begins text Wait rest f = ap (λ (xs : List ℕ). get_or xs 0 0) f.text_is

-- after the letter this number stands, and then the rest: no other, whichever may follow
abbrev pub Numbered : List ℕ → ℕ → List ℕ → Type 0
Numbered text m tail = (n : ℕ) (rest : List ℕ) → IsFirstNumber 1 1000000000 (later_first text) n rest → NoDigit rest → (m ≡ n) × (tail ≡ rest)

number_after : (c n : ℕ) (text rest : List ℕ) → text ≡ c ∷ (decimal n ++ rest) → (0 < n) × (n ≤ 1000000000) → IsFirstNumber 1 1000000000 (later_first text) n rest
number_after c n text rest is within = record { text_is = ap later_first is ∙ rest_is 1 (c ∷ (decimal n ++ rest)); low = omega (arith, within.0); high = within.1 }

pub run_found : (text : List ℕ) (m : ℕ) (tail : List ℕ) → get_or text 0 0 ≡ 114 → Numbered text m tail → (e : Event) (rest : List ℕ) → IsFirstEvent text e rest → NoDigit rest → (Run m ≡ e) × (tail ≡ rest)
run_found text m tail is number (Run n) rest f none = let r = number n rest (number_after 114 n text rest f.text_is f.is) none in (ap (λ (k : ℕ). Run k) r.0, r.1)
run_found text m tail is number (Sleep n) rest f none = absurd (omega (arith, is, begins text (Sleep n) rest f))
run_found text m tail is number (Timer n) rest f none = absurd (omega (arith, is, begins text (Timer n) rest f))
run_found text m tail is number Wait rest f none = absurd (omega (arith, is, begins text Wait rest f))

pub sleep_found : (text : List ℕ) (m : ℕ) (tail : List ℕ) → get_or text 0 0 ≡ 115 → Numbered text m tail → (e : Event) (rest : List ℕ) → IsFirstEvent text e rest → NoDigit rest → (Sleep m ≡ e) × (tail ≡ rest)
sleep_found text m tail is number (Sleep n) rest f none = let r = number n rest (number_after 115 n text rest f.text_is f.is) none in (ap (λ (k : ℕ). Sleep k) r.0, r.1)
sleep_found text m tail is number (Run n) rest f none = absurd (omega (arith, is, begins text (Run n) rest f))
sleep_found text m tail is number (Timer n) rest f none = absurd (omega (arith, is, begins text (Timer n) rest f))
sleep_found text m tail is number Wait rest f none = absurd (omega (arith, is, begins text Wait rest f))

pub timer_found : (text : List ℕ) (m : ℕ) (tail : List ℕ) → get_or text 0 0 ≡ 116 → Numbered text m tail → (e : Event) (rest : List ℕ) → IsFirstEvent text e rest → NoDigit rest → (Timer m ≡ e) × (tail ≡ rest)
timer_found text m tail is number (Timer n) rest f none = let r = number n rest (number_after 116 n text rest f.text_is f.is) none in (ap (λ (k : ℕ). Timer k) r.0, r.1)
timer_found text m tail is number (Run n) rest f none = absurd (omega (arith, is, begins text (Run n) rest f))
timer_found text m tail is number (Sleep n) rest f none = absurd (omega (arith, is, begins text (Sleep n) rest f))
timer_found text m tail is number Wait rest f none = absurd (omega (arith, is, begins text Wait rest f))

pub wait_found : (text : List ℕ) → get_or text 0 0 ≡ 119 → (e : Event) (rest : List ℕ) → IsFirstEvent text e rest → NoDigit rest → (Wait ≡ e) × (later_first text ≡ rest)
wait_found text is Wait rest f none = (refl, ap later_first f.text_is ∙ rest_is 1 (119 ∷ rest))
wait_found text is (Run n) rest f none = absurd (omega (arith, is, begins text (Run n) rest f))
wait_found text is (Sleep n) rest f none = absurd (omega (arith, is, begins text (Sleep n) rest f))
wait_found text is (Timer n) rest f none = absurd (omega (arith, is, begins text (Timer n) rest f))

-- a letter, a number and the rest
pub spelled_by : (c m : ℕ) (text tail : List ℕ) → 1 ≤ length text → get_or text 0 0 ≡ c → IsFirstNumber 1 1000000000 (later_first text) m tail → text ≡ c ∷ (decimal m ++ tail)
spelled_by c m text tail some is number = front_byte c text some is ∙ ap (λ (xs : List ℕ). c ∷ xs) number.text_is

pub within_by : (m : ℕ) (text tail : List ℕ) → IsFirstNumber 1 1000000000 text m tail → (0 < m) × (m ≤ 1000000000)
within_by m text tail number = (omega (arith, number.low), number.high)

abbrev pub found_with : Event → Option (List ℕ) → Option (Event × Option (List ℕ))
found_with e rest = Some (e, rest)

pub alone : (text : List ℕ) (e : Event) (rest : List ℕ) → length rest < 1 → IsFirstEvent text e rest → event_first_at text ≡ found_with e None
alone text e [] none f = ap event_first_at (f.text_is ∙ append-nil (event_text e)) ∙ reads_events.last e f.is
alone text e (x ∷ rest) none f = absurd (omega (arith, none))

pub before_comma : (text : List ℕ) (e : Event) (after : List ℕ) → 1 ≤ length after → get_or after 0 0 ≡ 44 → IsFirstEvent text e after → event_first_at text ≡ found_with e (Some (later_first after))
unfolding event_first_at
before_comma text e after some first f =
    let whole : text ≡ event_text e ++ 44 ∷ later_first after = f.text_is ∙ ap (λ (xs : List ℕ). event_text e ++ xs) (front_byte 44 after some first) in
    rw (whole, cut_again 44 (event_text e) (later_first after) (event_lacks 44 e comma f.is), event_again e f.is) refl

-- an event stands at the front, and nothing or a comma after it
pub record Took (text : List ℕ) (e : Event) (rest : List ℕ) : Type 0 where
  pub first : IsFirstEvent text e rest
  pub none : NoDigit rest
  pub ends : (length rest ≡ 0) ⊎ (get_or rest 0 0 ≡ 44)

-- so it is where an event is read
took : (text : List ℕ) (e : Event) (rest : Option (List ℕ)) → event_first_at text ≡ found_with e rest → (r : List ℕ) × Took text e r
took text e None h =
    let t = reads_events.takes text e None h in
    ([], record { first = record { text_is = t.1 ∙ sym (append-nil (event_text e)); is = t.0 }; none = tt; ends = inl refl })
took text e (Some rest) h =
    let t = reads_events.takes text e (Some rest) h in
    (44 ∷ rest, record { first = record { text_is = t.1; is = t.0 }; none = refl; ends = inr refl })

pub no_event : (text : List ℕ) → ((e : Event) (rest : List ℕ) → Took text e rest → ⊥) → event_first_at text ≡ None
no_event text none = none_by (event_first_at text) (λ p h. let t = took text p.0 p.1 h in none p.0 t.0 t.1)

pub bad_event : (text : List ℕ) (fault : PartFault) → ((e : Event) (rest : List ℕ) → Took text e rest → ⊥) → PartFails fault (event_first_at text)
bad_event text Memory none = tt
bad_event text Bad none = no_event text none
