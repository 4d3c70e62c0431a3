-- What the parts of the reader answer, as functions of lists. No public clause names them.
use Rattle.std.specs.Prelude.{◌≡◌, ℕ, zero, suc, ◌≤◌, ◌<◌, ◌+◌, ◌-◌, ◌*◌, Bool, true, false, not, ◌==◌, ◌&&◌, ◌||◌, nat_lt, nat_le, if◌then◌else◌, List, [], ◌∷◌, ◌++◌, length, slice_index, Option, Some, None, Result, Ok, Err, codes, decimal}
use Rattle.std.specs.Option.{option_map_or}
use Rattle.std.specs.Result.{result_ok}
use Rattle.std.specs.Char.{is_ascii_digit}
use Rattle.std.specs.Str.{bytes_eq}
use Rattle.std.specs.List.{before_first, after_first, position_or_len, list_all, flat_map}
use Rattle.attr_check.specs.ParamsView.{ParamsView}
use Rattle.attr_check.specs.Accepted.{accepted}
use Rattle.task_script.specs.declared.phase.Event.{Event}
use Rattle.task_script.specs.declared.phase.Event.TheVariants.{Run, Sleep, Timer, Wait}
use Rattle.task_script.specs.script.ScriptView.{PhaseView, ScriptView, IsEvent, script_of}
use Rattle.domain_run.specs.declared.call.Call.{Call}
use Rattle.domain_run.specs.declared.call.Call.TheVariants.{Admit, Regrade, Wake, Leave, Advance, Limit, Depart, Arrive}
use Rattle.calls_text.specs.declared.fault.PartFault.{PartFault}
use Rattle.calls_text.specs.declared.fault.PartFault.TheVariants.{Bad, Memory}
use Rattle.calls_text.specs.declared.times.Times.{Times}
use Rattle.calls_text.specs.declared.line_text.Newcomer.{Newcomer}
use Rattle.calls_text.specs.declared.line_text.Word.{Word}
use Rattle.calls_text.specs.declared.line_text.Word.TheVariants as word
use Rattle.calls_text.specs.declared.section.Entry.{Entry}
use Rattle.calls_text.specs.SectionView.{SectionView}
use Rattle.calls_text.specs.Spelling.{domain_line, section_lines, is_later, some_later, has_later, text_of, event_text}
use Rattle.calls_text.specs.Limits.{IsClient}
use Rattle.calls_text.specs.ReadSoFar.{KnowsLater, LacksEntry, IsSectionRead, SectionsSoFar, last_full}
use Rattle.limits.specs.Limits.{unit, least_limit, max_advance, max_script_number, max_history}

-- ---- what a part of the reader answers, seen by view, unless memory ran out

abbrev pub PartFails : {Y : Type 0} → PartFault → Option Y → Type 0
PartFails Memory read = Unit {0}
PartFails Bad read = read ≡ None

abbrev pub PartGives : {X Y : Type 0} → (X → Y) → Result X PartFault → Option Y → Type 0
PartGives view (Ok x) read = read ≡ Some (view x)
PartGives view (Err e) read = PartFails e read

infixl 10 ◌>>=◌
abbrev pub ◌>>=◌ : {A B : Type 0} → Option A → (A → Option B) → Option B
None >>= f = None
(Some x) >>= f = f x

-- ---- parts of a text

-- what stands before and after the first byte of this code
unfoldable pub cut_at : ℕ → List ℕ → Option (List ℕ × List ℕ)
cut_at c text =
    if nat_lt (position_or_len (λ b. b == c) text) (length text)
    then Some (before_first (λ b. b == c) text, after_first (λ b. b == c) text) else None

-- ---- numbers

-- digits from the left, after the number so far
abbrev pub digits_on : ℕ → List ℕ → Option ℕ
digits_on n [] = Some n
digits_on n (c ∷ cs) = if is_ascii_digit c then digits_on (n * 10 + (c - 48)) cs else None

-- at most 19 digits, and no zero in front of another digit
abbrev pub is_short : List ℕ → Bool
is_short text =
    nat_lt 0 (length text) && nat_le (length text) 19
    && (nat_le (length text) 1 || not (slice_index text 0 == 48))

unfoldable pub number_parsed : List ℕ → Option ℕ
number_parsed text = if is_short text then digits_on 0 text else None

unfoldable pub number_within_at : ℕ → ℕ → List ℕ → Option ℕ
number_within_at least most text = do
  n ← number_parsed text
  if nat_le least n && nat_le n most then Some n else None

-- the number of the digits at the front, after the number so far, and what follows them
abbrev pub digits_front : ℕ → List ℕ → ℕ × List ℕ
digits_front n [] = (n, [])
digits_front n (c ∷ cs) =
    if is_ascii_digit c then digits_front (n * 10 + (c - 48)) cs else (n, c ∷ cs)

-- no digit stands at the front
abbrev pub NoDigit : List ℕ → Type 0
NoDigit [] = Unit {0}
NoDigit (c ∷ cs) = is_ascii_digit c ≡ false

-- the text is that of a number within these bounds, and then the rest
pub record IsFirstNumber (least most : ℕ) (text : List ℕ) (n : ℕ) (rest : List ℕ) : Type 0 where
  pub text_is : text ≡ decimal n ++ rest
  pub low : least ≤ n
  pub high : n ≤ most

-- ---- scripts

-- an event of so many microseconds
abbrev pub lasting_at : (ℕ → Event) → List ℕ → Option Event
lasting_at event digits = number_within_at 1 max_script_number digits >>= λ n. Some (event n)

unfoldable pub event_parsed : List ℕ → Option Event
event_parsed [] = None
event_parsed (c ∷ digits) =
    if c == 114 then lasting_at Run digits
    else (if c == 115 then lasting_at Sleep digits
    else (if c == 116 then lasting_at Timer digits
    else (if c == 119 && length digits == 0 then Some Wait else None)))

-- the text is that of an event, and then the rest
pub record IsFirstEvent (text : List ℕ) (e : Event) (rest : List ℕ) : Type 0 where
  pub text_is : text ≡ event_text e ++ rest
  pub is : IsEvent e

-- an item and what follows it, again and again, at most so many times
unfoldable pub many_at : {X : Type 0} → (List ℕ → Option (X × Option (List ℕ))) → ℕ → List ℕ
    → Option (List X)
many_at item zero text = None
many_at item (suc most) text = do
  first ← item text
  option_map_or (λ rest. many_at item most rest >>= λ others. Some (first.0 ∷ others)) first.1
      (Some (first.0 ∷ []))

-- an event, and what follows the comma after it
unfoldable pub event_first_at : List ℕ → Option (Event × Option (List ℕ))
event_first_at text =
    option_map_or (λ p. event_parsed p.0 >>= λ e. Some (e, Some p.1)) (cut_at 44 text)
    (event_parsed text >>= λ e. Some (e, None))

abbrev pub events_at : List ℕ → Option (List Event)
events_at text = many_at event_first_at 64 text

-- without the brace at its end
unfoldable pub phase_at : List ℕ → Option PhaseView
phase_at text = do
  p ← cut_at 123 text
  count ← number_within_at 1 max_script_number p.0
  events ← events_at p.1
  Some (record { count = count; events = events })

-- a phase, and what follows the brace after it
unfoldable pub phase_first_at : List ℕ → Option (PhaseView × Option (List ℕ))
phase_first_at text = do
  p ← cut_at 125 text
  phase ← phase_at p.0
  Some (phase, if length p.1 == 0 then None else Some p.1)

abbrev pub phases_at : List ℕ → Option (List PhaseView)
phases_at text = many_at phase_first_at 64 text

unfoldable pub rounds_at : List ℕ → Option (Option ℕ)
rounds_at text =
    if bytes_eq text (codes "-1") then Some None
    else (number_within_at 1 max_script_number text >>= λ n. Some (Some n))

unfoldable pub script_at : List ℕ → Option ScriptView
script_at text = do
  p ← cut_at 58 text
  rounds ← rounds_at p.0
  phases ← phases_at p.1
  Some (script_of rounds phases)

-- ---- lines

-- a number up to the next space, and what follows
unfoldable pub field_at : ℕ → ℕ → List ℕ → Option (ℕ × List ℕ)
field_at least most text = do
  p ← cut_at 32 text
  n ← number_within_at least most p.0
  Some (n, p.1)

-- each up to the next space
unfoldable pub times_at : List ℕ → Option (Times × List ℕ)
times_at text = do
  runtime ← field_at 1 4294967296 text
  deadline ← field_at 1 4294967296 runtime.1
  period ← field_at 1 4294967296 deadline.1
  Some (record { runtime = runtime.0; deadline = deadline.0; period = period.0 }, period.1)

-- what keeps the times in nanoseconds below 2^64
pub record AreTimes (t : Times) : Type 0 where
  pub runtime : t.runtime ≤ 4294967296
  pub deadline : t.deadline ≤ 4294967296
  pub period : t.period ≤ 4294967296

-- whether the task reclaims
unfoldable pub flag_at : List ℕ → Option Bool
flag_at text =
    if bytes_eq text (codes "R") then Some true
    else (if bytes_eq text (codes "-") then Some false else None)

-- the flag up to the next space, and what follows
unfoldable pub flagged_at : List ℕ → Option (Bool × List ℕ)
flagged_at text = do
  p ← cut_at 32 text
  reclaim ← flag_at p.0
  Some (reclaim, p.1)

-- the parameters that these times give to a task that reclaims or does not
unfoldable pub params_at : Times → Bool → Option ParamsView
params_at t reclaim =
    result_ok (accepted
    (record {
      policy = 6;
      flags = if reclaim then 2 else 0;
      runtime = t.runtime * 1000;
      deadline = t.deadline * 1000;
      period = t.period * 1000;
    }))

-- 1 to 15 bytes of codes 0x21 to 0x7e
abbrev pub is_short_name : List ℕ → Bool
is_short_name text =
    nat_lt 0 (length text) && nat_le (length text) 15
    && list_all (λ b. nat_le 33 b && nat_le b 126) text

unfoldable pub name_at : List ℕ → Option (List ℕ)
name_at text = if is_short_name text then Some text else None

-- the delay and the script of an admission
unfoldable pub plan_at : List ℕ → Option (ℕ × ScriptView)
plan_at text = do
  delay ← field_at 0 max_script_number text
  script ← script_at delay.1
  Some (delay.0, script)

-- a task that comes: its number, its name and its parameters, and what follows
unfoldable pub newcomer_at : List ℕ → Option (Newcomer × List ℕ)
newcomer_at text = do
  number ← field_at 1 65535 text
  name ← cut_at 32 number.1
  named ← name_at name.0
  times ← times_at name.1
  flag ← flagged_at times.1
  params ← params_at times.0 flag.0
  Some (record { number = number.0; name = named; params = params }, flag.1)

-- what follows the client in an admission
unfoldable pub admit_at : List ℕ → Option Call
admit_at text = do
  new ← newcomer_at text
  plan ← plan_at new.1
  Some (Admit new.0.number new.0.name new.0.params plan.0 plan.1)

-- what follows the client in an arrival
unfoldable pub arrive_at : List ℕ → Option Call
arrive_at text = do
  new ← newcomer_at text
  script ← script_at new.1
  Some (Arrive new.0.number new.0.name new.0.params script)

-- after the flag of a regrade and the limit of a change that the bandwidth word refused: the number
-- with which it did
unfoldable pub seen_at : List ℕ → Option ℕ
seen_at text = do
  p ← cut_at 32 text
  seen ← number_within_at 0 67108864 p.1
  if bytes_eq p.0 (codes "busy") then Some seen else None

abbrev pub answer : Bool → Option ℕ → Option (Bool × Option ℕ)
answer reclaim word = Some (reclaim, word)

-- what follows the times in a regrade: whether the task reclaims, and with what the bandwidth word
-- refused, where it did
unfoldable pub answer_at : List ℕ → Option (Bool × Option ℕ)
answer_at text =
    if length text == 1 then (flag_at text >>= λ reclaim. answer reclaim None)
    else (flagged_at text >>= λ flag. seen_at flag.1 >>= λ seen. answer flag.0 (Some seen))

-- what follows the client in a regrade
unfoldable pub regrade_at : List ℕ → Option Call
regrade_at text = do
  number ← field_at 1 65535 text
  times ← times_at number.1
  last ← answer_at times.1
  params ← params_at times.0 last.0
  Some (Regrade number.0 params last.1)

-- what follows the client in a call that has a number alone
unfoldable pub numbered_at : ℕ → (ℕ → Call) → List ℕ → Option Call
numbered_at most call text = do
  n ← number_within_at 1 most text
  Some (call n)

abbrev pub change : ℕ → Option ℕ → Option (ℕ × Option ℕ)
change limit word = Some (limit, word)

-- a new limit, and with what the bandwidth word refused it, where it did
unfoldable pub change_at : List ℕ → Option (ℕ × Option ℕ)
change_at text =
    option_map_or
    (λ p. number_within_at least_limit unit p.0 >>= λ limit. seen_at p.1
    >>= λ seen. change limit (Some seen))
    (cut_at 32 text) (number_within_at least_limit unit text >>= λ limit. change limit None)

-- what follows the client in a change of the limit
unfoldable pub limit_at : List ℕ → Option Call
limit_at text = do
  c ← change_at text
  Some (Limit c.0 c.1)

-- what follows the client, in a call of this word
unfoldable pub worded_at : List ℕ → List ℕ → Option Call
worded_at word text =
    if bytes_eq word (codes "admit") then admit_at text
    else (if bytes_eq word (codes "regrade") then regrade_at text
    else (if bytes_eq word (codes "wake") then numbered_at 65535 Wake text
    else (if bytes_eq word (codes "leave") then numbered_at 65535 Leave text
    else (if bytes_eq word (codes "advance") then numbered_at max_advance Advance text
    else (if bytes_eq word (codes "limit") then limit_at text
    else (if bytes_eq word (codes "depart") then numbered_at 65535 Depart text
    else (if bytes_eq word (codes "arrive") then arrive_at text else None)))))))

-- the words of calls
abbrev pub word_spelled : Word → List ℕ
word_spelled word.Admit = codes "admit"
word_spelled word.Regrade = codes "regrade"
word_spelled word.Wake = codes "wake"
word_spelled word.Leave = codes "leave"
word_spelled word.Advance = codes "advance"
word_spelled word.Limit = codes "limit"
word_spelled word.Depart = codes "depart"
word_spelled word.Arrive = codes "arrive"

-- a word, and the space after it
abbrev pub front_of : Word → List ℕ
front_of word = word_spelled word ++ codes " "

-- what follows this word and its space
abbrev pub called_at : List ℕ → List ℕ → Option (ℕ × Call)
called_at word text = do
  client ← field_at 1 64 text
  call ← worded_at word client.1
  Some (client.0, call)

unfoldable pub call_at : List ℕ → Option (ℕ × Call)
call_at line = do
  word ← cut_at 32 line
  called_at word.0 word.1

-- after a header that has calls of the second form or has none
unfoldable pub known_at : Bool → List ℕ → Option (ℕ × Call)
known_at later line = do
  p ← call_at line
  if is_later p.1 && not later then None else Some p

-- whether a text with this header has calls of the second form
unfoldable pub header_at : List ℕ → Option Bool
header_at line =
    if bytes_eq line (codes "dlcalls 1") then Some false
    else (if bytes_eq line (codes "dlcalls 2") then Some true else None)

-- the CPUs and the limit of a domain
unfoldable pub domain_at : List ℕ → Option (ℕ × ℕ)
domain_at line = do
  word ← cut_at 32 line
  cpus ← field_at 1 64 word.1
  limit ← number_within_at least_limit unit cpus.1
  if bytes_eq word.0 (codes "domain") then Some (cpus.0, limit) else None

-- ---- the entries of a section

-- the entry of a line, where a client made so many calls before
pub record IsNext (later : Bool) (line : List ℕ) (made : List ℕ) (e : Entry) : Type 0 where
  pub call : known_at later line ≡ Some (e.client, e.call)
  pub client : IsClient e.client
  pub no_reply : e.reply ≡ None
  pub seq : e.seq ≡ slice_index made (e.client - 1)

-- ---- the sections of a text, from line 2 on

-- the section at the front of a text, with as many entries as stand there, and as it may have
pub record IsFirstSection (later : Bool) (text rest : List ℕ) (s : SectionView) : Type 0 where
  pub parts : text ≡ text_of (section_lines s) ++ rest
  pub is : IsSectionRead s
  pub known : KnowsLater later (some_later s.entries)
  pub stops : length s.entries < max_history → LacksEntry later rest

-- the text does not begin with the line of a domain
abbrev pub LacksDomain : List ℕ → Type 0
LacksDomain text =
    (s : SectionView) (after : List ℕ) → IsSectionRead s → text ≡ domain_line s ++ 10 ∷ after → ⊥

abbrev pub IsNoSection : List ℕ → PartFault → Type 0
IsNoSection text Bad = LacksDomain text
IsNoSection text Memory = Unit {0}

-- the sections at the front of a text: as many as stand there, and as a text may have
pub record AreSectionsOf (later : Bool) (text rest : List ℕ) (sections : List SectionView)
    : Type 0 where
  pub so_far : SectionsSoFar later text rest sections
  pub most : length sections ≤ 8
  pub ends : length sections < 8 → LacksDomain rest

-- they are all of the text, and what its header says of them
abbrev pub is_whole_text : Bool → List ℕ → List SectionView → Bool
is_whole_text later rest sections =
    length rest == 0 && not (length sections == 0) && (not later || has_later sections)

-- ---- the first bad line of a text that is not of sections alone

-- and there are as many sections as a text may have
abbrev pub is_full : List SectionView → Bool
is_full sections = length sections == 8 && last_full sections

-- the header has calls of the second form, these sections have none, and none can follow
abbrev pub is_stuck : Bool → List SectionView → Bool
is_stuck later sections = later && not (has_later sections) && is_full sections

-- then the last of their lines is bad, and else the one after it; the header is line 1
abbrev pub bad_place : Bool → List SectionView → ℕ
bad_place later sections =
    length (flat_map section_lines sections) + (if is_stuck later sections then 1 else 2)
