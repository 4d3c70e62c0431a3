-- A worked row: the replies to calls of each kind, as a text.
use Rattle.std.specs.Prelude.{◌≡◌, ℕ, List, [], ◌∷◌, None, Some, false, codes, refl}
use Rattle.std.specs.Fmt.{digits}
use Rattle.attr_check.specs.ParamsView.{ParamsView}
use Rattle.task_script.specs.declared.phase.Event.{Event}
use Rattle.task_script.specs.declared.phase.Event.TheVariants.{Run, Wait}
use Rattle.task_script.specs.script.ScriptView.{ScriptView, script_of}
use Rattle.domain_run.specs.declared.call.Call.{Call}
use Rattle.domain_run.specs.declared.call.Call.TheVariants.{Admit, Regrade, Wake, Leave, Advance, Limit, Depart, Arrive}
use Rattle.calls_text.specs.declared.section.Entry.{Entry}
use Rattle.reply_text.specs.Replies.{replies_of}

-- a call of client 1
abbrev call : Call → Entry
call c = record { client = 1; seq = 0; call = c; reply = None }

-- a runtime in 8 microseconds, with its bandwidth
abbrev params : ℕ → ℕ → ParamsView
params runtime bw =
    record { runtime = runtime; deadline = 8; period = 8; reclaim = false; bw = bw }

abbrev once : List Event → ScriptView
once events = script_of (Some 1) (record { count = 1; events = events } ∷ [])

abbrev waiter : Call
waiter = Admit 1 (codes "a") (params 4 524288) 0 (once (Run 1 ∷ Wait ∷ []))

abbrev calls : List Entry
calls =
    call waiter ∷ call waiter ∷ call (Admit 2 (codes "b") (params 5 655360) 0 (once (Run 1 ∷ [])))
    ∷ call (Regrade 1 (params 2 262144) None) ∷ call (Regrade 1 (params 2 262144) (Some 7))
    ∷ call (Wake 1) ∷ call (Advance 2) ∷ call (Wake 1) ∷ call (Limit 262143 None)
    ∷ call (Limit 262144 None) ∷ call (Depart 1) ∷ call (Leave 1)
    ∷ call (Arrive 3 (codes "c") (params 2 262144) (once (Run 1 ∷ []))) ∷ call (Leave 3) ∷ []

pub answered_as : replies_of (record { cpus = 1; limit = 1048576; entries = calls } ∷ []) ≡ codes
    "domain 1 1048576\nadmit 1 1 a 4 8 8 - 0 1:1{r1,w} = Admitted\nadmit 1 1 a 4 8 8 - 0 1:1{r1,w} = Twice 41\nadmit 1 2 b 5 8 8 - 0 1:1{r1} = EBUSY 16 seen 524288\nregrade 1 1 2 8 8 - = Changed\nregrade 1 1 2 8 8 - busy 7 = EBUSY 16 seen 7\nwake 1 1 = NotWaiting 42\nadvance 1 2 = Done 2\nwake 1 1 = Woken\nlimit 1 262143 = EBUSY 16 seen 262144\nlimit 1 262144 = Set\ndepart 1 1 = Departed\nleave 1 1 = ESRCH 3\narrive 1 3 c 2 8 8 - 1:1{r1} = Admitted\nleave 1 3 = Left\n"
unfolding digits
answered_as = refl
