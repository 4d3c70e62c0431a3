use Rattle.calls_text.proofs.Events.{later_first, run_found, sleep_found, timer_found, wait_found, spelled_by, within_by}
use Rattle.calls_text.proofs.script_text.event_of.Goals as goal

pub returns-then-letter-eq119-clause-found : goal.returns-then-letter-eq119-clause-found
returns-then-letter-eq119-clause-found c = wait_found c.args.text.now c.if-letter-eq119.true

pub returns-in-114-clause-spelled : goal.returns-in-114-clause-spelled
returns-in-114-clause-spelled c =
    let text = c.args.text.now in
    let number = c.in_ok-n.ensures.spelled in
    record { text_is = spelled_by 114 c.in_ok-n.n text c.in_ok-n.rest.now c.in-len1-up.len_at_least c.in-114.is number; is = within_by c.in_ok-n.n (later_first text) c.in_ok-n.rest.now number }

pub returns-in-114-clause-found : goal.returns-in-114-clause-found
returns-in-114-clause-found c = run_found c.args.text.now c.in_ok-n.n c.in_ok-n.rest.now c.in-114.is c.in_ok-n.ensures.found

pub returns-in-115-clause-spelled : goal.returns-in-115-clause-spelled
returns-in-115-clause-spelled c =
    let text = c.args.text.now in
    let number = c.in_ok-n.ensures.spelled in
    record { text_is = spelled_by 115 c.in_ok-n.n text c.in_ok-n.rest.now c.in-len1-up.len_at_least c.in-115.is number; is = within_by c.in_ok-n.n (later_first text) c.in_ok-n.rest.now number }

pub returns-in-115-clause-found : goal.returns-in-115-clause-found
returns-in-115-clause-found c = sleep_found c.args.text.now c.in_ok-n.n c.in_ok-n.rest.now c.in-115.is c.in_ok-n.ensures.found

pub returns-in-116-clause-spelled : goal.returns-in-116-clause-spelled
returns-in-116-clause-spelled c =
    let text = c.args.text.now in
    let number = c.in_ok-n.ensures.spelled in
    record { text_is = spelled_by 116 c.in_ok-n.n text c.in_ok-n.rest.now c.in-len1-up.len_at_least c.in-116.is number; is = within_by c.in_ok-n.n (later_first text) c.in_ok-n.rest.now number }

pub returns-in-116-clause-found : goal.returns-in-116-clause-found
returns-in-116-clause-found c = timer_found c.args.text.now c.in_ok-n.n c.in_ok-n.rest.now c.in-116.is c.in_ok-n.ensures.found
