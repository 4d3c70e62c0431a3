use Rattle.std.proofs.Common.{◌≡◌, [], append-nil, refl, sym, ap, rules}
use Rattle.recorded_text.specs.Text.{is_bad, switches_in_line}
use Rattle.recorded_text.specs.Views.{switch_view}
use Rattle.recorded_text.proofs.Stepping.{view_more, line_brings, named_more}
use Rattle.recorded_text.proofs.reading.take_line.Goals as goal

pub returns-in_ok-push-in-Seen-clause-shown : goal.returns-in_ok-push-in-Seen-clause-shown
returns-in_ok-push-in-Seen-clause-shown c =
    view_more c.args.names.now c.step_of.new.names c.args.steps.now.items c.push.new.self.items c.in_ok-step-in-Seen.step c.args.line.now (switch_view c.in-Seen.switch) c.step_of.ensures.grows c.requires c.in_ok-push-in-Seen.ensures.items c.in_ok-step-in-Seen.ensures.shown c.in-Seen.ensures.value

pub returns-in_ok-push-in-Seen-clause-called : goal.returns-in_ok-push-in-Seen-clause-called
returns-in_ok-push-in-Seen-clause-called c =
    line_brings c.args.names.now c.step_of.new.names c.args.line.now (switch_view c.in-Seen.switch) c.in_ok-step-in-Seen.ensures.called c.in-Seen.ensures.value

pub returns-in_ok-push-in-Seen-clause-named : goal.returns-in_ok-push-in-Seen-clause-named
returns-in_ok-push-in-Seen-clause-named c =
    named_more c.args.names.now c.step_of.new.names c.args.steps.now.items c.push.new.self.items c.in_ok-step-in-Seen.step c.step_of.ensures.grows c.requires c.in_ok-push-in-Seen.ensures.items c.in_ok-step-in-Seen.ensures.named

pub returns-in_ok-push-in-Seen-clause-good : goal.returns-in_ok-push-in-Seen-clause-good
returns-in_ok-push-in-Seen-clause-good c = ap is_bad (sym c.in-Seen.ensures.value)

pub step_of-requires : goal.step_of-requires
step_of-requires c = c.in-Seen.ensures.small

pub returns-in-Other : goal.returns-in-Other
returns-in-Other c =
    let nothing : switches_in_line c.args.line.now ≡ [] = search rules in
    record {
      shown = rw nothing (sym (append-nil _));
      called = rw nothing refl;
      good = ap is_bad (sym c.in-Other.ensures.value);
      named = c.requires;
      bad = tt;
      grows = record { more = []; behind = sym (append-nil _) };
    }

pub returns-in-Bad : goal.returns-in-Bad
returns-in-Bad c = record { shown = tt; called = tt; good = tt; named = tt; bad = ap is_bad (sym c.in-Bad.ensures.value); grows = record { more = []; behind = sym (append-nil _) } }

pub returns-in_ok-push-in-Seen-clause-bad : goal.returns-in_ok-push-in-Seen-clause-bad
returns-in_ok-push-in-Seen-clause-bad c = tt

pub returns-in_ok-push-in-Seen-clause-grows : goal.returns-in_ok-push-in-Seen-clause-grows
returns-in_ok-push-in-Seen-clause-grows c = c.step_of.ensures.grows
