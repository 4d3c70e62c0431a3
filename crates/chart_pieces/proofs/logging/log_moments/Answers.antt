use Rattle.std.proofs.Common.{◌≡◌, ◌-◌, List, length, get_or, take, drop, map, ap, ◌∙◌, arith}
use Rattle.std.specs.Prelude.{nat_le}
use Rattle.std.specs.List.{prefix_len}
use Rattle.std.proofs.lemmas.List.{take_rest, length-drop}
use Rattle.std.proofs.lemmas.List.Sums.{prefix_len-le-length}
use Rattle.domain_run.specs.declared.happened.Happened.{Happened}
use Rattle.domain_run.specs.Switch.{Switch}
use Rattle.chart_pieces.specs.Moments.{moment_of, moments_by}
use Rattle.chart_pieces.specs.private.Lines.{bars_all}
use Rattle.chart_pieces.proofs.Moments.{numbers_of_lines, next_rest}
use Rattle.chart_pieces.proofs.logging.log_moments.Goals as goal

pub log_switch-requires : goal.log_switch-requires
log_switch-requires c =
    let w = c.args.window.now in
    let hs = c.args.happened.now in
    let from = c.loop-switch.from in
    let n = c.in_ok-from.field-0 in
    let table = c.loop-switch.table.items in
    let rest : take (length hs - from) (drop from hs) ≡ drop from hs = take_rest hs from in
    let logged : c.log_until.new.table.items ≡ map (bars_all w (map moment_of (take n (drop from hs)))) table =
    c.in_ok-from.ensures.logged ∙ ap (λ (xs : List Happened). map (bars_all w (map moment_of (take n xs))) table) rest in
    record { keyed = numbers_of_lines w (map moment_of (take n (drop from hs))) table c.log_until.new.table.items c.args.places.now logged c.loop-switch.invariant.keyed }

pub loop-switch-preserved : goal.loop-switch-preserved
loop-switch-preserved c =
    let w = c.args.window.now in
    let hs = c.args.happened.now in
    let ss = c.args.switches.now in
    let from = c.loop-switch.from in
    let k = c.loop-switch.switch-index in
    let n = c.in_ok-from.field-0 in
    let table = c.loop-switch.table.items in
    let middle = c.log_until.new.table.items in
    let last = c.log_switch.new.table.items in
    let item : Switch = c.switch-item.result in
    let same : item ≡ get_or ss k item = c.switch-item.is in
    let s = get_or ss k item in
    let rest : take (length hs - from) (drop from hs) ≡ drop from hs = take_rest hs from in
    let logged : middle ≡ map (bars_all w (map moment_of (take n (drop from hs)))) table =
    c.in_ok-from.ensures.logged ∙ ap (λ (xs : List Happened). map (bars_all w (map moment_of (take n xs))) table) rest in
    let count : n ≡ prefix_len (λ (h : Happened). nat_le h.time s.time) (drop from hs) =
    c.in_ok-from.ensures.count ∙ (λ j. prefix_len (λ h. nat_le h.time ((c.time.ensures ∙ ap (λ (x : Switch). x.time) same) j)) (rest j)) in
    let by : last ≡ map (bars_all w (moments_by s)) middle =
    c.in_ok-log_switch.ensures ∙ ap (λ (x : Switch). map (bars_all w (moments_by x)) middle) same in
    let first = numbers_of_lines w (map moment_of (take n (drop from hs))) table middle c.args.places.now logged c.loop-switch.invariant.keyed in
    record {
      inside = omega (arith, count, prefix_len-le-length (λ (h : Happened). nat_le h.time s.time) (drop from hs), length-drop from hs, c.loop-switch.invariant.inside);
      keyed = numbers_of_lines w (moments_by s) middle last c.args.places.now by first;
      rest = next_rest w hs ss c.args.table.now.items from k n item table middle last c.loop-switch-test.true count logged by c.loop-switch.invariant.rest;
    }
