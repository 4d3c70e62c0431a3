use Rattle.std.proofs.Common.{◌≡◌, ◌≢◌, ℕ, ◌∙◌, List, get_or, sym, ap, subst, All}
use Rattle.std.specs.Prelude.{min}
use Rattle.chart_pieces.specs.declared.row.Bar.{Bar}
use Rattle.chart_pieces.specs.Window.{touches}
use Rattle.chart_pieces.specs.private.Lines.{IsLastOn}
use Rattle.chart_pieces.proofs.Holding.{none_on, last_set, last_removed}
use Rattle.chart_pieces.proofs.lines.stop_bar.Goals as goal

pub returns-in_default : goal.returns-in_default
returns-in_default c =
    let s = c.args.switch.now in
    none_on c.args.window.now s c.args.bars.now.items c.requires.drawn
    (subst (λ (bs : List Bar). All (λ b. b.cpu ≢ s.cpu) bs) c.deref.ensures.value (subst (λ k. All (λ b. b.cpu ≢ k) c.deref.result.now) c.cpu.ensures c.in_default.ensures.absent))

pub returns-then-touches : goal.returns-then-touches
returns-then-touches c =
    let w = c.args.window.now in
    let s = c.args.switch.now in
    let bars = c.args.bars.now.items in
    let place = c.in-Some.place in
    let x : Bar = c.index-bar.result.now in
    let e : x ≡ get_or bars place x = c.index-bar.ensures in
    let stop : c.min-stop.result ≡ min x.stop s.time = c.min-stop.ensures ∙ ap (min x.stop) c.time.ensures in
    let last : IsLastOn bars s.cpu place = subst (λ (bs : List Bar). IsLastOn bs s.cpu place) c.deref.ensures.value (subst (λ k. IsLastOn c.deref.result.now k place) c.cpu.ensures c.in-Some.ensures.found) in
    last_set w s bars place x _ c.requires.drawn last
    (ap (λ (b : Bar). touches w b.start (min b.stop s.time)) (sym e) ∙ ap (touches w x.start) (sym stop) ∙ sym c.touches.ensures ∙ c.if-touches.true)
    (ap (λ (t : ℕ). record x { stop = t }) stop ∙ ap (λ (b : Bar). record b { stop = min b.stop s.time }) e)

pub returns-else-touches : goal.returns-else-touches
returns-else-touches c =
    let w = c.args.window.now in
    let s = c.args.switch.now in
    let bars = c.args.bars.now.items in
    let place = c.in-Some.place in
    let x : Bar = c.index-bar.result.now in
    let e : x ≡ get_or bars place x = c.index-bar.ensures in
    let stop : c.min-stop.result ≡ min x.stop s.time = c.min-stop.ensures ∙ ap (min x.stop) c.time.ensures in
    let last : IsLastOn bars s.cpu place = subst (λ (bs : List Bar). IsLastOn bs s.cpu place) c.deref.ensures.value (subst (λ k. IsLastOn c.deref.result.now k place) c.cpu.ensures c.in-Some.ensures.found) in
    last_removed w s bars c.remove.new.self.items place x c.requires.drawn last
    (ap (λ (b : Bar). touches w b.start (min b.stop s.time)) (sym e) ∙ ap (touches w x.start) (sym stop) ∙ sym c.touches.ensures ∙ c.if-touches.false)
    c.remove.ensures.items
