-- The stack with another innermost frame.
use Rattle.std.specs.declared.vec.Vec.{Vec}
use Rattle.std.specs.declared.alloc.Global.{Global}
use Rattle.std.proofs.Common.{ℕ, false, ◌+◌, ◌≡◌, List, [], ◌∷◌, ◌++◌, length, get_or, set, take, map, reverse, Result, Ok, Err, OnOk, refl, sym, ap, ◌∙◌, arith}
use Rattle.std.specs.Prelude.{◌==◌}
use Rattle.std.proofs.lemmas.List.{take_all, take_more, take_more_set, length-set, map_push, reverse-append}
use Rattle.json_order.specs.Lent.{lent_json}
use Rattle.json_order.specs.Fault.{strict}
use Rattle.json_order.specs.Grammar.{is_space}
use Rattle.json_order.specs.private.Machine.{Frame, in_list, state, at_value, at_first_item, under_rules, move, next_move, value_move}
use Rattle.json_order.specs.private.Places.{frame_of, frames_of}
use Rattle.json_order.specs.declared.lent.LentTree.{LentTree}
use Rattle.json_order.specs.declared.place.Frame.{Frame as CodeFrame}
use Rattle.json_order.specs.declared.place.Frame.TheVariants.{List as ListFrame}

pub frames_push : (fs : List CodeFrame) (f : CodeFrame) → frames_of (fs ++ f ∷ []) ≡ frame_of f ∷ frames_of fs
frames_push fs f = ap reverse (map_push frame_of fs f) ∙ reverse-append (map frame_of fs) (frame_of f ∷ [])

-- the innermost frame by its place
last_frame : (fs : List CodeFrame) (i : ℕ) (f : CodeFrame) → i + 1 ≡ length fs → get_or fs i f ≡ f → frames_of fs ≡ frame_of f ∷ frames_of (take i fs)
last_frame fs i f e here =
    ap frames_of (sym (take_all (i + 1) fs (omega arith)) ∙ take_more fs i f (omega arith) ∙ ap (λ x. take i fs ++ x ∷ []) here)
    ∙ frames_push (take i fs) f

frames_set : (fs : List CodeFrame) (i : ℕ) (f : CodeFrame) → i + 1 ≡ length fs → frames_of (set fs i f) ≡ frame_of f ∷ frames_of (take i fs)
frames_set fs i f e =
    let long = length-set fs i f in
    ap frames_of (sym (take_all (i + 1) (set fs i f) (omega arith)) ∙ take_more_set fs i f (omega arith))
    ∙ frames_push (take i fs) f

-- an item more, and a comma
pub item_pushed : (fs : List CodeFrame) (i : ℕ) (old new : Vec LentTree Global) (value : LentTree) → i + 1 ≡ length fs → get_or fs i (ListFrame old) ≡ ListFrame old → new.items ≡ old.items ++ value ∷ [] → under_rules strict (next_move (lent_json value) (frames_of fs) 44) ≡ Ok (state at_value (frames_of (set fs i (ListFrame new))))
item_pushed fs i old new value e here more =
    rw (last_frame fs i (ListFrame old) e here, frames_set fs i (ListFrame new) e, more, map_push lent_json old.items value) refl

pub on_ok : {A E P : Type 0} (r : Result A E) → P → OnOk r P
on_ok (Ok a) h = h
on_ok (Err e) h = tt

-- a list's first item begins
pub list_opened : (fs new : List CodeFrame) (v : Vec LentTree Global) (c : ℕ) → new ≡ fs ++ ListFrame v ∷ [] → v.items ≡ [] → is_space c ≡ false → (c == 93) ≡ false → value_move (frames_of new) c ≡ move at_first_item (frames_of fs) c
list_opened fs new v c more empty space other =
    let pushed : frames_of (fs ++ ListFrame v ∷ []) ≡ in_list [] ∷ frames_of fs = frames_push fs (ListFrame v) ∙ ap (λ (xs : List LentTree). in_list (map lent_json xs) ∷ frames_of fs) empty in
    let first : move at_first_item (frames_of fs) c ≡ value_move (in_list [] ∷ frames_of fs) c = rw (space, other) refl in
    ap (λ (gs : List CodeFrame). value_move (frames_of gs) c) more ∙ ap (λ (gs : List Frame). value_move gs c) pushed ∙ sym first
