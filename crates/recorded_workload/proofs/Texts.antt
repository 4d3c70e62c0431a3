-- The text of a workload.
use Rattle.std.proofs.Common.{◌≡◌, ℕ, suc, List, [], ◌∷◌, map, Result, Ok, Err, None, Option, refl, sym, ap, subst, ◌∙◌, arith}
use Rattle.std.specs.Prelude.{All, IfOk}
use Rattle.std.specs.declared.vec.Vec.{Vec}
use Rattle.std.specs.Global.{Global}
use Rattle.domain_run.specs.declared.call.Reply.{Reply}
use Rattle.calls_text.specs.declared.section.Entry.{Entry}
use Rattle.calls_text.specs.SectionView.{SectionView}
use Rattle.calls_text.specs.Limits.{AreRead}
use Rattle.calls_text.specs.RoundTrip.{without_reply, without_replies, IsReadAs}

silent : (entries : List Entry) → All (λ (e : Entry). e.reply ≡ None) entries → map without_reply entries ≡ entries
silent [] h = refl
silent (e ∷ entries) h =
    let none : e.reply ≡ None = h 0 e (omega arith) in
    ap (λ (r : Option Reply). record e { reply = r } ∷ map without_reply entries) (sym none)
    ∙ ap (λ (es : List Entry). e ∷ es) (silent entries (λ k d l. h (suc k) d (omega (arith, l))))

same_section : (s : SectionView) → AreRead (s ∷ []) → map without_replies (s ∷ []) ≡ s ∷ []
same_section s are = ap (λ (es : List Entry). record s { entries = es } ∷ []) (silent s.entries (are.no_replies 0 s (omega arith)))

pub read_back : {E : Type 0} (r : Result (Vec ℕ Global) E) (s : SectionView) → AreRead (s ∷ []) → IfOk r (λ v. AreRead (map without_replies (s ∷ [])) → IsReadAs v.items (map without_replies (s ∷ []))) → IfOk r (λ v. IsReadAs v.items (s ∷ []))
read_back (Ok v) s are back = subst (λ (ss : List SectionView). IsReadAs v.items ss) (same_section s are) (back (subst AreRead (sym (same_section s are)) are))
read_back (Err e) s are back = tt
