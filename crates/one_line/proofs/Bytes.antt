-- Bytes as they are shown, by whether they are UTF-8.
use Rattle.std.proofs.Common.{◌≡◌, ℕ, Bool, true, false, List, ap, sym, cond, refl}
use Rattle.std.specs.Prelude.{flat_map}
use Rattle.std.specs.Str.{IsUtf8, is_utf8}
use Rattle.std.proofs.lemmas.Str.{IsUtf8-from_is_utf8, is_utf8-from_IsUtf8}
use Rattle.one_line.specs.Shown.{shown, shown_byte, shown_bytes}

branch : (b : Bool) (bytes : List ℕ) → is_utf8 bytes ≡ b → cond b (shown bytes) (flat_map shown_byte bytes) ≡ shown_bytes bytes
branch b bytes is = ap (λ (x : Bool). cond x (shown bytes) (flat_map shown_byte bytes)) (sym is)

pub utf8_shown : (bytes : List ℕ) → IsUtf8 bytes → shown bytes ≡ shown_bytes bytes
utf8_shown bytes is = branch true bytes (is_utf8-from_IsUtf8 bytes is)

no_utf8 : (b : Bool) (bytes : List ℕ) → is_utf8 bytes ≡ b → (IsUtf8 bytes → ⊥) → flat_map shown_byte bytes ≡ shown_bytes bytes
no_utf8 true bytes is is_none = absurd (is_none (IsUtf8-from_is_utf8 bytes is))
no_utf8 false bytes is is_none = branch false bytes is

pub others_shown : (bytes : List ℕ) → (IsUtf8 bytes → ⊥) → flat_map shown_byte bytes ≡ shown_bytes bytes
others_shown bytes is_none = no_utf8 (is_utf8 bytes) bytes refl is_none
