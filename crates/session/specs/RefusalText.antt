-- How a refusal prints (own).
use Rattle.std.specs.Prelude.{ℕ, List, ◌++◌, codes, decimal}
use Rattle.attr_check.specs.RefusalName.{refusal_name}
use Rattle.session.specs.declared.refusal.Refusal.{Refusal}
use Rattle.session.specs.declared.refusal.Refusal.TheVariants as refusals

-- why a task was refused, or a move
abbrev pub refusal_text : Refusal → List ℕ
refusal_text (refusals.Einval kind) = codes "EINVAL 22 " ++ refusal_name kind
refusal_text refusals.Eperm = codes "EPERM 1"
refusal_text refusals.Full = codes "Full 40"
refusal_text refusals.Twice = codes "Twice 41"
refusal_text refusals.Enomem = codes "ENOMEM 12"
refusal_text (refusals.Busy seen) = codes "EBUSY 16 seen " ++ decimal seen
refusal_text refusals.Esrch = codes "ESRCH 3"
refusal_text (refusals.Stale now) = codes "Stale 43"
refusal_text refusals.SameDomain = codes "SameDomain 44"
