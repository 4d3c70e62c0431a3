use Rattle.std.proofs.Common.{◌∙◌, refl}
use Rattle.std.specs.String.{string_bytes}
use Rattle.calls_text.proofs.Names.{name_given, name_refused, name_no, name_is_utf8}
use Rattle.calls_text.proofs.line_text.name_of.Goals as goal

pub returns-in_default : goal.returns-in_default
returns-in_default c = name_no c.args.text.now (λ h. c.in_default.ensures.cases.0 (name_is_utf8 c.args.text.now h))

pub returns-in-Ok-new : goal.returns-in-Ok-new
returns-in-Ok-new c = name_given c.args.text.now (string_bytes c.in_ok-from_str.field-0) c.in-Ok-new.name (c.in_ok-from_str.ensures.ok ∙ c.in-Ok.ensures.cases.0) (c.in-Ok-new.ensures.named.0 refl) c.in-Ok-new.ensures.value

pub returns : goal.returns
returns c = name_refused c.args.text.now (string_bytes c.in_ok-from_str.field-0) (c.in_ok-from_str.ensures.ok ∙ c.in-Ok.ensures.cases.0) c.in-Err.ensures.named.1
