-- How a refusal prints.
use Rattle.std.specs.Prelude.{ℕ, List, codes}
use Rattle.attr_check.specs.declared.refusal.AttrRefusal.{AttrRefusal}
use Rattle.attr_check.specs.declared.refusal.AttrRefusal.TheVariants.{NotDeadline, UnknownFlag, TopBit, Small, Order, Grain, Long}

-- its name (own)
abbrev pub refusal_name : AttrRefusal → List ℕ
refusal_name NotDeadline = codes "NotDeadline"
refusal_name UnknownFlag = codes "UnknownFlag"
refusal_name TopBit = codes "TopBit"
refusal_name Small = codes "Small"
refusal_name Order = codes "Order"
refusal_name Grain = codes "Grain"
refusal_name Long = codes "Long"
