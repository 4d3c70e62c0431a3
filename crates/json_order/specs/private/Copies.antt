-- Members of a tree with texts of its own.
use Rattle.std.specs.Prelude.{List, map, string_bytes}
use Rattle.std.specs.declared.string.String.{String}
use Rattle.std.specs.declared.alloc.Global.{Global}
use Rattle.json_order.specs.Seen.{json_of}
use Rattle.json_order.specs.private.Machine.{Entries}
use Rattle.json_order.specs.declared.tree.Tree.{Tree}

-- as keys and values
abbrev pub entries_of_copy : List (String Global × Tree) → Entries
entries_of_copy ms = map (λ m. (string_bytes m.0, json_of m.1)) ms
