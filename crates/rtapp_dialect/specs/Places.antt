-- Places of a file: lines and columns, and the offsets that bytes of the strict text come from.
use Rattle.std.specs.Prelude.{ℕ, suc, ◌-◌, ◌≤◌, List, [], ◌∷◌, Bool, ◌==◌, ◌&&◌, nat_lt, nat_le, if◌then◌else◌, take, fold, ◌<◌, ◌≡◌, ◌⊎◌, true, false, length, slice_index}
use Rattle.rtapp_dialect.specs.declared.insertion.Insertion.{Insertion}
use Rattle.rtapp_dialect.specs.declared.place.Place.{Place}

-- the first line and column
abbrev pub start_place : Place
start_place = record { line = 1; column = 1 }

-- a byte that continues a character (RFC 3629, section 3)
abbrev pub continues : ℕ → Bool
continues c = nat_le 128 c && nat_lt c 192

-- the place after the byte c: LF ends a line, and each character is one column
abbrev pub place_after : Place → ℕ → Place
place_after p c =
    if c == 10 then record { line = suc p.line; column = 1 } else
    if continues c then p else record { line = p.line; column = suc p.column }

-- the place of the byte at an offset
abbrev pub place_at : List ℕ → ℕ → Place
place_at text offset = fold place_after start_place (take offset text)

-- the offset before the insertions that the byte at n comes from: an inserted byte comes from the
-- byte that follows the insertion
abbrev pub origin_at : List Insertion → ℕ → ℕ
origin_at [] n = n
origin_at (i ∷ insertions) n =
    if nat_lt n i.at then n else
    if nat_lt (n - i.at) i.len then i.at else origin_at insertions (n - i.len)

-- what comes later comes from no earlier offset
abbrev pub KeepsOrder : List Insertion → Type 0
KeepsOrder insertions = (m n : ℕ) → m ≤ n → origin_at insertions m ≤ origin_at insertions n

-- an offset of a text of this length leads back to one of a file of that length, its end included
abbrev pub LeadsInto : List Insertion → ℕ → ℕ → Type 0
LeadsInto insertions size end = (n : ℕ) → n ≤ size → origin_at insertions n ≤ end

-- the byte at n was inserted
abbrev pub is_inserted : List Insertion → ℕ → Bool
is_inserted [] n = false
is_inserted (i ∷ insertions) n =
    if nat_lt n i.at then false else
    if nat_lt (n - i.at) i.len then true else is_inserted insertions (n - i.len)

-- each byte that was not inserted is the byte that it comes from
abbrev pub KeepsBytes : List ℕ → List ℕ → List Insertion → Type 0
KeepsBytes before after insertions =
    (n : ℕ) → n < length after → is_inserted insertions n ≡ false
    → slice_index after n ≡ slice_index before (origin_at insertions n)

-- the same, or a space
abbrev pub KeepsOrBlanks : List ℕ → List ℕ → List Insertion → Type 0
KeepsOrBlanks before after insertions =
    (n : ℕ) → n < length after → is_inserted insertions n ≡ false
    → (slice_index after n ≡ slice_index before (origin_at insertions n))
    ⊎ (slice_index after n ≡ 32)
