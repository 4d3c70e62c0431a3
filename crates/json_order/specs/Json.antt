-- A JSON value as a tree (RFC 8259 section 3). Items and members stand in the order of the text.
use Rattle.std.specs.Prelude.{ℕ, Bool, List}

mutual
  pub data Json : Type 0 where
    null : Json
    boolean : Bool → Json
    -- a number is its own text
    number : List ℕ → Json
    -- a string in UTF-8, its escapes read
    string : List ℕ → Json
    array : Items → Json
    object : Members → Json

  pub data Items : Type 0 where
    no_items : Items
    item : Json → Items → Items

  -- each key in UTF-8, its escapes read
  pub data Members : Type 0 where
    no_members : Members
    member : List ℕ → Json → Members → Members
