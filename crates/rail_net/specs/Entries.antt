-- Entries: numbers filed under other numbers, and what is kept of them under each.
use Rattle.std.specs.Prelude.{◌≡◌, ◌≢◌, ◌<◌, ◌==◌, ℕ, List, Bool, Option, None, Some, length, slice_get, slice_index, count_by, Contains, IsTrue, ◌↔◌}
use Rattle.rail_net.specs.declared.entries.Entry.{Entry}

-- an entry under that key has that value
abbrev pub HasEntry : List Entry → ℕ → ℕ → Type 0
HasEntry entries key value = Contains entries (record { key = key; value = value })

-- how many entries are under that key
abbrev pub entries_under : List Entry → ℕ → ℕ
entries_under entries key = count_by (λ e. e.key == key) entries

-- the number at each key is that of its entries
abbrev pub AreCounts : List Entry → List ℕ → Type 0
AreCounts entries counts = (key : ℕ) → key < length counts → slice_index counts key ≡ entries_under entries key

-- the value of an entry under that key, if there is one
abbrev pub IsValueAt : List Entry → ℕ → Option ℕ → Type 0
IsValueAt entries key None = (value : ℕ) → ¬ HasEntry entries key value
IsValueAt entries key (Some value) = HasEntry entries key value

-- at each key is the value of one of its entries
unfoldable pub AreValues : List Entry → List (Option ℕ) → Type 0
AreValues entries values = (key : ℕ) (found : Option ℕ) → slice_get values key ≡ Some found → IsValueAt entries key found

-- two entries under that key have different values
unfoldable pub IsMixed : List Entry → ℕ → Type 0
IsMixed entries key =
    (one : ℕ) × (other : ℕ) × HasEntry entries key one × HasEntry entries key other × (one ≢ other)

-- the keys whose entries differ are marked
unfoldable pub AreMixed : List Entry → List Bool → Type 0
AreMixed entries marks = (key : ℕ) (mark : Bool) → slice_get marks key ≡ Some mark → IsTrue mark ↔ IsMixed entries key
