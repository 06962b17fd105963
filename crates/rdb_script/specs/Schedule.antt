-- The words of a schedule's text, and the items that they are.
use Rattle.std.specs.Prelude.{◌≡◌, ◌≢◌, ⊤, ℕ, Bool, ◌+◌, ◌<◌, ◌≤◌, ◌==◌, ◌||◌, ◌&&◌, not, nat_lt, List, [], ◌∷◌, ◌++◌, length, map, codes, decimal, slice_index, if◌then◌else◌, ◌⊎◌, Result, Ok, Err}
use Rattle.std.specs.List.{AllByRecursion, onto_first}
use Rattle.rdb_script.specs.declared.item.Item.{Item}
use Rattle.rdb_script.specs.declared.item.Item.TheVariants as item
use Rattle.rdb_script.specs.declared.fault.ScheduleFault.{ScheduleFault}
use Rattle.rdb_script.specs.declared.fault.ScheduleFault.TheVariants as fault

-- whether a text begins with a byte that stands between words: a space, a tab, a line feed, or a carriage return with a
-- line feed directly after it
abbrev pub separates : List ℕ → Bool
separates text =
    let byte = slice_index text 0 in
    byte == 32 || byte == 9 || byte == 10 || (byte == 13 && slice_index text 1 == 10)

-- whether a text begins with a byte of a word
abbrev pub begins_word : List ℕ → Bool
begins_word text = nat_lt 0 (length text) && not (separates text)

-- the words of a text, in order: its longest runs of bytes none of which stands between words
abbrev pub words : List ℕ → List (List ℕ)
words [] = []
words (byte ∷ rest) =
    if separates (byte ∷ rest) then words rest
    else (if begins_word rest then onto_first byte (words rest) else (byte ∷ []) ∷ words rest)

-- the word of an item
abbrev pub word_of : Item → List ℕ
word_of (item.Step client) = decimal client
word_of (item.Unit client) = decimal client ++ codes "*"
word_of item.Sniff = codes "s"
word_of item.SniffUnit = codes "s*"
word_of (item.Dead client) = codes "!" ++ decimal client

-- the client that an item may name is one of so many, numbered from 1
abbrev pub IsOf : ℕ → Item → Type 0
IsOf clients (item.Step client) = (0 < client) × (client ≤ clients)
IsOf clients (item.Unit client) = (0 < client) × (client ≤ clients)
IsOf clients item.Sniff = ⊤
IsOf clients item.SniffUnit = ⊤
IsOf clients (item.Dead client) = (0 < client) × (client ≤ clients)

-- the text is a schedule with these items, for so many clients
pub record IsSchedule (clients : ℕ) (text : List ℕ) (items : List Item) : Type 0 where
  pub spelled : words text ≡ map word_of items
  pub named : AllByRecursion (IsOf clients) items
  pub few : length items ≤ 100000

-- a word is no item for so many clients
abbrev pub IsNoItem : ℕ → List ℕ → Type 0
IsNoItem clients word = (i : Item) → IsOf clients i → word ≢ word_of i

-- The text's word of this number, from 1, is one too many or no item, and all words before it are items.
pub record IsFirstFault (clients : ℕ) (text : List ℕ) (number : ℕ) : Type 0 where
  pub before : List Item
  pub word : List ℕ
  pub after : List (List ℕ)
  pub spelled : words text ≡ map word_of before ++ word ∷ after
  pub named : AllByRecursion (IsOf clients) before
  pub few : length before ≤ 100000
  pub place : number ≡ length before + 1
  pub faulty : (length before ≡ 100000) ⊎ IsNoItem clients word

-- the fault is the text's first, or memory was wanting
abbrev pub IsFaultOf : ℕ → List ℕ → ScheduleFault → Type 0
IsFaultOf clients text (fault.Item number) = IsFirstFault clients text number
IsFaultOf clients text fault.NoMemory = ⊤

-- the answer is these items, unless memory was wanting
abbrev pub IsReadAs : Result (List Item) ScheduleFault → List Item → Type 0
IsReadAs (Ok found) items = found ≡ items
IsReadAs (Err (fault.Item number)) items = ⊥
IsReadAs (Err fault.NoMemory) items = ⊤
