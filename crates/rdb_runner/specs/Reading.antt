-- What a call saw of the files, and what it says of them.
use Rattle.std.specs.Prelude.{◌≡◌, ℕ, ◌+◌, ◌<◌, ◌≤◌, ◌⊎◌, List, [], ◌∷◌, ◌++◌, length, take, codes, Option, Result, Ok, Err, IfSome, slice_get, Some}
use Rattle.std.specs.Option.{option_map}
use Rattle.rdb_base.specs.Outside.{Rose}
use Rattle.rdb_runner.specs.declared.reading.Unread.{Unread}
use Rattle.rdb_runner.specs.declared.reading.Unread.TheVariants.{At, NoMemory}
use Rattle.rdb_runner.specs.declared.reading.TheConstants.{FILE_LIMIT}

-- what the files tell of each name, and their names asked and their faults before a call and after it
pub record Sight : Type 0 where
  pub told : List ℕ → Option (List ℕ)
  pub asked : Option (List (List ℕ))
  pub asked_then : Option (List (List ℕ))
  pub faults : ℕ
  pub faults_then : ℕ

abbrev pub sight_of : {F : Type 0} → (F → List ℕ → Option (List ℕ)) → (F → Option (List (List ℕ))) → (F → ℕ) → F → F → Sight
sight_of told asked faults old new = record {
  told = told old;
  asked = asked old;
  asked_then = asked new;
  faults = faults old;
  faults_then = faults new;
}

-- the names that this call asked are these
abbrev pub Asks : Sight → List (List ℕ) → Type 0
Asks sight names = sight.asked_then ≡ option_map (λ before. before ++ names) sight.asked

-- the bytes are the file's where it tells them, and no more than the limit
abbrev pub IsBytesOf : (List ℕ → Option (List ℕ)) → List ℕ → List ℕ → Type 0
IsBytesOf told name bytes = IfSome (told name) (λ there. bytes ≡ there) × (length bytes ≤ FILE_LIMIT)

-- each name's bytes, in order
abbrev pub AreBytesOf : (List ℕ → Option (List ℕ)) → List (List ℕ) → List (List ℕ) → Type 0
AreBytesOf told [] [] = Unit {0}
AreBytesOf told (name ∷ names) (text ∷ texts) = IsBytesOf told name text × AreBytesOf told names texts
AreBytesOf told [] (text ∷ texts) = ⊥
AreBytesOf told (name ∷ names) [] = ⊥

-- the read of this name failed in this call, or its file is longer than the limit
abbrev pub CannotRead : Sight → List ℕ → Type 0
CannotRead sight name =
    Rose sight.faults sight.faults_then
    ⊎ (IfSome (sight.told name) (λ there. FILE_LIMIT < length there) × (sight.faults_then ≡ sight.faults))

-- what is said of one file
abbrev pub IsReadOf : Sight → List ℕ → ℕ → Result (List ℕ) Unread → Type 0
IsReadOf sight name place (Ok bytes) = IsBytesOf sight.told name bytes × Asks sight (name ∷ []) × (sight.faults_then ≡ sight.faults)
IsReadOf sight name place (Err (At there)) = (there ≡ place) × CannotRead sight name × Asks sight (name ∷ [])
IsReadOf sight name place (Err NoMemory) = (sight.asked_then ≡ sight.asked) × (sight.faults_then ≡ sight.faults)

-- What is said of all files: the bytes of each; or that the one at this place can't be read, the ones before it being read;
-- or that memory was wanting.
abbrev pub AreReadOf : Sight → List (List ℕ) → Result (List (List ℕ)) Unread → Type 0
AreReadOf sight names (Ok texts) = AreBytesOf sight.told names texts × Asks sight names × (sight.faults_then ≡ sight.faults)
AreReadOf sight names (Err (At place)) =
    (name : List ℕ) × (texts : List (List ℕ)) × (slice_get names place ≡ Some name)
    × AreBytesOf sight.told (take place names) texts × CannotRead sight name × Asks sight (take (place + 1) names)
AreReadOf sight names (Err NoMemory) =
    (asked : ℕ) × (asked ≤ length names) × Asks sight (take asked names) × (sight.faults_then ≡ sight.faults)

-- every file was read in this call, in order, and no read failed
abbrev pub AllRead : Sight → List (List ℕ) → List (List ℕ) → Type 0
AllRead sight names texts = AreBytesOf sight.told names texts × Asks sight names × (sight.faults_then ≡ sight.faults)

-- unreadable: the first file that can't be read is named, and nothing behind it was asked
abbrev pub IsUnreadable : List (List ℕ) → Sight → List ℕ → Type 0
IsUnreadable names sight text =
    (place : ℕ) × (name : List ℕ) × (texts : List (List ℕ)) × (slice_get names place ≡ Some name)
    × AreBytesOf sight.told (take place names) texts × CannotRead sight name × Asks sight (take (place + 1) names)
    × (text ≡ codes "regiondb: cannot read " ++ name ++ codes "\n")

-- the names that a call asked are the first of these
abbrev pub AsksFirst : Sight → List (List ℕ) → Type 0
AsksFirst sight names = (asked : ℕ) × (asked ≤ length names) × Asks sight (take asked names)

-- one of the files is told to be longer than the limit, whatever the call did
abbrev pub HasTooLong : List (List ℕ) → Sight → Type 0
HasTooLong names sight =
    (place : ℕ) × (name : List ℕ) × (there : List ℕ)
    × (slice_get names place ≡ Some name) × (sight.told name ≡ Some there) × (FILE_LIMIT < length there)
