-- What the words behind a command's word give: options, each at most once, and names.
use Rattle.std.specs.Prelude.{◌≡◌, ℕ, ◌⊎◌, Bool, true, false, List, [], ◌∷◌, ◌++◌, map, Option, Some, None, codes, slice_index, ◌≢◌}
use Rattle.std.specs.List.{flat_map}
use Rattle.std.specs.Option.{option_to_list}
use Rattle.std.specs.Borrow.{Bor}
use Rattle.rdb_words.specs.declared.arguments.Arguments.{Arguments}
use Rattle.rdb_words.specs.declared.arguments.Piece.{Piece}
use Rattle.rdb_words.specs.declared.arguments.Piece.TheVariants.{Manager as ManagerPiece, Pages as PagesPiece, Threads as ThreadsPiece, Name as NamePiece}

-- the bytes of a word
abbrev pub Word : Type 0
Word = List ℕ

-- a part of the words between the command and `--`: an option with its value, a flag or a name
pub data Part : Type 0 where
  manager : Word → Part
  pages : Word → Part
  threads : Part
  name : Word → Part

-- the words begin with the option and its value, which is the next word or stands behind `=`
abbrev pub BeginsWithOption : Word → Word → List Word → List Word → Type 0
BeginsWithOption option value words rest =
    (words ≡ option ∷ value ∷ rest) ⊎ (words ≡ (option ++ codes "=" ++ value) ∷ rest)

-- a name before `--`: its first byte isn't 45, which is `-`; it may be empty
abbrev pub IsPlain : Word → Type 0
IsPlain word = slice_index word 0 ≢ 45

-- the words are this part, and then the rest
abbrev pub BeginsWith : Part → List Word → List Word → Type 0
BeginsWith (manager value) words rest = BeginsWithOption (codes "--manager") value words rest
BeginsWith (pages value) words rest = BeginsWithOption (codes "--pages") value words rest
BeginsWith threads words rest = words ≡ codes "--threads" ∷ rest
BeginsWith (name word) words rest = (words ≡ word ∷ rest) × IsPlain word

-- the words are these parts in turn, and then the rest
abbrev pub BeginsWithAll : List Part → List Word → List Word → Type 0
BeginsWithAll [] words rest = words ≡ rest
BeginsWithAll (part ∷ parts) words rest =
    (between : List Word) × BeginsWith part words between × BeginsWithAll parts between rest

-- nothing is left, or `--` and then names of any form
abbrev pub IsEnd : List Word → List Word → Type 0
IsEnd words names = ((words ≡ []) × (names ≡ [])) ⊎ (words ≡ codes "--" ∷ names)

-- the value that a part gives to `--manager`
abbrev pub manager_in : Part → List Word
manager_in (manager value) = value ∷ []
manager_in _ = []

-- the value that a part gives to `--pages`
abbrev pub pages_in : Part → List Word
pages_in (pages value) = value ∷ []
pages_in _ = []

-- the flag that a part sets
abbrev pub threads_in : Part → List Bool
threads_in threads = true ∷ []
threads_in _ = []

-- the name that a part is
abbrev pub name_in : Part → List Word
name_in (name word) = word ∷ []
name_in _ = []

-- a flag that is set, as often as it is
abbrev pub flag_to_list : Bool → List Bool
flag_to_list true = true ∷ []
flag_to_list false = []

-- the options, each at most once, and the names in their order
pub record Given : Type 0 where
  pub manager_value : Option Word
  pub pages_value : Option Word
  pub with_threads : Bool
  pub names : List Word

-- the words behind a command give these options and names
pub record Gives (words : List Word) (given : Given) : Type 0 where
  pub parts : List Part
  pub rest : List Word
  pub last_names : List Word
  pub split : BeginsWithAll parts words rest
  pub end : IsEnd rest last_names
  pub manager_once : flat_map manager_in parts ≡ option_to_list given.manager_value
  pub pages_once : flat_map pages_in parts ≡ option_to_list given.pages_value
  pub threads_once : flat_map threads_in parts ≡ flag_to_list given.with_threads
  pub all_names : flat_map name_in parts ++ last_names ≡ given.names

-- Below: what a reader lends, as bytes, and how it adds up what is given.

-- the bytes of lent texts
abbrev pub texts : List (Bor Word) → List Word
texts lent = map (λ (t : Bor Word). t.now) lent

-- a part, without the loan
abbrev pub part_of : Piece → Part
part_of (ManagerPiece value) = manager value.now
part_of (PagesPiece value) = pages value.now
part_of ThreadsPiece = threads
part_of (NamePiece word) = name word.now

-- the text of a value, if there is one
abbrev pub text_of : Option (Bor Word) → Option Word
text_of None = None
text_of (Some value) = Some value.now

-- what is given, without the loans
abbrev pub given_of : Arguments → Given
given_of a = record {
  manager_value = text_of a.manager;
  pages_value = text_of a.pages;
  with_threads = a.threads;
  names = texts a.names.items;
}

-- new is old with this part added
pub record Adds (part : Part) (old new : Given) : Type 0 where
  pub manager_added : option_to_list new.manager_value ≡ option_to_list old.manager_value ++ manager_in part
  pub pages_added : option_to_list new.pages_value ≡ option_to_list old.pages_value ++ pages_in part
  pub threads_added : flag_to_list new.with_threads ≡ flag_to_list old.with_threads ++ threads_in part
  pub names_added : new.names ≡ old.names ++ name_in part

-- what is given, with more names
abbrev pub with_names : Given → List Word → Given
with_names given more = record given { names = given.names ++ more }
