-- What the rows hold once the parts are used.
use Rattle.std.proofs.Common.{◌≡◌, Bool, true, false, List, [], ◌∷◌, ◌++◌, Option, Some, None, refl, sym, ap, ◌∙◌, subst, codes, append_assoc}
use Rattle.std.specs.Prelude.{option_map}
use Rattle.std.specs.List.{flat_map}
use Rattle.std.specs.Option.{option_to_list}
use Rattle.std.proofs.lemmas.List.{append-nil}
use Rattle.clap.specs.declared.parser.matches.ValueSource.TheVariants.{CommandLine}
use Rattle.clap.specs.Walk.{Row, Rule, Text, at_row, without, with_values, more_values, stronger, used, reading_by}
use Rattle.rdb_words.specs.Grammar.{Word, Part, manager, pages, threads, name, IsPlain, manager_in, pages_in, threads_in, name_in, flag_to_list, Given}
use Rattle.rdb_words.specs.SimpleCommand.{IsPlainValue, manager_arg, pages_arg, threads_arg, name_arg, applied, AllFit}
use Rattle.rdb_words.proofs.Rows.{row_at, no_row, without_none, new_row, changed_row, other_row}

-- the row of an argument that was used with these values
abbrev pub row_of : Rule → List Text → Row
row_of a values = record { id = a.id; values = values; count = None; source = Some CommandLine; reading = reading_by a }

-- the row of the names, where there are some
abbrev pub names_row : List Word → Option Row
names_row [] = None
names_row (word ∷ words) = Some (row_of name_arg (word ∷ words))

abbrev pub flag_row : Bool → Option Row
flag_row true = Some (row_of threads_arg (codes "true" ∷ []))
flag_row false = None

-- the rows hold what is given so far
pub record Holds (rows : List Row) (m p : Option Word) (t : Bool) (ns : List Word) : Type 0 where
  pub manager_row : row_at (codes "manager") rows ≡ option_map (λ v. row_of manager_arg (v ∷ [])) m
  pub pages_row : row_at (codes "pages") rows ≡ option_map (λ v. row_of pages_arg (v ∷ [])) p
  pub threads_row : row_at (codes "threads") rows ≡ flag_row t
  pub names_row_is : row_at (codes "name") rows ≡ names_row ns

-- a use of an argument that has no row yet puts one behind the others
set_row : (a : Rule) (values : List Text) (rows : List Row) → row_at a.id rows ≡ None → with_values a.id (reading_by a) CommandLine values (without a.id rows)
    ≡ at_row a.id (more_values CommandLine values) (row_of a values ∷ []) rows
set_row a values rows none = ap (λ (rs : List Row). at_row a.id (more_values CommandLine values) (row_of a values ∷ []) rs) (without_none a.id rows none)

-- a row with more values of the command line
abbrev more : List Text → Row → Row
more values r = record r { values = r.values ++ values; source = Some (stronger r.source CommandLine) }

-- the row of the names grows
names_grow : (rows : List Row) (ns : List Word) (word : Word) → row_at (codes "name") rows ≡ names_row ns
    → row_at (codes "name") (used name_arg (word ∷ []) rows) ≡ names_row (ns ++ word ∷ [])
names_grow rows [] word is = new_row (codes "name") (more_values CommandLine (word ∷ [])) (row_of name_arg (word ∷ [])) rows is refl
names_grow rows (n ∷ ns) word is = changed_row (codes "name") (more (word ∷ [])) (row_of name_arg (word ∷ [])) (row_of name_arg (n ∷ ns)) rows is refl

module _ (rows : List Row) (m p : Option Word) (t : Bool) (ns : List Word) (holds : Holds rows m p t ns) where
  -- a name leaves the options
  pub holds_name : (word : Word) → Holds (used name_arg (word ∷ []) rows) m p t (ns ++ word ∷ [])
  holds_name word = record {
    manager_row = other_row (codes "name") (codes "manager") (more (word ∷ [])) (row_of name_arg (word ∷ [])) rows refl refl (λ r. refl) ∙ holds.manager_row;
    pages_row = other_row (codes "name") (codes "pages") (more (word ∷ [])) (row_of name_arg (word ∷ [])) rows refl refl (λ r. refl) ∙ holds.pages_row;
    threads_row = other_row (codes "name") (codes "threads") (more (word ∷ [])) (row_of name_arg (word ∷ [])) rows refl refl (λ r. refl) ∙ holds.threads_row;
    names_row_is = names_grow rows ns word holds.names_row_is;
  }

-- a first use of the manager
holds_manager : (rows : List Row) (p : Option Word) (t : Bool) (ns : List Word) → Holds rows None p t ns → (value : Word) → Holds (used manager_arg (value ∷ []) rows) (Some value) p t ns
holds_manager rows p t ns holds value =
    let is = set_row manager_arg (value ∷ []) rows holds.manager_row in
    let new = row_of manager_arg (value ∷ []) in
    record {
      manager_row = ap (row_at (codes "manager")) is ∙ new_row (codes "manager") (more_values CommandLine (value ∷ [])) new rows holds.manager_row refl;
      pages_row = ap (row_at (codes "pages")) is ∙ other_row (codes "manager") (codes "pages") (more (value ∷ [])) new rows refl refl (λ r. refl) ∙ holds.pages_row;
      threads_row = ap (row_at (codes "threads")) is ∙ other_row (codes "manager") (codes "threads") (more (value ∷ [])) new rows refl refl (λ r. refl) ∙ holds.threads_row;
      names_row_is = ap (row_at (codes "name")) is ∙ other_row (codes "manager") (codes "name") (more (value ∷ [])) new rows refl refl (λ r. refl) ∙ holds.names_row_is;
    }

-- and of the pages
holds_pages : (rows : List Row) (m : Option Word) (t : Bool) (ns : List Word) → Holds rows m None t ns → (value : Word) → Holds (used pages_arg (value ∷ []) rows) m (Some value) t ns
holds_pages rows m t ns holds value =
    let is = set_row pages_arg (value ∷ []) rows holds.pages_row in
    let new = row_of pages_arg (value ∷ []) in
    record {
      manager_row = ap (row_at (codes "manager")) is ∙ other_row (codes "pages") (codes "manager") (more (value ∷ [])) new rows refl refl (λ r. refl) ∙ holds.manager_row;
      pages_row = ap (row_at (codes "pages")) is ∙ new_row (codes "pages") (more_values CommandLine (value ∷ [])) new rows holds.pages_row refl;
      threads_row = ap (row_at (codes "threads")) is ∙ other_row (codes "pages") (codes "threads") (more (value ∷ [])) new rows refl refl (λ r. refl) ∙ holds.threads_row;
      names_row_is = ap (row_at (codes "name")) is ∙ other_row (codes "pages") (codes "name") (more (value ∷ [])) new rows refl refl (λ r. refl) ∙ holds.names_row_is;
    }

-- and of the flag
holds_threads : (rows : List Row) (m p : Option Word) (ns : List Word) → Holds rows m p false ns → Holds (used threads_arg [] rows) m p true ns
holds_threads rows m p ns holds =
    let yes = codes "true" ∷ [] in
    let is = set_row threads_arg yes rows holds.threads_row in
    let new = row_of threads_arg yes in
    record {
      manager_row = ap (row_at (codes "manager")) is ∙ other_row (codes "threads") (codes "manager") (more yes) new rows refl refl (λ r. refl) ∙ holds.manager_row;
      pages_row = ap (row_at (codes "pages")) is ∙ other_row (codes "threads") (codes "pages") (more yes) new rows refl refl (λ r. refl) ∙ holds.pages_row;
      threads_row = ap (row_at (codes "threads")) is ∙ new_row (codes "threads") (more_values CommandLine yes) new rows holds.threads_row refl;
      names_row_is = ap (row_at (codes "name")) is ∙ other_row (codes "threads") (codes "name") (more yes) new rows refl refl (λ r. refl) ∙ holds.names_row_is;
    }

-- ---- all parts

-- an option is given once: it wasn't given before, and what follows gives none
not_twice : {A : Type 0} (x : A) (before given : Option A) (xs : List A) → option_to_list before ++ (x ∷ xs) ≡ option_to_list given → before ≡ None
not_twice x None given xs is = refl
not_twice x (Some y) None xs is = absurd (cc)
not_twice x (Some y) (Some z) xs is = let never : x ∷ xs ≡ [] = cc in absurd (cc)

flag_not_twice : (before given : Bool) (bs : List Bool) → flag_to_list before ++ (true ∷ bs) ≡ flag_to_list given → before ≡ false
flag_not_twice false given bs is = refl
flag_not_twice true false bs is = absurd (cc)
flag_not_twice true true bs is = let never : true ∷ bs ≡ [] = cc in absurd (cc)

-- what the parts give from here on, with what was given so far, is what is given
pub record Left (parts : List Part) (m p : Option Word) (t : Bool) (given : Given) : Type 0 where
  pub manager_left : option_to_list m ++ flat_map manager_in parts ≡ option_to_list given.manager_value
  pub pages_left : option_to_list p ++ flat_map pages_in parts ≡ option_to_list given.pages_value
  pub threads_left : flag_to_list t ++ flat_map threads_in parts ≡ flag_to_list given.with_threads

-- a value that is given is the one that may be
plain_of : (value : Word) (given : Option Word) (xs : List Word) → value ∷ xs ≡ option_to_list given → IsPlainValue given → IsPlain value
plain_of value None xs is plain = absurd (cc)
plain_of value (Some v) xs is plain = let same : v ≡ value = cc in subst IsPlain same plain

-- the rows behind the parts, and that each may be used
pub record Done (parts : List Part) (rows : List Row) (given : Given) (ns : List Word) : Type 0 where
  pub fit : AllFit parts rows
  pub holds : Holds (applied rows parts) given.manager_value given.pages_value given.with_threads ns

same_option : {A : Type 0} (m given : Option A) → option_to_list m ++ [] ≡ option_to_list given → m ≡ given
same_option None None is = refl
same_option None (Some y) is = absurd (cc)
same_option (Some x) None is = absurd (cc)
same_option (Some x) (Some y) is = let same : x ≡ y = cc in ap Some same

same_flag : (t given : Bool) → flag_to_list t ++ [] ≡ flag_to_list given → t ≡ given
same_flag false false is = refl
same_flag true true is = refl
same_flag false true is = absurd (cc)
same_flag true false is = absurd (cc)

pub all_parts : (parts : List Part) (rows : List Row) (m p : Option Word) (t : Bool) (ns : List Word) (given : Given) → IsPlainValue given.manager_value → IsPlainValue given.pages_value
    → Holds rows m p t ns → Left parts m p t given → Done parts rows given (ns ++ flat_map name_in parts)
all_parts [] rows m p t ns given pm pp holds left =
    let a = same_option m given.manager_value left.manager_left in
    let b = same_option p given.pages_value left.pages_left in
    let d = same_flag t given.with_threads left.threads_left in
    record {
      fit = tt;
      holds = subst (Holds rows given.manager_value given.pages_value given.with_threads) (sym (append-nil ns))
          (subst (λ (x : Option Word). Holds rows x given.pages_value given.with_threads ns) a
          (subst (λ (x : Option Word). Holds rows m x given.with_threads ns) b
          (subst (λ (x : Bool). Holds rows m p x ns) d holds)));
    }
all_parts (manager value ∷ parts) rows m p t ns given pm pp holds left =
    let none = not_twice value m given.manager_value (flat_map manager_in parts) left.manager_left in
    let first = subst (λ (x : Option Word). Holds rows x p t ns) none holds in
    let is : value ∷ flat_map manager_in parts ≡ option_to_list given.manager_value = subst (λ (x : Option Word). option_to_list x ++ (value ∷ flat_map manager_in parts) ≡ option_to_list given.manager_value) none left.manager_left in
    let more = all_parts parts (used manager_arg (value ∷ []) rows) (Some value) p t ns given pm pp (holds_manager rows p t ns first value)
    (record { manager_left = is; pages_left = left.pages_left; threads_left = left.threads_left }) in
    record {
      fit = ((no_row (codes "manager") rows first.manager_row, plain_of value given.manager_value (flat_map manager_in parts) is pm), more.fit);
      holds = more.holds;
    }
all_parts (pages value ∷ parts) rows m p t ns given pm pp holds left =
    let none = not_twice value p given.pages_value (flat_map pages_in parts) left.pages_left in
    let first = subst (λ (x : Option Word). Holds rows m x t ns) none holds in
    let is : value ∷ flat_map pages_in parts ≡ option_to_list given.pages_value = subst (λ (x : Option Word). option_to_list x ++ (value ∷ flat_map pages_in parts) ≡ option_to_list given.pages_value) none left.pages_left in
    let more = all_parts parts (used pages_arg (value ∷ []) rows) m (Some value) t ns given pm pp (holds_pages rows m t ns first value)
    (record { manager_left = left.manager_left; pages_left = is; threads_left = left.threads_left }) in
    record {
      fit = ((no_row (codes "pages") rows first.pages_row, plain_of value given.pages_value (flat_map pages_in parts) is pp), more.fit);
      holds = more.holds;
    }
all_parts (threads ∷ parts) rows m p t ns given pm pp holds left =
    let none = flag_not_twice t given.with_threads (flat_map threads_in parts) left.threads_left in
    let first = subst (λ (x : Bool). Holds rows m p x ns) none holds in
    let is : true ∷ flat_map threads_in parts ≡ flag_to_list given.with_threads = subst (λ (x : Bool). flag_to_list x ++ (true ∷ flat_map threads_in parts) ≡ flag_to_list given.with_threads) none left.threads_left in
    let more = all_parts parts (used threads_arg [] rows) m p true ns given pm pp (holds_threads rows m p ns first)
    (record { manager_left = left.manager_left; pages_left = left.pages_left; threads_left = is }) in
    record { fit = (no_row (codes "threads") rows first.threads_row, more.fit); holds = more.holds }
all_parts (name word ∷ parts) rows m p t ns given pm pp holds left =
    let more = all_parts parts (used name_arg (word ∷ []) rows) m p t (ns ++ word ∷ []) given pm pp (holds_name rows m p t ns holds word)
    (record { manager_left = left.manager_left; pages_left = left.pages_left; threads_left = left.threads_left }) in
    record {
      fit = (tt, more.fit);
      holds = subst (Holds (applied rows (name word ∷ parts)) given.manager_value given.pages_value given.with_threads) (append_assoc ns (word ∷ []) (flat_map name_in parts)) more.holds;
    }
