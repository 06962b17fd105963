-- What each word of a command line does to the walk.
use Rattle.std.proofs.Common.{◌≡◌, ◌==◌, ◌&&◌, ◌||◌, not, ℕ, Bool, true, false, List, [], ◌∷◌, ◌++◌, Option, Some, None, refl, ap, ap₂, ◌∙◌, codes, slice_index}
use Rattle.std.specs.Prelude.{if◌then◌else◌}
use Rattle.std.specs.Option.{option_and_then, option_map_or}
use Rattle.std.specs.Str.{bytes_eq}
use Rattle.std.proofs.lemmas.Bool.{eqb-true}
use Rattle.std.proofs.lemmas.Slice.Eq.{bytes_eq-Decides}
use Rattle.clap.specs.Lexer.{long_of, long_of_rest, short_of, short_of_rest, strip_byte}
use Rattle.clap.specs.Walk.{Row, Text, Held, Step, Waiting, idle, option, positional, trailing, value, settled, settled_rows, used, walked, has_row, is_pending, pushed, after_step, to_positional, word_met, subcommand_met, subcommand_or_other, long_or_other, short_or_plain, plain_word}
use Rattle.clap.specs.Takes.{settle_passes, turn_passes, other_passes, flag_word_passes, bundle_passes, word_passes, step_passes, positional_passes}
use Rattle.rdb_words.specs.Grammar.{Word, IsPlain}
use Rattle.rdb_words.specs.SimpleCommand.{the_shape, rules, manager_arg, pages_arg, threads_arg, name_arg, kept, state, IsFree}

pub not_true : (b : Bool) → (b ≡ true → ⊥) → b ≡ false
not_true true never = absurd (never refl)
not_true false never = refl

pub and_false : (b : Bool) → (b && false) ≡ false
and_false true = refl
and_false false = refl

-- ---- what a word looks like that begins with no hyphen

no_hyphen : (x : ℕ) (xs : List ℕ) → IsPlain (x ∷ xs) → (x == 45) ≡ false
no_hyphen x xs plain = not_true (x == 45) (λ e. plain (eqb-true x 45 e))

stripped : (word : Word) → IsPlain word → strip_byte 45 word ≡ None
stripped [] plain = refl
stripped (x ∷ xs) plain = ap (λ (b : Bool). if b then Some xs else None) (no_hyphen x xs plain)

not_dashes : (word : Word) → IsPlain word → bytes_eq word (45 ∷ 45 ∷ []) ≡ false
not_dashes word plain = not_true (bytes_eq word (45 ∷ 45 ∷ [])) (λ e. plain (ap (λ (w : Word). slice_index w 0) ((bytes_eq-Decides word (45 ∷ 45 ∷ [])).0 e)))

no_long : (word : Word) → IsPlain word → long_of word ≡ None
no_long word plain = ap (λ (o : Option Word). option_and_then long_of_rest (option_and_then (strip_byte 45) o)) (stripped word plain)

no_short : (word : Word) → IsPlain word → short_of word ≡ None
no_short word plain = ap (λ (o : Option Word). option_and_then short_of_rest o) (stripped word plain)

no_subcommand : (waiting : Waiting) (word : Word) → subcommand_met [] waiting word ≡ None
no_subcommand idle word = refl
no_subcommand (option id) word = refl
no_subcommand positional word = refl

-- a word that begins with no hyphen is no flag
plain_met : (waiting : Waiting) (word : Word) (h : Held) → IsPlain word → word_met rules [] false waiting 1 word h ≡ plain_word rules waiting word h
plain_met waiting word h plain =
    ap (λ (o : Option Text). subcommand_or_other rules o waiting 1 word h) (no_subcommand waiting word)
    ∙ ap (λ (b : Bool). if b then (h, trailing 1) else long_or_other rules waiting word (long_of word) h) (not_dashes word plain)
    ∙ ap (λ (o : Option (Text × Option Text)). long_or_other rules waiting word o h) (no_long word plain)
    ∙ ap (λ (o : Option Text). short_or_plain rules waiting word o h) (no_short word plain)

plain_passes : (waiting : Waiting) (word : Word) (h : Held) → IsPlain word → word_passes the_shape [] false waiting word h ≡ true
plain_passes waiting word h plain =
    ap (λ (o : Option Text). other_passes the_shape o word h) (no_subcommand waiting word)
    ∙ ap (λ (b : Bool). b || flag_word_passes rules false (long_of word) word h) (not_dashes word plain)
    ∙ ap (λ (o : Option (Text × Option Text)). flag_word_passes rules false o word h) (no_long word plain)
    ∙ ap (λ (o : Option Text). option_map_or (λ flags. bundle_passes rules false flags h) o true) (no_short word plain)

-- ---- names

free_value : (waiting : Waiting) (word : Word) (h : Held) → IsFree waiting → plain_word rules waiting word h ≡ (h, value)
free_value idle word h free = refl
free_value positional word h free = refl
free_value (option id) word h free = absurd free

-- a word that goes to the names settles what is pending
to_names : (before : List Row) (pending : Option (Text × List Text)) (waiting : Waiting) (behind : Bool) (word : Word)
    → to_positional rules (Some name_arg) word (state before pending waiting behind) (kept before pending)
    ≡ state (settled_rows rules pending before) (Some (codes "name", word ∷ [])) positional (behind || false)
to_names before pending waiting behind word =
    ap (λ (b : Bool). record {
      held = pushed (codes "name") word (if b then kept before pending else settled rules (kept before pending));
      waiting = positional;
      position = 1;
      is_trailing = behind || false;
      stopped = None;
    }) (and_false (is_pending name_arg pending))

name_passes : (before : List Row) (pending : Option (Text × List Text)) → settle_passes rules false (kept before pending) ≡ true
    → positional_passes rules false name_arg (kept before pending) ≡ true
name_passes before pending passes =
    ap (λ (b : Bool). b || settle_passes rules false (kept before pending)) (and_false (is_pending name_arg pending)) ∙ passes

module _ (before : List Row) (pending : Option (Text × List Text)) (waiting : Waiting) (word : Word) where
  -- a name is one use of the names
  pub name_walks : IsFree waiting → IsPlain word
      → walked rules [] (state before pending waiting false) word ≡ state (settled_rows rules pending before) (Some (codes "name", word ∷ [])) positional false
  unfolding walked
  name_walks free plain =
      ap (λ (met : Held × Step). after_step rules word (state before pending waiting false) met.0 met.1)
      (plain_met waiting word (kept before pending) plain ∙ free_value waiting word (kept before pending) free)
      ∙ to_names before pending waiting false word

  pub name_turns : IsFree waiting → IsPlain word → settle_passes rules false (kept before pending) ≡ true
      → turn_passes the_shape [] (state before pending waiting false) word ≡ true
  name_turns free plain passes =
      ap₂ (λ (b : Bool) (met : Held × Step). b && step_passes the_shape 1 met.0 met.1) (plain_passes waiting word (kept before pending) plain)
      (plain_met waiting word (kept before pending) plain ∙ free_value waiting word (kept before pending) free)
      ∙ name_passes before pending passes

  -- behind `--` each word is one
  pub trailing_walks : walked rules [] (state before pending waiting true) word ≡ state (settled_rows rules pending before) (Some (codes "name", word ∷ [])) positional true
  unfolding walked
  trailing_walks = to_names before pending waiting true word

  pub trailing_turns : settle_passes rules false (kept before pending) ≡ true → turn_passes the_shape [] (state before pending waiting true) word ≡ true
  trailing_turns passes = name_passes before pending passes

-- ---- options and the flag

-- a use that passes where what is pending does
pub both_pass : (b c : Bool) → b ≡ true → c ≡ false → ((b && ((not c || false) && true)) && true) ≡ true
both_pass b c e f = ap₂ (λ (x y : Bool). (x && ((not y || false) && true)) && true) e f

-- the option's word waits for the value
pub manager_walks : (before : List Row) (pending : Option (Text × List Text)) (waiting : Waiting) → IsFree waiting
    → walked rules [] (state before pending waiting false) (codes "--manager") ≡ state (settled_rows rules pending before) (Some ((codes "manager"), [])) (option (codes "manager")) false
unfolding walked
manager_walks before pending idle free = refl
manager_walks before pending positional free = refl
manager_walks before pending (option id) free = absurd free

pub manager_turns : (before : List Row) (pending : Option (Text × List Text)) (waiting : Waiting) → IsFree waiting → settle_passes rules false (kept before pending) ≡ true
    → turn_passes the_shape [] (state before pending waiting false) (codes "--manager") ≡ true
manager_turns before pending idle free passes = ap (λ (b : Bool). b && true) passes
manager_turns before pending positional free passes = ap (λ (b : Bool). b && true) passes
manager_turns before pending (option id) free passes = absurd free

-- the word behind it is the value
pub manager_value_walks : (rows : List Row) (word : Word) → IsPlain word
    → walked rules [] (state rows (Some ((codes "manager"), [])) (option (codes "manager")) false) word ≡ state rows (Some ((codes "manager"), word ∷ [])) idle false
unfolding walked
manager_value_walks rows word plain =
    ap (λ (met : Held × Step). after_step rules word (state rows (Some ((codes "manager"), [])) (option (codes "manager")) false) met.0 met.1)
    (plain_met (option (codes "manager")) word (kept rows (Some ((codes "manager"), []))) plain)

pub manager_value_turns : (rows : List Row) (word : Word) → IsPlain word
    → turn_passes the_shape [] (state rows (Some ((codes "manager"), [])) (option (codes "manager")) false) word ≡ true
manager_value_turns rows word plain =
    ap₂ (λ (b : Bool) (met : Held × Step). b && step_passes the_shape 1 met.0 met.1) (plain_passes (option (codes "manager")) word (kept rows (Some ((codes "manager"), []))) plain)
    (plain_met (option (codes "manager")) word (kept rows (Some ((codes "manager"), []))) plain)

-- or the value stands in the same word
pub manager_is_walks : (before : List Row) (pending : Option (Text × List Text)) (waiting : Waiting) (word : Word) → IsFree waiting
    → walked rules [] (state before pending waiting false) (codes "--manager" ++ codes "=" ++ word) ≡ state (used manager_arg (word ∷ []) (settled_rows rules pending before)) None idle false
unfolding walked
manager_is_walks before pending idle word free = refl
manager_is_walks before pending positional word free = refl
manager_is_walks before pending (option id) word free = absurd free

pub manager_is_turns : (before : List Row) (pending : Option (Text × List Text)) (waiting : Waiting) (word : Word) → IsFree waiting → settle_passes rules false (kept before pending) ≡ true
    → has_row (codes "manager") (settled_rows rules pending before) ≡ false → turn_passes the_shape [] (state before pending waiting false) (codes "--manager" ++ codes "=" ++ word) ≡ true
manager_is_turns before pending idle word free passes fresh = both_pass _ _ passes fresh
manager_is_turns before pending positional word free passes fresh = both_pass _ _ passes fresh
manager_is_turns before pending (option id) word free passes fresh = absurd free

-- the option's word waits for the value
pub pages_walks : (before : List Row) (pending : Option (Text × List Text)) (waiting : Waiting) → IsFree waiting
    → walked rules [] (state before pending waiting false) (codes "--pages") ≡ state (settled_rows rules pending before) (Some ((codes "pages"), [])) (option (codes "pages")) false
unfolding walked
pages_walks before pending idle free = refl
pages_walks before pending positional free = refl
pages_walks before pending (option id) free = absurd free

pub pages_turns : (before : List Row) (pending : Option (Text × List Text)) (waiting : Waiting) → IsFree waiting → settle_passes rules false (kept before pending) ≡ true
    → turn_passes the_shape [] (state before pending waiting false) (codes "--pages") ≡ true
pages_turns before pending idle free passes = ap (λ (b : Bool). b && true) passes
pages_turns before pending positional free passes = ap (λ (b : Bool). b && true) passes
pages_turns before pending (option id) free passes = absurd free

-- the word behind it is the value
pub pages_value_walks : (rows : List Row) (word : Word) → IsPlain word
    → walked rules [] (state rows (Some ((codes "pages"), [])) (option (codes "pages")) false) word ≡ state rows (Some ((codes "pages"), word ∷ [])) idle false
unfolding walked
pages_value_walks rows word plain =
    ap (λ (met : Held × Step). after_step rules word (state rows (Some ((codes "pages"), [])) (option (codes "pages")) false) met.0 met.1)
    (plain_met (option (codes "pages")) word (kept rows (Some ((codes "pages"), []))) plain)

pub pages_value_turns : (rows : List Row) (word : Word) → IsPlain word
    → turn_passes the_shape [] (state rows (Some ((codes "pages"), [])) (option (codes "pages")) false) word ≡ true
pages_value_turns rows word plain =
    ap₂ (λ (b : Bool) (met : Held × Step). b && step_passes the_shape 1 met.0 met.1) (plain_passes (option (codes "pages")) word (kept rows (Some ((codes "pages"), []))) plain)
    (plain_met (option (codes "pages")) word (kept rows (Some ((codes "pages"), []))) plain)

-- or the value stands in the same word
pub pages_is_walks : (before : List Row) (pending : Option (Text × List Text)) (waiting : Waiting) (word : Word) → IsFree waiting
    → walked rules [] (state before pending waiting false) (codes "--pages" ++ codes "=" ++ word) ≡ state (used pages_arg (word ∷ []) (settled_rows rules pending before)) None idle false
unfolding walked
pages_is_walks before pending idle word free = refl
pages_is_walks before pending positional word free = refl
pages_is_walks before pending (option id) word free = absurd free

pub pages_is_turns : (before : List Row) (pending : Option (Text × List Text)) (waiting : Waiting) (word : Word) → IsFree waiting → settle_passes rules false (kept before pending) ≡ true
    → has_row (codes "pages") (settled_rows rules pending before) ≡ false → turn_passes the_shape [] (state before pending waiting false) (codes "--pages" ++ codes "=" ++ word) ≡ true
pages_is_turns before pending idle word free passes fresh = both_pass _ _ passes fresh
pages_is_turns before pending positional word free passes fresh = both_pass _ _ passes fresh
pages_is_turns before pending (option id) word free passes fresh = absurd free

-- the flag
pub threads_walks : (before : List Row) (pending : Option (Text × List Text)) (waiting : Waiting) → IsFree waiting
    → walked rules [] (state before pending waiting false) (codes "--threads") ≡ state (used threads_arg [] (settled_rows rules pending before)) None idle false
unfolding walked
threads_walks before pending idle free = refl
threads_walks before pending positional free = refl
threads_walks before pending (option id) free = absurd free

pub threads_turns : (before : List Row) (pending : Option (Text × List Text)) (waiting : Waiting) → IsFree waiting → settle_passes rules false (kept before pending) ≡ true
    → has_row (codes "threads") (settled_rows rules pending before) ≡ false → turn_passes the_shape [] (state before pending waiting false) (codes "--threads") ≡ true
threads_turns before pending idle free passes fresh = both_pass _ _ passes fresh
threads_turns before pending positional free passes fresh = both_pass _ _ passes fresh
threads_turns before pending (option id) free passes fresh = absurd free

-- the end of the options
pub dashes_walk : (before : List Row) (pending : Option (Text × List Text)) (waiting : Waiting) → IsFree waiting → walked rules [] (state before pending waiting false) (codes "--") ≡ state before pending waiting true
unfolding walked
dashes_walk before pending idle free = refl
dashes_walk before pending positional free = refl
dashes_walk before pending (option id) free = absurd free

pub dashes_turn : (before : List Row) (pending : Option (Text × List Text)) (waiting : Waiting) → IsFree waiting → turn_passes the_shape [] (state before pending waiting false) (codes "--") ≡ true
dashes_turn before pending idle free = refl
dashes_turn before pending positional free = refl
dashes_turn before pending (option id) free = absurd free
