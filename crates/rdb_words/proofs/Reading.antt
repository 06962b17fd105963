-- What the getters read of the words of a command line.
use Rattle.std.proofs.Common.{◌≡◌, ◌≤◌, ◌<◌, Bool, true, false, List, [], ◌∷◌, length, Option, None, Some, Ok, Err, Bor, refl, ap, ◌∙◌, codes, arith}
use Rattle.std.specs.Prelude.{Result, MatchResult, IfSome, option_map, unwrap_or}
use Rattle.std.specs.Result.{result_ok}
use Rattle.clap.specs.declared.parser.matches.Found.{Found}
use Rattle.clap.specs.Matches.{matched_of, raw_values, first_value, one_text}
use Rattle.clap.specs.Simple.{matches_of}
use Rattle.clap.specs.Walk.{rows_of, first_of, one_of, all_of}
use Rattle.clap.proofs.WalkLemmas.{first_value-rows, one_text-rows, raw_values-rows}
use Rattle.rdb_words.specs.Grammar.{Word, Given, texts, text_of}
use Rattle.rdb_words.specs.SimpleCommand.{Reads, the_app, flag_text, names_given}

-- names that have room are those that were found
pub ok_texts : {X E : Type 0} (items : X → List (Bor Word)) (L : Type 0) (F : E → Type 0) (xs : List (Bor Word)) (ys : List Word) (r : Result X E) → texts xs ≡ ys
    → MatchResult r (λ v. (items v ≡ xs) × L) F → IfSome (result_ok r) (λ v. texts (items v) ≡ ys)
ok_texts items L F xs ys (Ok v) e h = ap texts h.0 ∙ e
ok_texts items L F xs ys (Err w) e h = tt

-- the text of a value, if there is one
pub text_option : (o : Option (Bor Word)) → text_of o ≡ option_map (λ (t : Bor Word). t.now) o
text_option None = refl
text_option (Some t) = refl

all_names : (ns : List Word) → unwrap_or (names_given ns) [] ≡ ns
all_names [] = refl
all_names (n ∷ ns) = refl

module _ (f : Found) (words : List Word) (given : Given) (r : Reads words given) (rows : rows_of f ≡ matches_of the_app words) where
  pub names_found : unwrap_or (option_map raw_values (matched_of f (codes "name"))) [] ≡ given.names
  names_found =
      ap (λ (o : Option (List Word)). unwrap_or o []) (raw_values-rows f (codes "name") ∙ ap (all_of (codes "name")) rows ∙ r.names_is)
      ∙ all_names given.names

  pub manager_found : first_value f (codes "manager") ≡ given.manager_value
  manager_found = first_value-rows f (codes "manager") ∙ ap (first_of (codes "manager")) rows ∙ r.manager_is

  pub pages_found : first_value f (codes "pages") ≡ given.pages_value
  pages_found = first_value-rows f (codes "pages") ∙ ap (first_of (codes "pages")) rows ∙ r.pages_is

  pub threads_found : one_text f (codes "threads") ≡ Some (flag_text given.with_threads)
  threads_found = one_text-rows f (codes "threads") ∙ ap (one_of (codes "threads")) rows ∙ r.threads_is

-- the flag is set where its text says so
pub flag_is : (t result : Bool) (text : Option Word) → text ≡ Some (flag_text t) → (text ≡ Some (codes "true") → result ≡ true) → (text ≡ Some (codes "false") → result ≡ false) → result ≡ t
flag_is true result text is on off = on is
flag_is false result text is on off = off is

-- 18 names have room
pub have_room : (found names : List Word) → found ≡ names → length names ≤ 18 → 18 < length found → ⊥
have_room found names same few many = let e = ap (λ (xs : List Word). length xs) same in omega arith
