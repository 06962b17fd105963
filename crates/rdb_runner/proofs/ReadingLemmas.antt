-- What one more read adds to the reads so far.
use Rattle.std.proofs.Common.{◌≡◌, ℕ, ◌+◌, ◌<◌, inl, inr, List, [], ◌∷◌, ◌++◌, length, take, map, get_or, Option, Some, None, Err, IfSome, sym, ap, ◌∙◌, append_assoc, subst, arith}
use Rattle.std.specs.Prelude.{slice_get}
use Rattle.std.specs.Option.{option_map}
use Rattle.std.proofs.lemmas.List.{map_more, take-map}
use Rattle.rdb_base.specs.Outside.{Rose}
use Rattle.rdb_runner.specs.declared.reading.Unread.{Unread}
use Rattle.rdb_runner.specs.declared.reading.Unread.TheVariants.{At, NoMemory}
use Rattle.rdb_runner.specs.declared.reading.TheConstants.{FILE_LIMIT}
use Rattle.rdb_runner.specs.Reading.{AreBytesOf, IsBytesOf, IsReadOf, AreReadOf, CannotRead, Sight}

-- one more file's bytes
pub AreBytesOf-snoc : (told : List ℕ → Option (List ℕ)) (names texts : List (List ℕ)) (name text : List ℕ) → AreBytesOf told names texts → IsBytesOf told name text → AreBytesOf told (names ++ name ∷ []) (texts ++ text ∷ [])
AreBytesOf-snoc told [] [] name text all one = (one, tt)
AreBytesOf-snoc told [] (t ∷ ts) name text all one = absurd all
AreBytesOf-snoc told (n ∷ ns) [] name text all one = absurd all
AreBytesOf-snoc told (n ∷ ns) (t ∷ ts) name text all one = (all.0, AreBytesOf-snoc told ns ts name text all.1 one)

-- the bytes are as told by whoever tells the same of the name
pub IsBytesOf-told : (told old : List ℕ → Option (List ℕ)) (name text : List ℕ) → told name ≡ old name → IsBytesOf told name text → IsBytesOf old name text
IsBytesOf-told told old name text same h = (subst (λ (o : Option (List ℕ)). IfSome o (λ there. text ≡ there)) same h.0, h.1)

-- names asked in two runs
pub asked_on : (first mid last : Option (List (List ℕ))) (before more : List (List ℕ)) → mid ≡ option_map (λ names. names ++ before) first → last ≡ option_map (λ names. names ++ more) mid → last ≡ option_map (λ names. names ++ (before ++ more)) first
asked_on None mid last before more m l = l ∙ ap (option_map (λ names. names ++ more)) m
asked_on (Some all) mid last before more m l = l ∙ ap (option_map (λ names. names ++ more)) m ∙ ap Some (append_assoc all before more)

-- the front with one name more
pub take_map_more : {X : Type 0} {Y : Type 0} (f : X → Y) (xs : List X) (i : ℕ) (d : X) → i < length xs → take (i + 1) (map f xs) ≡ take i (map f xs) ++ f (get_or xs i d) ∷ []
take_map_more f xs i d h = take-map f (i + 1) xs ∙ map_more f xs i d h ∙ ap (λ ys. ys ++ f (get_or xs i d) ∷ []) (sym (take-map f i xs))

-- what was read before a read that is seen as `seen`
pub record ReadBefore (seen : Sight) (told : List ℕ → Option (List ℕ)) (asked : Option (List (List ℕ))) (faults : ℕ) (names texts : List (List ℕ)) (place : ℕ) (name : List ℕ) : Type 0 where
  pub told_same : (other : List ℕ) → seen.told other ≡ told other
  pub texts_read : AreBytesOf told (take place names) texts
  pub asked_so_far : seen.asked ≡ option_map (λ before. before ++ take place names) asked
  pub faults_same : seen.faults ≡ faults
  pub there : slice_get names place ≡ Some name
  pub inside : place < length names
  pub next : take (place + 1) names ≡ take place names ++ name ∷ []

-- the whole call's sight
abbrev pub whole : Sight → (List ℕ → Option (List ℕ)) → Option (List (List ℕ)) → ℕ → Sight
whole seen told asked faults = record { told = told; asked = asked; asked_then = seen.asked_then; faults = faults; faults_then = seen.faults_then }

cannot : (seen : Sight) (told : List ℕ → Option (List ℕ)) (asked : Option (List (List ℕ))) (faults : ℕ) (name : List ℕ) → seen.told name ≡ told name → seen.faults ≡ faults → CannotRead seen name → CannotRead (whole seen told asked faults) name
cannot seen told asked faults name t f (inl rose) = inl (subst (λ n. Rose n seen.faults_then) f rose)
cannot seen told asked faults name t f (inr long) = inr (subst (λ (o : Option (List ℕ)). IfSome o (λ there. FILE_LIMIT < length there)) t long.0, long.1 ∙ f)

pub read_stops : (seen : Sight) (told : List ℕ → Option (List ℕ)) (asked : Option (List (List ℕ))) (faults : ℕ) (names texts : List (List ℕ)) (place : ℕ) (name : List ℕ) → ReadBefore seen told asked faults names texts place name → (e : Unread) → IsReadOf seen name place (Err e) → AreReadOf (whole seen told asked faults) names (Err e)
read_stops seen told asked faults names texts place name b (At at) h =
    subst (λ (k : ℕ). AreReadOf (whole seen told asked faults) names (Err (At k))) (sym h.0)
    (name, texts, b.there, b.texts_read, cannot seen told asked faults name (b.told_same name) b.faults_same h.1, asked_on asked seen.asked seen.asked_then (take place names) (name ∷ []) b.asked_so_far h.2 ∙ ap (λ (ns : List (List ℕ)). option_map (λ before. before ++ ns) asked) (sym b.next))
read_stops seen told asked faults names texts place name b NoMemory h =
    (place, omega arith, h.0 ∙ b.asked_so_far, h.1 ∙ b.faults_same)
