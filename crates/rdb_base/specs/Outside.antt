-- What the counts and lists of the outside's traits mean.
use Rattle.std.specs.Prelude.{◌≡◌, ℕ, ◌+◌, ◌-◌, ◌^◌, ◌<◌, ◌≤◌, List, [], ◌∷◌, ◌++◌, length, Option, Result, Ok, Err, IfSome, min}
use Rattle.std.specs.Option.{option_map}
use Rattle.rdb_base.specs.declared.files.ReadFault.{ReadFault}
use Rattle.rdb_base.specs.declared.files.ReadFault.TheVariants.{Failed, TooLong, NoMemory}

-- a count of 64 bits rose, or stands still at its end
abbrev pub Rose : ℕ → ℕ → Type 0
Rose before now = min (before + 1) (2 ^ 64 - 1) ≤ now

-- What a read answers of a file whose bytes may be told, and the count of faults before it and after:
-- the file, of at most the budget; or that it is longer; or a fault, which alone raises the count; or that memory was wanting.
abbrev pub IsReadAnswer : Option (List ℕ) → ℕ → ℕ → ℕ → Result (List ℕ) ReadFault → Type 0
IsReadAnswer told before now budget (Ok bytes) = IfSome told (λ there. bytes ≡ there) × (length bytes ≤ budget) × (now ≡ before)
IsReadAnswer told before now budget (Err (TooLong limit)) = (limit ≡ budget) × IfSome told (λ there. budget < length there) × (now ≡ before)
IsReadAnswer told before now budget (Err Failed) = Rose before now
IsReadAnswer told before now budget (Err NoMemory) = now ≡ before

-- the names asked after one more read: with its name, but where memory was wanting
abbrev pub asked_after : Option (List (List ℕ)) → List ℕ → Result (List ℕ) ReadFault → Option (List (List ℕ))
asked_after asked name (Ok bytes) = option_map (λ names. names ++ name ∷ []) asked
asked_after asked name (Err (TooLong limit)) = option_map (λ names. names ++ name ∷ []) asked
asked_after asked name (Err Failed) = option_map (λ names. names ++ name ∷ []) asked
asked_after asked name (Err NoMemory) = asked
