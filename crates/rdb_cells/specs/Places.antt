-- Different numbers in a list, and chains of those that share a bucket.
use Rattle.std.specs.Prelude.{◌≡◌, ◌≢◌, ◌<◌, ◌≤◌, ◌-◌, ◌*◌, ◌/◌, ◌%◌, ℕ, List, length, slice_index}

-- different numbers, oldest first, and how many may be held
pub record Numbers : Type 0 where
  pub numbers : List ℕ
  pub room : ℕ

-- no two of them are equal
abbrev pub AreDifferent : List ℕ → Type 0
AreDifferent numbers = (i j : ℕ) → i < length numbers → j < length numbers → slice_index numbers i ≡ slice_index numbers j → i ≡ j

-- the bucket of a number, among so many
abbrev pub bucket_of : ℕ → ℕ → ℕ
bucket_of count n = n * 2654435769 / 65536 % count

-- a link leads to the last number of the bucket that stands before a place: it is one more than that number's place, and 0
-- where there is none
pub record IsLink (bucket : ℕ → ℕ) (numbers : List ℕ) (b before link : ℕ) : Type 0 where
  pub within : link ≤ before
  pub last : (i : ℕ) → link ≤ i → i < before → bucket (slice_index numbers i) ≢ b
  pub here : 0 < link → bucket (slice_index numbers (link - 1)) ≡ b

-- the heads lead to the last number of each bucket, and the links from each number to the one before it in its bucket
pub record IsChained (bucket : ℕ → ℕ) (numbers links heads : List ℕ) : Type 0 where
  pub same : length links ≡ length numbers
  pub head : (b : ℕ) → b < length heads → IsLink bucket numbers b (length numbers) (slice_index heads b)
  pub link : (i : ℕ) → i < length numbers → IsLink bucket numbers (bucket (slice_index numbers i)) i (slice_index links i)
  pub differ : AreDifferent numbers
