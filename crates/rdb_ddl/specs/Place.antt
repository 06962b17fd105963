-- Lines and columns.
use Rattle.std.specs.Prelude.{ℕ, ◌+◌, ◌-◌, List, length, take, reverse, count_by, take_while, ◌==◌}
use Rattle.std.specs.Prelude.{not}

-- the bytes before the last `left` ones
abbrev pub before : List ℕ → ℕ → List ℕ
before text left = take (length text - left) text

-- one more than the line feeds before that place
abbrev pub line_of : List ℕ → ℕ → ℕ
line_of text left = count_by (λ byte. byte == 10) (before text left) + 1

-- the bytes after the last line feed, from the last one back
abbrev pub after_last_feed : List ℕ → List ℕ
after_last_feed text = take_while (λ byte. not (byte == 10)) (reverse text)

-- one more than the bytes that stand before that place in its line
abbrev pub column_of : List ℕ → ℕ → ℕ
column_of text left = length (after_last_feed (before text left)) + 1
