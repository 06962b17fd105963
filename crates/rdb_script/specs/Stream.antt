-- The stream of numbers from which the generated job is made, by the state from which the next number is drawn.
use Rattle.std.specs.Prelude.{ℕ, ◌+◌, ◌*◌, ◌/◌, ◌%◌, ◌^◌}

-- the state after a draw
unfoldable pub next_state : ℕ → ℕ
next_state state = (state * 6364136223846793005 + 1442695040888963407) % 2 ^ 64

-- the number that a draw gives, modulo a limit: the new state without its 33 lowest bits
unfoldable pub draw : ℕ → ℕ → ℕ
draw limit state = (next_state state / 2 ^ 33) % limit
