-- Numbers of a stream, modulo 2^64.
use Rattle.std.proofs.Common.{◌≡◌, ℕ, ◌+◌, ◌%◌, ◌^◌, ap, ◌∙◌}
use Rattle.std.proofs.Math.Nat.{add-mod-mod, add_comm}

-- a sum doesn't care whether a summand was cut before
pub wrapped : (a b : ℕ) → (a % 2 ^ 64 + b) % 2 ^ 64 ≡ (a + b) % 2 ^ 64
wrapped a b =
    ap (λ (n : ℕ). n % 2 ^ 64) (add_comm (a % 2 ^ 64) b) ∙ add-mod-mod b a (2 ^ 64) ∙ ap (λ (n : ℕ). n % 2 ^ 64) (add_comm b a)
