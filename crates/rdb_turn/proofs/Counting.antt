-- What the tests of parts need of a count that belongs to slot 1.
use Rattle.std.proofs.Common.{◌≡◌, ◌≢◌, ◌≤◌, ℕ, Bool, true, false, cond, eqb, List, [], ◌∷◌, ap, sym, ◌∙◌, refl, arith, ne_eqb, Contains}
use Rattle.std.specs.Bool.{MatchBool}
use Rattle.rdb_turn.proofs.Kept.{none_there}

-- the counts of all other slots are 0
pub elsewhere : (slot m n : ℕ) → slot ≢ 1 → ◌≡◌ {A = ℕ} (cond (eqb slot 1) m 0) (cond (eqb slot 1) n 0)
elsewhere slot m n ne = ap (λ b. cond b m 0) (ne_eqb slot 1 ne) ∙ sym (ap (λ b. cond b n 0) (ne_eqb slot 1 ne))

-- a count that is 0 is no higher than any other
pub lowered : (n : ℕ) (here : Bool) → cond here 0 0 ≤ cond here n 0
lowered n true = omega arith
lowered n false = omega arith

-- slot 1 is the only one that is ever condemned
abbrev pub gone_of : Bool → List ℕ
gone_of b = cond b (1 ∷ []) []

pub gone_grows : (b : Bool) (slot : ℕ) → Contains (gone_of b) slot → Contains (gone_of true) slot
gone_grows true slot h = h
gone_grows false slot h = absurd (none_there slot h)

pub first_of : (x : ℕ) (xs : List ℕ) → Contains (x ∷ xs) x
first_of x xs = (0, omega arith, refl)

-- what a call says of its answer yes
pub matched : (X Y : Type 0) (b : Bool) → b ≡ true → MatchBool b X Y → X
matched X Y true is h = h
matched X Y false is h = absurd (cc is)
