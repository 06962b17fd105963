-- What a pass knows, and the rule that the lock's words, its slot and all passes keep.
-- Words: the tickets drawn, the tickets served, both modulo 2^64, the published length, 16 words of the board, which are 1 where that
-- client has stopped, and 16 of those who wait, bells and numbers of the line, which may hold any number.
-- The one slot has the value.
use Rattle.std.specs.Prelude.{◌≡◌, ◌⊎◌, ℕ, suc, zero, ◌+◌, ◌-◌, ◌%◌, ◌^◌, ◌<◌, ◌≤◌, List, [], ◌∷◌, ◌++◌, length, slice_index, sum_by}
use Rattle.std.specs.Prelude.{Contains, Option, Some, Bool, true, false}
use mathlib.Core.Option.{some}
use mathlib.Core.List.{IsPrefix}
use lib.ListN.{get_elem?}
use Rattle.atomic_table.specs.Table.{State}
use Rattle.rdb_base.specs.declared.chronicle.Chronicle.{Ghosts}
use Rattle.rdb_turn.specs.declared.view.View.{View}
use Rattle.rdb_turn.specs.declared.view.Stand.{Stand}
use Rattle.rdb_turn.specs.declared.view.Stand.TheVariants.{Away, Waits, Inside}

-- the passes that there can be, all told: fewer than the tickets that a word tells apart
abbrev pub all_shares : ℕ
all_shares = 18446744073709551615

-- whether a pass has the turn
abbrev pub is_inside : Stand → Bool
is_inside Away = false
is_inside (Waits n) = false
is_inside (Inside n) = true

-- the turns that a pass has: 0 or 1
abbrev pub turns_held : Stand → ℕ
turns_held Away = 0
turns_held (Waits n) = 0
turns_held (Inside n) = 1

-- the tickets that a pass has out: 0 or 1
abbrev pub tickets_out : Stand → ℕ
tickets_out Away = 0
tickets_out (Waits n) = 1
tickets_out (Inside n) = 1

-- a client that may have a word on the board
abbrev pub IsClient : ℕ → Type 0
IsClient client = (1 ≤ client) × (client ≤ 16)

-- the board says that the client has stopped
abbrev pub IsStopped : List ℕ → ℕ → Type 0
IsStopped board client = slice_index board (client - 1) ≡ 1

module _ {T : Type 0} where
  -- the slot's part is owned, and its owner left it last in this value
  abbrev pub Owns : List (ℕ × T) → ℕ → T → Type 0
  Owns [] slot x = ⊥
  Owns (p ∷ ps) slot x = ((p.0 ≡ slot) × (p.1 ≡ x)) ⊎ Owns ps slot x

  -- the slot's part is owned
  abbrev pub OwnsSlot : List (ℕ × T) → ℕ → Type 0
  OwnsSlot ps slot = (x : T) × Owns ps slot x

  -- the parts of the slots below a number, in one value
  unfoldable pub parts_below : ℕ → T → List (ℕ × T)
  parts_below zero x = []
  parts_below (suc n) x = (n, x) ∷ parts_below n x

  abbrev pub held_of : View T → ℕ
  held_of v = turns_held v.stand

  abbrev pub out_of : View T → ℕ
  out_of v = tickets_out v.stand

  abbrev pub shares_of : View T → ℕ
  shares_of v = v.shares

module _ {T E B P : Type 0} (c : Ghosts T E B P) where
  -- b may come of a: the base is the same, and the history goes on
  abbrev pub Follows : T → T → Type 0
  Follows a b = IsPrefix (c.history a) (c.history b) × (c.base b ≡ c.base a)

  -- the value may come of each of these
  abbrev pub FollowsAll : List T → T → Type 0
  FollowsAll [] now = Unit {0}
  FollowsAll (x ∷ xs) now = Follows x now × FollowsAll xs now

  -- the slot's part is as it was in a, or its owner was condemned and it is later
  abbrev pub KeepsPart : T → T → ℕ → Type 0
  KeepsPart a b slot = (c.part b slot ≡ c.part a slot) ⊎ (Contains (c.gone b) slot × c.later (c.part a slot) (c.part b slot))

  -- the view of the pass that is made with the turn
  abbrev pub first_view : T → Bool → View T
  first_view value boarded = record {
    seen = value ∷ [];
    shares = all_shares;
    stand = Away;
    owned = parts_below 32 value;
    gone = c.gone value;
    stopped = [];
    boarded = boarded;
    parting = 0;
  }

  -- a ticket that is out belongs to one pass; the one with the turn has seen the value as it is
  abbrev pub Stands : ℕ → ℕ → (ℕ → ℕ) → T → ℕ → List T → Stand → Type 0
  Stands drawn served owner now id seen Away = Unit {0}
  Stands drawn served owner now id seen (Waits n) = (served ≤ n) × (n < drawn) × (owner n ≡ id)
  Stands drawn served owner now id seen (Inside n) = (n ≡ served) × (n < drawn) × (owner n ≡ id) × (seen ≡ now ∷ [])

  -- what a pass knows of the board and of the parts is so
  pub record KnowsParts (boarded : Bool) (board : List ℕ) (holder : ℕ → ℕ) (now : T) (id : ℕ)
      (owned : List (ℕ × T)) (gone stopped : List ℕ) (tells : Bool) : Type 0 where
    pub parts : (slot : ℕ) (x : T) → Owns owned slot x → (holder slot ≡ id) × KeepsPart x now slot
    pub condemned : (slot : ℕ) → Contains gone slot → Contains (c.gone now) slot
    pub words : (client : ℕ) → Contains stopped client → IsClient client × IsStopped board client
    pub own_word : (client : ℕ) → OwnsSlot owned client → IsClient client → IsStopped board client → Contains stopped client
    pub told : tells ≡ true → boarded ≡ true

  pub record Knows (boarded : Bool) (board : List ℕ) (holder : ℕ → ℕ) (drawn served : ℕ) (owner : ℕ → ℕ)
      (now : T) (id : ℕ) (v : View T) : Type 0 where
    pub shared : tickets_out v.stand ≤ v.shares
    pub follows : FollowsAll v.seen now
    pub stands : Stands drawn served owner now id v.seen v.stand
    pub knows : KnowsParts boarded board holder now id v.owned v.gone v.stopped v.boarded

  pub record Keeps (made : T) (boarded : Bool) (s : State (Option T) (View T)) : Type 0 where
    pub drawn : ℕ
    pub served : ℕ
    pub owner : ℕ → ℕ
    pub now : T
    pub board : List ℕ
    pub bells : List ℕ
    pub holder : ℕ → ℕ
    pub wide : length board ≡ 16
    pub hung : length bells ≡ 16
    pub words : s.words ≡ drawn % 2 ^ 64 ∷ served % 2 ^ 64 ∷ length (c.history now) ∷ (board ++ bells)
    pub shares : sum_by shares_of s.views ≡ all_shares
    pub out : drawn ≡ served + sum_by out_of s.views
    pub follows : Follows made now
    pub told : boarded ≡ true → (client : ℕ) → IsClient client → Contains (c.gone now) client → IsStopped board client
    pub knows : (id : ℕ) (v : View T) → get_elem? s.views id ≡ some v → Knows boarded board holder drawn served owner now id v
    pub home : sum_by held_of s.views ≡ 0 → s.homes ≡ some (Some now) ∷ []
