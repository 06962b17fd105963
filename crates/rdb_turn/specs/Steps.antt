-- What each kind of step tells the one who steps: of the pass before, the number found and the pass after.
use Rattle.std.specs.Prelude.{◌≤◌, ◌≡◌, ◌≢◌, ◌⊎◌, ℕ, ◌+◌, ◌-◌, ◌/◌, ◌%◌, ◌^◌, List, [], ◌∷◌, ◌++◌, length, map, filter, slice_index}
use Rattle.std.specs.Prelude.{Bool, cond, not, ◌&&◌, ◌||◌, ◌==◌, Contains, Option, Some, true, false}
use Rattle.atomic_table.specs.Table.{State, Me, rest, Seen}
use Rattle.atomic_table.specs.Seated.{TableId}
use Rattle.atomic_table.specs.declared.shared.Seat.{Seat}
use Rattle.rdb_base.specs.declared.chronicle.Chronicle.{Ghosts}
use Rattle.rdb_turn.specs.declared.view.View.{View}
use Rattle.rdb_turn.specs.declared.view.Stand.{Stand}
use Rattle.rdb_turn.specs.declared.view.Stand.TheVariants.{Away, Waits, Inside}
use Rattle.rdb_turn.specs.Rule.{all_shares, turns_held, Owns, OwnsSlot, IsClient, Follows, FollowsAll, KeepsPart}

-- what a pass knows, and what it holds of the slot
abbrev pub Mine : Type 0 → Type 0
Mine T = Me (Option T) (View T)

-- the client is among these
abbrev pub is_among : List ℕ → ℕ → Bool
is_among [] client = false
is_among (x ∷ xs) client = (x == client) || is_among xs client

module _ {T : Type 0} where
  -- the pass stands elsewhere
  abbrev pub standing : View T → Stand → View T
  standing v stand = record v { stand = stand }

  -- the pass has seen this value last
  abbrev pub seeing : View T → T → View T
  seeing v value = record v { seen = value ∷ [] }

  -- the pass knows that this client has stopped
  abbrev pub knowing : View T → ℕ → View T
  knowing v client = record v { stopped = client ∷ v.stopped }

  -- the parts, as left in this value
  abbrev pub left_in : List (ℕ × T) → T → List (ℕ × T)
  left_in ps value = map (λ (p : ℕ × T). (p.0, value)) ps

  -- the parts of all other slots
  abbrev pub without : ℕ → List (ℕ × T) → List (ℕ × T)
  without slot ps = filter (λ (p : ℕ × T). not (p.0 == slot)) ps

  -- the part of this slot
  abbrev pub only : ℕ → List (ℕ × T) → List (ℕ × T)
  only slot ps = filter (λ (p : ℕ × T). p.0 == slot) ps

  -- a ticket was drawn, whose number modulo 2^64 was found
  abbrev pub Draws : Mine T → ℕ → Mine T → Type 0
  Draws me found after = (n : ℕ) × (n % 2 ^ 64 ≡ found) × (after ≡ (standing me.0 (Waits n), me.1))

  -- the slot was given back
  abbrev pub Releases : Mine T → Mine T → Type 0
  Releases me after = after ≡ (standing me.0 Away, rest me.1)

  -- the value in the slot is the published one, and the next ticket is `next`
  abbrev pub MayRelease : Mine T → ℕ → Type 0
  MayRelease me next = (n : ℕ) × (value : T) × (me.0.stand ≡ Inside n) × (me.0.seen ≡ value ∷ []) × (me.1 ≡ (0, Some value) ∷ [])
      × (next ≡ (n + 1) % 2 ^ 64)

  -- the slot whose part is cut off next was noted
  abbrev pub Marks : ℕ → Mine T → Mine T → Type 0
  Marks slot me after = after ≡ (record me.0 { parting = slot }, me.1)

  -- the client's word was written
  abbrev pub Stops : ℕ → Mine T → Mine T → Type 0
  Stops client me after = after ≡ (knowing me.0 client, me.1)

  -- This was found in the client's word, in a table of which this holds and of what the pass knows after the look.
  pub record Finds (fits : State (Option T) (View T) → View T → Type 0) (client found : ℕ) (view : View T) : Type 0 where
    pub table : State (Option T) (View T)
    pub fit : fits table view
    pub word : slice_index table.words (2 + client) ≡ found

  -- what holds of a table and of the view that this seat has there, as the rule is kept
  abbrev pub AllowsSight : (State (Option T) (View T) → Type 0) → ℕ → (State (Option T) (View T) → View T → Type 0) → Type 0
  AllowsSight rule id fits = (table : State (Option T) (View T)) (view : View T) → Seen rule id view table → fits table view

  -- the client's word was looked at: 1 says that it has stopped, which a pass that owns its part knows already
  pub record Sees (fits : State (Option T) (View T) → View T → Type 0)
      (client : ℕ) (me : Mine T) (found : ℕ) (after : Mine T) : Type 0 where
    pub finds : Finds fits client found after.0
    pub yes : found ≡ 1 → after ≡ (knowing me.0 client, me.1)
    pub no : found ≢ 1 → after ≡ me
    pub known : Contains me.0.stopped client → found ≡ 1
    pub own : OwnsSlot me.0.owned client → found ≡ 1 → Contains me.0.stopped client

  -- the seat is one of a turn lock's table, which has 35 words and a slot
  abbrev pub IsAt : TableId → Seat (Option T) (View T) → Type 0
  IsAt z place = (place.table_id ≡ z) × (z.words ≡ 35) × (z.slots ≡ 1)

  -- the seat is the same, whatever it knows
  abbrev pub IsSamePlace : Seat (Option T) (View T) → Seat (Option T) (View T) → Type 0
  IsSamePlace old new = (new.table_id ≡ old.table_id) × (new.id ≡ old.id)

  abbrev pub half_kept : View T → View T
  half_kept v = record v { shares = v.shares - v.shares / 2 }

  abbrev pub half_given : View T → View T
  half_given v = record v { shares = v.shares / 2; stand = Away; owned = [] }

  abbrev pub part_kept : View T → View T
  part_kept v = record v { shares = v.shares - v.shares / 2; owned = without v.parting v.owned }

  abbrev pub part_given : View T → View T
  part_given v = record v { shares = v.shares / 2; stand = Away; owned = only v.parting v.owned }

  -- the slot's part is among these
  abbrev pub is_owned : List (ℕ × T) → ℕ → Bool
  is_owned [] slot = false
  is_owned (p ∷ ps) slot = (p.0 == slot) || is_owned ps slot

  -- Of two passes that meet, one knows that these clients have stopped: of those whose part the other owns, the other knows it too.
  -- Where it doesn't, 0 stands for that client. No pass ever knows that 0 has stopped, and so there is none.
  abbrev pub unagreed : List (ℕ × T) → List ℕ → List ℕ → List ℕ
  unagreed owned known [] = []
  unagreed owned known (client ∷ told) = cond (is_owned owned client && not (is_among known client)) (0 ∷ unagreed owned known told)
      (unagreed owned known told)

  -- the clients that two passes know to have stopped
  abbrev pub both_stopped : View T → View T → List ℕ
  both_stopped v w = v.stopped ++ (w.stopped ++ (unagreed v.owned v.stopped w.stopped ++ unagreed w.owned w.stopped v.stopped))

  abbrev pub both_views : View T → View T → View T
  both_views v w = record v {
    seen = v.seen ++ w.seen;
    shares = v.shares + w.shares;
    owned = v.owned ++ w.owned;
    gone = v.gone ++ w.gone;
    stopped = both_stopped v w;
  }

  abbrev pub spent_view : View T
  spent_view = record { seen = []; shares = 0; stand = Away; owned = []; gone = []; stopped = []; boarded = false; parting = 0 }

module _ {T E B P : Type 0} (c : Ghosts T E B P) where
  -- the pass has taken the value, with this ticket
  abbrev pub entered : View T → T → ℕ → View T
  entered v value n = record v { seen = value ∷ []; stand = Inside n; gone = c.gone value }

  -- the pass has left the value
  abbrev pub published : View T → T → View T
  published v value = record v { seen = value ∷ []; gone = c.gone value; owned = left_in v.owned value }

  -- what is said of the value that a pass enters with
  pub record Welcomes (v : View T) (value : T) : Type 0 where
    pub follows : FollowsAll c v.seen value
    pub parts : (slot : ℕ) (x : T) → Owns v.owned slot x → KeepsPart c x value slot
    pub gone : (slot : ℕ) → Contains v.gone slot → Contains (c.gone value) slot
    pub alive : v.boarded ≡ true → (client : ℕ) → IsClient client → OwnsSlot v.owned client → ¬ Contains v.stopped client
        → ¬ Contains (c.gone value) client

  -- the turn has come: the slot was taken
  abbrev pub Enters : Mine T → ℕ → Mine T → Type 0
  Enters me n after = (value : T) × (after ≡ (entered me.0 value n, (0, Some value) ∷ me.1)) × Welcomes me.0 value

  -- the one who waits enters exactly where its ticket is served
  abbrev pub Looks : Mine T → ℕ → Mine T → Type 0
  Looks me found after = (n : ℕ) → me.0.stand ≡ Waits n → (found ≡ n % 2 ^ 64 → Enters me n after) × (found ≢ n % 2 ^ 64 → after ≡ me)

  -- a pass may leave b after it entered with a: it changed what is its own, and of the condemned; on a board it condemned none but
  -- those whom it has seen stopped
  pub record MayLeave (v : View T) (a b : T) : Type 0 where
    pub follows : Follows c a b
    pub gone : (slot : ℕ) → Contains (c.gone a) slot → Contains (c.gone b) slot
    pub parts : (slot : ℕ) → ¬ OwnsSlot v.owned slot → KeepsPart c a b slot
    pub condemned : v.boarded ≡ true → (slot : ℕ) → Contains (c.gone b) slot → Contains (c.gone a) slot
        ⊎ (IsClient slot × Contains v.stopped slot)

  -- the value in the slot may be left by the pass with the turn, and has this length
  abbrev pub MayRaise : Mine T → ℕ → Type 0
  MayRaise me length_of = (n : ℕ) × (now : T) × (value : T) × (me.0.stand ≡ Inside n) × (me.0.seen ≡ now ∷ [])
      × (me.1 ≡ (0, Some value) ∷ []) × MayLeave me.0 now value × (length_of ≡ length (c.history value))

  -- the history of the value that the pass has seen last has this length
  abbrev pub WasAsLong : Mine T → ℕ → Type 0
  WasAsLong me long = (now : T) → me.0.seen ≡ now ∷ [] → long ≡ length (c.history now)

  -- the value in the slot was published
  abbrev pub Raises : Mine T → Mine T → Type 0
  Raises me after = (value : T) → me.1 ≡ (0, Some value) ∷ [] → after ≡ (published me.0 value, me.1)

  -- the published length was found, and that history was seen
  abbrev pub Fronts : Mine T → ℕ → Mine T → Type 0
  Fronts me found after = (value : T) × (after ≡ (seeing me.0 value, me.1)) × (found ≡ length (c.history value))
      × FollowsAll c me.0.seen value × (turns_held me.0.stand ≡ 1 → me.0.seen ≡ value ∷ [])

  -- of two values that were seen the first is kept, which comes of the other; nobody knows that client 0 has stopped, and no
  -- pass may become more than there can be
  abbrev pub KeepsFirst : Mine T → Mine T → Type 0
  KeepsFirst me after = (a b : T) → me.0.seen ≡ a ∷ b ∷ [] → (after ≡ (seeing me.0 a, me.1)) × Follows c b a × ¬ Contains me.0.stopped 0
      × (me.0.shares ≤ all_shares)

  -- the second is kept
  abbrev pub KeepsSecond : Mine T → Mine T → Type 0
  KeepsSecond me after = (a b : T) → me.0.seen ≡ a ∷ b ∷ [] → (after ≡ (seeing me.0 b, me.1)) × Follows c a b × ¬ Contains me.0.stopped 0
      × (me.0.shares ≤ all_shares)

  -- two values were seen, whose histories have these lengths
  abbrev pub SawTwo : Mine T → ℕ → ℕ → Type 0
  SawTwo me first second = (a b : T) × (me.0.seen ≡ a ∷ b ∷ []) × (first ≡ length (c.history a)) × (second ≡ length (c.history b))

  -- one of the two is kept, which comes of both; its history has this length
  pub record Settled (me : Mine T) (a b : T) (long : ℕ) (after : Mine T) : Type 0 where
    pub kept : T
    pub one : (kept ≡ a) ⊎ (kept ≡ b)
    pub seen : after ≡ (seeing me.0 kept, me.1)
    pub of_first : Follows c a kept
    pub of_second : Follows c b kept
    pub counted : long ≡ length (c.history kept)
    pub agreed : ¬ Contains me.0.stopped 0
    pub few : me.0.shares ≤ all_shares

  abbrev pub Settles : Mine T → ℕ → Mine T → Type 0
  Settles me long after = (a b : T) → me.0.seen ≡ a ∷ b ∷ [] → Settled me a b long after
