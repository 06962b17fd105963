-- What contracts say of a pass and its turn.
use Rattle.std.specs.Prelude.{◌≡◌, ◌≢◌, ℕ, ◌%◌, ◌^◌, ◌<◌, List, [], ◌∷◌, length, Option, Some, None, Bool, Contains, true, false}
use mathlib.Core.Option.{some}
use lib.ListN.{get_elem?}
use Rattle.atomic_table.specs.Table.{State}
use Rattle.rdb_base.specs.declared.chronicle.Chronicle.{Ghosts}
use Rattle.rdb_turn.specs.declared.pass.Pass.{Pass}
use Rattle.rdb_turn.specs.declared.turn.Turn.{Turn}
use Rattle.rdb_turn.specs.declared.view.View.{View}
use Rattle.rdb_turn.specs.declared.view.Stand.{Stand}
use Rattle.rdb_turn.specs.declared.view.Stand.TheVariants.{Away, Waits, Inside}
use Rattle.rdb_turn.specs.Rule.{all_shares, is_inside, IsStopped, OwnsSlot, FollowsAll, parts_below, Keeps}

-- what a pass holds of the slot, and its last ticket, fit where it stands: between two calls no pass waits
abbrev pub Fits : {T : Type 0} → ℕ → List (ℕ × Option T) → Stand → Type 0
Fits ticket carried Away = carried ≡ []
Fits ticket carried (Waits n) = ⊥
Fits ticket carried (Inside n) = (carried ≡ (0, None) ∷ []) × (n % 2 ^ 64 ≡ ticket)

-- What contracts see of a pass: the value that it has seen last, alone in a list; the slots whose parts it owns, each with the value in
-- which its owner left it last;
-- the slots that it has seen condemned; the clients that it has seen stopped; whose it is, with 0 for nobody's; whether it has the
-- turn; how many turns it has entered; and how many passes it may become.
pub record Known (T : Type 0) : Type 0 where
  pub seen : List T
  pub owned : List (ℕ × T)
  pub gone : List ℕ
  pub stopped : List ℕ
  pub client : ℕ
  pub has_turn : Bool
  pub turns : ℕ
  pub shares : ℕ

module _ {T : Type 0} where
  abbrev pub known : Pass T → Known T
  known pass = record {
    seen = pass.place.me.0.seen;
    owned = pass.place.me.0.owned;
    gone = pass.place.me.0.gone;
    stopped = pass.place.me.0.stopped;
    client = pass.client;
    has_turn = is_inside pass.place.me.0.stand;
    turns = pass.turns;
    shares = pass.place.me.0.shares;
  }

  -- The pass may become as many as there can be: what was ever split off has met it again, so no other pass can have the turn.
  abbrev pub HasMetAll : Pass T → Type 0
  HasMetAll pass = (known pass).shares ≡ all_shares

  -- the pass owns the part of the slot
  abbrev pub IsOwner : Pass T → ℕ → Type 0
  IsOwner pass slot = OwnsSlot pass.place.me.0.owned slot

-- the history of the value that was seen last
abbrev pub history_of : {T E : Type 0} → (T → List E) → List T → List E
history_of history [] = []
history_of history (x ∷ xs) = history x

module _ {T E B P : Type 0} (c : Ghosts T E B P) where
  -- the history that the pass has seen
  abbrev pub seen : Pass T → List E
  seen pass = history_of c.history pass.place.me.0.seen

  -- what is known of the pass that is made with the turn
  abbrev pub founder : T → Known T
  founder value = record {
    seen = value ∷ [];
    owned = parts_below 32 value;
    gone = c.gone value;
    stopped = [];
    client = 0;
    has_turn = false;
    turns = 0;
    shares = all_shares;
  }

  -- the base of the value that the turn was made with
  abbrev pub base_of : Turn T E B P → B
  base_of turn = c.base turn.table.shared.key.made.value

  -- it is a pass of this turn
  pub record IsPassOf (turn : Turn T E B P) (pass : Pass T) : Type 0 where
    pub table : pass.place.table_id ≡ turn.table.shared.table_id
    pub latest : T
    pub seen_last : pass.place.me.0.seen ≡ latest ∷ []
    pub counted : pass.length ≡ length (c.history latest)
    pub based : c.base latest ≡ base_of turn
    pub boarded : pass.place.me.0.boarded ≡ turn.boarded
    pub some_share : 0 < pass.shares
    pub shares : pass.shares ≡ pass.place.me.0.shares
    pub fits : Fits pass.ticket pass.place.me.1 pass.place.me.0.stand
    pub inside : is_inside pass.place.me.0.stand ≡ true → pass.place.me.0.gone ≡ c.gone latest

  -- the turn's table may be this one: it keeps the rule, and in it the pass knows what it knows
  pub record IsTableOf (turn : Turn T E B P) (pass : Pass T) (table : State (Option T) (View T)) : Type 0 where
    pub keeps : Keeps c turn.table.shared.key.made.value turn.table.shared.key.boarded table
    pub knows : get_elem? table.views pass.place.id ≡ some pass.place.me.0

  -- in this table the client's word says that it has stopped, and every pass that owns the client's part knows it
  pub record HasStopped (turn : Turn T E B P) (pass : Pass T) (client : ℕ) (table : State (Option T) (View T))
      (is_table : IsTableOf turn pass table) : Type 0 where
    pub word : IsStopped is_table.keeps.board client
    pub owners : (id : ℕ) (view : View T) → get_elem? table.views id ≡ some view → OwnsSlot view.owned client → Contains view.stopped client

  -- some table that the turn may have is one in which the client has stopped
  abbrev pub SawStopped : Turn T E B P → Pass T → ℕ → Type 0
  SawStopped turn pass client = (table : State (Option T) (View T)) × (is_table : IsTableOf turn pass table)
      × HasStopped turn pass client table is_table

  -- and every such table is
  abbrev pub IsStoppedInAll : Turn T E B P → Pass T → ℕ → Type 0
  IsStoppedInAll turn pass client = (table : State (Option T) (View T)) (is_table : IsTableOf turn pass table)
      → HasStopped turn pass client table is_table

  -- in some table that the turn may have, the client's word doesn't say that it has stopped
  abbrev pub SawRunning : Turn T E B P → Pass T → ℕ → Type 0
  SawRunning turn pass client = (table : State (Option T) (View T)) × (is_table : IsTableOf turn pass table)
      × (¬ IsStopped is_table.keeps.board client)

  -- the turn ends with as many tickets served as were drawn, and with this value in its slot, which goes on from all that any pass has seen
  pub record EndsServed (turn : Turn T E B P) (pass : Pass T) (value : T) : Type 0 where
    pub table : State (Option T) (View T)
    pub is_table : IsTableOf turn pass table
    pub served : get_elem? table.words 1 ≡ get_elem? table.words 0
    pub home : table.homes ≡ some (Some value) ∷ []
    pub every : (id : ℕ) (view : View T) → get_elem? table.views id ≡ some view → FollowsAll c view.seen value

  -- the turn ends with these tickets drawn and served, modulo 2^64, which differ
  pub record EndsOut (turn : Turn T E B P) (pass : Pass T) (ticket serving : ℕ) : Type 0 where
    pub table : State (Option T) (View T)
    pub is_table : IsTableOf turn pass table
    pub drawn : get_elem? table.words 0 ≡ some ticket
    pub served : get_elem? table.words 1 ≡ some serving
    pub differ : ticket ≢ serving

-- whether the turn was made with a board
abbrev pub is_boarded : {T E B P : Type 0} → Turn T E B P → Bool
is_boarded turn = turn.boarded
