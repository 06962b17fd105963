-- What a pass knows after a call on its turn.
use Rattle.std.proofs.Common.{◌≤◌, ◌≡◌, ◌≢◌, ℕ, ◌+◌, ◌-◌, ◌%◌, ◌^◌, ◌⊎◌, Bool, true, false, eqb, List, [], ◌∷◌, ◌++◌, length, get_or, refl, ap, sym, ◌∙◌, subst, inl, inr, Option, Some, None, Contains, arith}
use Rattle.std.proofs.lemmas.Bool.Decides.{nat_tests}
use Rattle.std.proofs.lemmas.List.Elements.{Contains-append_left}
use mathlib.Core.List.{IsPrefix}
use mathlib.Core.Option.{some, some-injective}
use mathlib.Core.Option as maybe
use lib.ListN.{get_elem?}
use Rattle.std.proofs.Math.Nat.{mod-add-mod}
use Rattle.atomic_table.specs.Table.{State, Final, Seen}
use Rattle.rdb_base.specs.declared.chronicle.Chronicle.{Ghosts}
use Rattle.rdb_turn.specs.declared.view.View.{View}
use Rattle.rdb_turn.specs.declared.view.Stand.{Stand}
use Rattle.rdb_turn.specs.declared.view.Stand.TheVariants.{Away, Waits, Inside}
use Rattle.rdb_turn.specs.Rule.{all_shares, is_inside, Follows, FollowsAll, KeepsPart, OwnsSlot, IsClient, Keeps}
use Rattle.rdb_turn.specs.Steps.{Mine, standing, seeing, Sees, published, Welcomes, Raises, KeepsFirst, KeepsSecond, Settles, MayLeave, MayRaise, MayRelease, both_stopped, both_views}
use Rattle.rdb_turn.specs.declared.pass.Pass.{Pass}
use Rattle.rdb_turn.specs.declared.turn.Turn.{Turn}
use Rattle.rdb_turn.specs.Passes.{Fits, history_of, IsTableOf, SawStopped, IsStoppedInAll, SawRunning, EndsServed, EndsOut}
use Rattle.rdb_turn.proofs.Beginnings.{follows_itself}
use Rattle.rdb_turn.proofs.Kept.{closes, slot_of, all_served, sole_served, not_inside, first_of_all, on_board}

-- the pass with the turn has a ticket and the emptied slot
pub inside_at : {T : Type 0} (ticket : ℕ) (carried : List (ℕ × Option T)) (stand : Stand) → Fits ticket carried stand → is_inside stand ≡ true
    → (n : ℕ) × (stand ≡ Inside n) × (carried ≡ (0, None) ∷ []) × (n % 2 ^ 64 ≡ ticket)
inside_at ticket carried Away fits inside = absurd (cc inside)
inside_at ticket carried (Waits n) fits inside = absurd fits
inside_at ticket carried (Inside n) fits inside = (n, refl, fits.0, fits.1)

-- and any other stands away, with nothing in hand
pub away_at : {T : Type 0} (ticket : ℕ) (carried : List (ℕ × Option T)) (stand : Stand) → Fits ticket carried stand → is_inside stand ≡ false → (stand ≡ Away) × (carried ≡ [])
away_at ticket carried Away fits away = (refl, fits)
away_at ticket carried (Waits n) fits away = absurd fits
away_at ticket carried (Inside n) fits away = absurd (cc away)

pub fits_as : {T : Type 0} (ticket : ℕ) (m n : Mine T) → m.1 ≡ n.1 → m.0.stand ≡ n.0.stand → Fits ticket m.1 m.0.stand → Fits ticket n.1 n.0.stand
fits_as {T = T} ticket m n carried stand fits = subst (λ (x : List (ℕ × Option T) × Stand). Fits ticket x.0 x.1) (λ i. (carried i, stand i)) fits

module _ {T E B P : Type 0} (c : Ghosts T E B P) where
  -- what holds of the value that was taken, and of what the pass knew before it drew its ticket
  pub welcomed : (v : View T) (stand : Stand) (m n : Mine T) (value result : T) (carried : List (ℕ × Option T)) → m ≡ (standing v stand, carried) → Welcomes c m.0 value → n.1 ≡ (0, Some value) ∷ m.1 → n.1 ≡ (0, Some result) ∷ []
      → ((slot : ℕ) → Contains v.gone slot → Contains (c.gone result) slot)
      × (v.boarded ≡ true → (client : ℕ) → IsClient client → OwnsSlot v.owned client → ¬ Contains v.stopped client → ¬ Contains (c.gone result) client)
  welcomed v stand m n value result carried was wel took took' =
      let w : Welcomes c (standing v stand) value = subst (λ (k : Mine T). Welcomes c k.0 value) was wel in
      let both : Some value ≡ Some result = ap slot_of (sym took ∙ took') in
      let same : value ≡ result = cc both in
      let x : Welcomes c (standing v stand) result = subst (λ (y : T). Welcomes c (standing v stand) y) same w in
      (x.gone, x.alive)

  pub may_leave : (v : View T) (latest value : T) (turn_boarded : Bool) → v.seen ≡ latest ∷ [] → v.gone ≡ c.gone latest → v.boarded ≡ turn_boarded → c.base value ≡ c.base latest
      → IsPrefix (history_of c.history v.seen) (c.history value)
      → ((slot : ℕ) → Contains v.gone slot → Contains (c.gone value) slot)
      → ((slot : ℕ) (x : T) → v.seen ≡ x ∷ [] → ¬ OwnsSlot v.owned slot → KeepsPart c x value slot)
      → (turn_boarded ≡ true → (slot : ℕ) → Contains (c.gone value) slot → Contains v.gone slot ⊎ (IsClient slot × Contains v.stopped slot))
      → MayLeave c v latest value
  may_leave v latest value turn_boarded saw gone boarded same begins grew parts condemned = record {
    follows = (subst (λ (xs : List T). IsPrefix (history_of c.history xs) (c.history value)) saw begins, same);
    gone = λ slot h. grew slot (subst (λ (g : List ℕ). Contains g slot) (sym gone) h);
    parts = λ slot mine. parts slot latest saw mine;
    condemned = λ tells slot h. subst (λ (g : List ℕ). Contains g slot ⊎ (IsClient slot × Contains v.stopped slot)) gone (condemned (sym boarded ∙ tells) slot h);
  }

  pub may_raise : (v : View T) (latest value : T) (m : Mine T) (n : ℕ) → v.stand ≡ Inside n → v.seen ≡ latest ∷ [] → MayLeave c v latest value → m ≡ (v, (0, Some value) ∷ []) → (long : ℕ) → long ≡ length (c.history value) → MayRaise c m long
  may_raise v latest value m n inside saw may now long is =
      (n, latest, value, ap (λ (k : Mine T). k.0.stand) now ∙ inside, ap (λ (k : Mine T). k.0.seen) now ∙ saw, ap (λ (k : Mine T). k.1) now, subst (λ (k : Mine T). MayLeave c k.0 latest value) (sym now) may, is)

  -- what stands once the length is published
  pub raised : (v : View T) (value : T) (m n : Mine T) → m ≡ (v, (0, Some value) ∷ []) → Raises c m n → ◌≡◌ {A = Mine T} n (published c v value, (0, Some value) ∷ [])
  raised v value m n was tells = tells value (ap (λ (k : Mine T). k.1) was) ∙ ap (λ (k : Mine T). (published c k.0 value, k.1)) was

  pub may_release : (v : View T) (value : T) (m : Mine T) (n ticket next : ℕ) → v.stand ≡ Inside n → n % 2 ^ 64 ≡ ticket → next ≡ (ticket + 1) % 2 ^ 64
      → m ≡ (published c v value, (0, Some value) ∷ []) → MayRelease m next
  may_release v value m n ticket next inside drawn is was =
      (n, value, ap (λ (k : Mine T). k.0.stand) was ∙ inside, ap (λ (k : Mine T). k.0.seen) was, ap (λ (k : Mine T). k.1) was, is ∙ (ap (λ (t : ℕ). (t + 1) % 2 ^ 64) (sym drawn) ∙ mod-add-mod n (2 ^ 64) 1))

  -- which of two values is kept, once it is known which history is longer
  pub settled_first : (a b : T) (m n : Mine T) (long : ℕ) → m.0.seen ≡ a ∷ b ∷ [] → long ≡ length (c.history a) → KeepsFirst c m n → Settles c m long n
  settled_first a b m n long two is tells = λ x y seen.
      let told = tells x y seen in
      let first : a ≡ x = cc (two, seen) in
      record { kept = x; one = inl refl; seen = told.0; of_first = follows_itself c x; of_second = told.1; counted = is ∙ ap (λ z. length (c.history z)) first; agreed = told.2; few = told.3 }

  pub settled_second : (a b : T) (m n : Mine T) (long : ℕ) → m.0.seen ≡ a ∷ b ∷ [] → long ≡ length (c.history b) → KeepsSecond c m n → Settles c m long n
  settled_second a b m n long two is tells = λ x y seen.
      let told = tells x y seen in
      let second : b ≡ y = cc (two, seen) in
      record { kept = y; one = inr refl; seen = told.0; of_first = told.1; of_second = follows_itself c y; counted = is ∙ ap (λ z. length (c.history z)) second; agreed = told.2; few = told.3 }

  -- what a pass knows once it has met another
  pub met : (v w : View T) (a b : T) (carried : List (ℕ × Option T)) (m n : Mine T) (long : ℕ) → v.seen ≡ a ∷ [] → w.seen ≡ b ∷ [] → m ≡ (both_views v w, carried) → Settles c m long n
      → (kept : T) × ((kept ≡ a) ⊎ (kept ≡ b)) × (◌≡◌ {A = Mine T} n (seeing (both_views v w) kept, carried)) × Follows c a kept × Follows c b kept × (long ≡ length (c.history kept)) × ¬ Contains (both_stopped v w) 0 × (v.shares + w.shares ≤ all_shares)
  met v w a b carried m n long saw saw' was tells =
      let two : m.0.seen ≡ a ∷ b ∷ [] = ap (λ (k : Mine T). k.0.seen) was ∙ (λ i. saw i ++ saw' i) in
      let told = tells a b two in (
        told.kept,
        told.one,
        told.seen ∙ ap (λ (k : Mine T). (seeing k.0 told.kept, k.1)) was,
        told.of_first,
        told.of_second,
        told.counted,
        subst (λ (k : Mine T). ¬ Contains k.0.stopped 0) was told.agreed,
        subst (λ (k : Mine T). k.0.shares ≤ all_shares) was told.few,
      )

  -- what was found in a client's word stands on the board of a table that the turn may have after the look
  look_found : (turn : Turn T E B P) (id : ℕ) (new : Pass T) (client found : ℕ) (me : Mine T) → IsClient client → new.place.id ≡ id
      → Sees (λ table view. Seen (Keeps c turn.table.shared.key.made.value turn.table.shared.key.boarded) id view table) client me found new.place.me
      → (table : State (Option T) (View T)) × (is_table : IsTableOf c turn new table) × (get_or is_table.keeps.board (client - 1) 0 ≡ found)
  look_found turn id new client found me is same sees =
      let made = turn.table.shared.key.made.value in
      let f = sees.finds in (
        f.table,
        record { keeps = f.fit.0; knows = ap (λ (i : ℕ). get_elem? f.table.views i) same ∙ f.fit.1 },
        on_board c made turn.table.shared.key.boarded f.table f.fit.0 client found is f.word,
      )

  -- where the pass knows that a client has stopped, it has in every table that the turn may have
  in_all : (turn : Turn T E B P) (new : Pass T) (client : ℕ) → Contains new.place.me.0.stopped client → IsStoppedInAll c turn new client
  in_all turn new client known = λ table is_table.
      let word = (is_table.keeps.knows new.place.id new.place.me.0 is_table.knows).knows.words client known in
      record { word = word.1; owners = λ id view at owns. (is_table.keeps.knows id view at).knows.own_word client owns word.0 word.1 }

  -- where a look found 1
  pub stopped_in_all : (turn : Turn T E B P) (id : ℕ) (new : Pass T) (client found : ℕ) (me : Mine T)
      → Sees (λ table view. Seen (Keeps c turn.table.shared.key.made.value turn.table.shared.key.boarded) id view table) client me found new.place.me
      → eqb found 1 ≡ true → IsStoppedInAll c turn new client
  stopped_in_all turn id new client found me sees is =
      let one : found ≡ 1 = grind (arith, nat_tests, is) in
      in_all turn new client (subst (λ (k : Mine T). Contains k.0.stopped client) (sym (sees.yes one)) (Contains-append_left (client ∷ []) me.0.stopped client (first_of_all client)))

  pub saw_stopped : (turn : Turn T E B P) (id : ℕ) (new : Pass T) (client found : ℕ) (me : Mine T) → IsClient client → new.place.id ≡ id
      → Sees (λ table view. Seen (Keeps c turn.table.shared.key.made.value turn.table.shared.key.boarded) id view table) client me found new.place.me
      → eqb found 1 ≡ true → SawStopped c turn new client
  saw_stopped turn id new client found me client_is same sees is =
      let t = look_found turn id new client found me client_is same sees in
      (t.0, t.1, stopped_in_all turn id new client found me sees is t.0 t.1)

  -- and where it didn't
  pub saw_running : (turn : Turn T E B P) (id : ℕ) (new : Pass T) (client found : ℕ) (me : Mine T) → IsClient client → new.place.id ≡ id
      → Sees (λ table view. Seen (Keeps c turn.table.shared.key.made.value turn.table.shared.key.boarded) id view table) client me found new.place.me
      → eqb found 1 ≡ false → SawRunning c turn new client
  saw_running turn id new client found me client_is same sees is =
      let other : found ≢ 1 = grind (arith, nat_tests, is) in
      let t = look_found turn id new client found me client_is same sees in
      (t.0, t.1, λ stopped. other (sym t.2 ∙ stopped))

  -- what is found as the turn ends
  pub ends : (made latest : T) (boarded : Bool) (ws : List ℕ) (xs : List (Option T)) (id : ℕ) (v : View T) (ticket serving : ℕ) (out : Option T)
      → Final (Seen (Keeps c made boarded) id v) ws xs → get_elem? ws 0 ≡ some ticket → get_elem? ws 1 ≡ some serving → ticket ≡ serving → get_elem? xs 0 ≡ some out → v.seen ≡ latest ∷ []
      → (now : T) × (out ≡ Some now) × (c.base now ≡ c.base made) × IsPrefix (history_of c.history v.seen) (c.history now)
  ends made latest boarded ws xs id v ticket serving out final first second same there saw =
      let end = closes c made boarded ws xs id v ticket serving final first second same in
      let follows = subst (λ (l : List T). FollowsAll c l end.0) saw end.3 in
      (end.0, some-injective out (Some end.0) (sym there ∙ end.1), end.2.1, subst (λ (l : List T). IsPrefix (history_of c.history l) (c.history end.0)) (sym saw) follows.0.0)

  -- what is told as the turn ends, where tickets are out
  pub ends_out : (turn : Turn T E B P) (pass : Pass T) (ws : List ℕ) (xs : List (Option T)) (ticket serving : ℕ)
      → Final (Seen (Keeps c turn.table.shared.key.made.value turn.table.shared.key.boarded) pass.place.id pass.place.me.0) ws xs → get_elem? ws 0 ≡ some ticket → get_elem? ws 1 ≡ some serving → ticket ≢ serving
      → EndsOut c turn pass ticket serving
  ends_out turn pass ws xs ticket serving (s, (r, at), words, count, values) first second out = record {
    table = s;
    is_table = record { keeps = r; knows = at };
    drawn = ap (λ (l : List ℕ). get_elem? l 0) words ∙ first;
    served = ap (λ (l : List ℕ). get_elem? l 1) words ∙ second;
    differ = out;
  }

  -- and where all are served
  pub ends_served : (turn : Turn T E B P) (pass : Pass T) (ws : List ℕ) (xs : List (Option T)) (ticket serving : ℕ) (out : Option T) (value : T)
      → Final (Seen (Keeps c turn.table.shared.key.made.value turn.table.shared.key.boarded) pass.place.id pass.place.me.0) ws xs → get_elem? ws 0 ≡ some ticket → get_elem? ws 1 ≡ some serving → ticket ≡ serving
      → get_elem? xs 0 ≡ some out → out ≡ Some value → EndsServed c turn pass value × (is_inside pass.place.me.0.stand ≡ false)
  ends_served turn pass ws xs ticket serving out value (s, (r, at), words, count, values) first second same there is =
      let made = turn.table.shared.key.made.value in
      let boarded = turn.table.shared.key.boarded in
      let equal : get_elem? s.words 1 ≡ get_elem? s.words 0 = (ap (λ (l : List ℕ). get_elem? l 1) words ∙ second) ∙ (ap some (sym same) ∙ sym (ap (λ (l : List ℕ). get_elem? l 0) words ∙ first)) in
      let end = all_served c made boarded s r equal in
      let home : get_elem? xs 0 ≡ some (Some r.now) = values 0 (Some r.now) (ap (λ (hs : List (maybe.Option (Option T))). get_elem? hs 0) end.1) in
      let both : Some r.now ≡ Some value = some-injective (Some r.now) out (sym home ∙ there) ∙ is in
      let last : r.now ≡ value = cc both in (
        record { table = s; is_table = record { keeps = r; knows = at }; served = equal; home = end.1 ∙ ap (λ (x : T). some (Some x) ∷ []) last; every = λ i u here. subst (λ (x : T). FollowsAll c u.seen x) last (r.knows i u here).follows },
        not_inside c made boarded s r pass.place.id pass.place.me.0 at end.0,
      )

  -- where the pass has met all others and is not inside, no ticket is out
  pub ends_sole : (turn : Turn T E B P) (pass : Pass T) (ws : List ℕ) (xs : List (Option T)) (ticket serving : ℕ)
      → Final (Seen (Keeps c turn.table.shared.key.made.value turn.table.shared.key.boarded) pass.place.id pass.place.me.0) ws xs → get_elem? ws 0 ≡ some ticket → get_elem? ws 1 ≡ some serving → ticket ≢ serving
      → pass.place.me.0.shares ≡ all_shares → pass.place.me.0.stand ≡ Away → ⊥
  ends_sole turn pass ws xs ticket serving (s, (r, at), words, count, values) first second out all away =
      let equal = sole_served c turn.table.shared.key.made.value turn.table.shared.key.boarded s r pass.place.id pass.place.me.0 at all away in
      out (some-injective ticket serving (sym first ∙ (ap (λ (l : List ℕ). get_elem? l 0) (sym words) ∙ (sym equal ∙ (ap (λ (l : List ℕ). get_elem? l 1) words ∙ second)))))
