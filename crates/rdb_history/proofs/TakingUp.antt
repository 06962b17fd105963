-- What holds of a commit's first operations while its writes are taken up.
use Rattle.std.proofs.Common.{◌≡◌, ◌≢◌, ℕ, suc, ◌+◌, ◌-◌, ◌*◌, ◌^◌, ◌%◌, ◌<◌, ◌≤◌, Bool, true, false, cond, ◌||◌, ◌==◌, List, [], ◌∷◌, ◌++◌, length, take, drop, set, slice_get, bit_or, filter_map, Option, Some, None, refl, sym, ap, subst, ◌∙◌, arith, inl, inr, ◌⊎◌, is_some}
use Rattle.std.specs.List.{list_any, cons_option}
use Rattle.std.specs.Option.{ForSome}
use Rattle.std.specs.Int.{bit_at}
use Rattle.std.specs.HashMap.{spare}
use Rattle.std.proofs.lemmas.List.{length_push, length-set}
use Rattle.std.proofs.lemmas.List.Elements.{filter_map-append}
use Rattle.std.proofs.lemmas.Nat.Bits.{bit_at-zero, bit_at_or, bit_at-pow_same, bit_at-pow_other}
use Rattle.std.proofs.lemmas.Bool.Decides.{nat_tests}
use Rattle.std.proofs.Permutation.{which}
use Rattle.std.proofs.lemmas.Bool.{cases_lt}
use Rattle.rdb_base.specs.Room.{Reserved}
use Rattle.rdb_base.specs.declared.operation.Op.{Op}
use Rattle.rdb_base.specs.declared.operation.Reply.{Reply}
use Rattle.rdb_base.specs.declared.journal.Entry.{Entry}
use Rattle.rdb_model.specs.Database.{Row}
use Rattle.rdb_model.specs.Touch.{written_by}
use Rattle.rdb_history.specs.declared.index.Position.{Position}
use Rattle.rdb_history.specs.declared.index.Write.{Write}
use Rattle.rdb_history.specs.Rows.{same_object}
use Rattle.rdb_history.specs.Kept.{Newest, newest_of, HasClasses}
use Rattle.rdb_history.specs.Indexing.{StandsAt, AreLed, AreKnown, position_of, WritesAgain, WritesFirst, IsIndexing}
use Rattle.rdb_history.proofs.ListLemmas.{get_left, get_there, get_set_other, take_more, drop_here}
use Rattle.rdb_history.proofs.IndexLemmas.{none_taken, again_taken, first_taken}

-- the first n operations are taken up: there is room for the others' writes, the classes so far are in the set, and the writes of other commits stay
pub record AreTakenUp (place : ℕ) (done : List (Op × Reply)) (old : Reserved Write) (before : Newest) (n classes : ℕ) (writes : Reserved Write) (table : Newest) : Type 0 where
  pub room : length (filter_map written_by (drop n done)) ≤ writes.room
  pub table_room : length (filter_map written_by (drop n done)) ≤ spare table
  pub known : AreKnown writes.items table
  pub longer : length old.items ≤ length writes.items
  pub classes_so_far : HasClasses classes (take n done)
  pub kept : (i : ℕ) → i < length old.items → slice_get writes.items i ≡ slice_get old.items i
  pub places : writes.room + length writes.items ≡ old.room + length old.items
  pub table_places : spare before + length old.items ≤ spare table + length writes.items
  pub indexed :
      (entries : List Entry) (rows : ℕ × ℕ → Option Row) → StandsAt entries place done → AreLed entries rows old.items before
      → IsIndexing entries rows (length old.items) (take n done) writes.items table

pub none_taken_up : (place : ℕ) (done : List (Op × Reply)) (old : Reserved Write) (before : Newest)
    → length (filter_map written_by done) ≤ old.room → length (filter_map written_by done) ≤ spare before → AreKnown old.items before
    → AreTakenUp place done old before 0 0 old before
none_taken_up place done old before room table_room known = record {
  room = room;
  table_room = table_room;
  known = known;
  longer = omega arith;
  classes_so_far = λ i h. bit_at-zero i;
  kept = λ i h. refl;
  places = refl;
  table_places = omega arith;
  indexed = λ entries rows stands led. record {
    count = omega arith;
    each = λ k object e. (cc);
    own = λ object i e h. absurd (let below = known object i e in omega arith);
    newest = λ object. led object;
    before = λ k object e. (cc);
  };
}

module _ (done : List (Op × Reply)) (n : ℕ) (d : Op × Reply) (here : slice_get done n ≡ Some d) where
  -- the writes that are left, where the next operation is none, and where it is one
  none_left : written_by d ≡ None → length (filter_map written_by (drop n done)) ≡ length (filter_map written_by (drop (n + 1) done))
  none_left none = ap (λ xs. length (filter_map written_by xs)) (drop_here done n d here) ∙ ap (λ w. length (cons_option w (filter_map written_by (drop (n + 1) done)))) none

  one_left : (own : ℕ × ℕ) → written_by d ≡ Some own → length (filter_map written_by (drop n done)) ≡ suc (length (filter_map written_by (drop (n + 1) done)))
  one_left own is = ap (λ xs. length (filter_map written_by xs)) (drop_here done n d here) ∙ ap (λ w. length (cons_option w (filter_map written_by (drop (n + 1) done)))) is

  -- the same, where it is known whether there is one
  pub none_taken_off : is_some (written_by d) ≡ false → length (filter_map written_by (drop n done)) ≡ length (filter_map written_by (drop (n + 1) done))
  none_taken_off none = go (written_by d) refl none
    where
      go : (w : Option (ℕ × ℕ)) → written_by d ≡ w → is_some w ≡ false → length (filter_map written_by (drop n done)) ≡ length (filter_map written_by (drop (n + 1) done))
      go None e f = none_left e
      go (Some own) e f = (cc)

  pub one_taken_off : is_some (written_by d) ≡ true → length (filter_map written_by (drop n done)) ≡ suc (length (filter_map written_by (drop (n + 1) done)))
  one_taken_off some = go (written_by d) refl some
    where
      go : (w : Option (ℕ × ℕ)) → written_by d ≡ w → is_some w ≡ true → length (filter_map written_by (drop n done)) ≡ suc (length (filter_map written_by (drop (n + 1) done)))
      go None e f = (cc)
      go (Some own) e f = one_left own e

  pub room_left : (own : ℕ × ℕ) (room : ℕ) → written_by d ≡ Some own → length (filter_map written_by (drop n done)) ≤ room → 0 < room
  room_left own room is enough = let e = one_left own is in omega arith

  -- the classes with those of the next operation
  none_written : written_by d ≡ None → filter_map written_by (take (n + 1) done) ≡ filter_map written_by (take n done)
  none_written none =
      ap (filter_map written_by) (take_more done n d here)
      ∙ filter_map-append written_by (take n done) (d ∷ [])
      ∙ ap (λ w. filter_map written_by (take n done) ++ cons_option w []) none
      ∙ append_none (filter_map written_by (take n done))
    where
      append_none : (xs : List (ℕ × ℕ)) → xs ++ [] ≡ xs
      append_none [] = refl
      append_none (x ∷ xs) = ap (λ ys. x ∷ ys) (append_none xs)

  one_written : (own : ℕ × ℕ) → written_by d ≡ Some own → filter_map written_by (take (n + 1) done) ≡ filter_map written_by (take n done) ++ own ∷ []
  one_written own is =
      ap (filter_map written_by) (take_more done n d here)
      ∙ filter_map-append written_by (take n done) (d ∷ [])
      ∙ ap (λ w. filter_map written_by (take n done) ++ cons_option w []) is

  classes_more : (classes : ℕ) (own : ℕ × ℕ) → written_by d ≡ Some own → HasClasses classes (take n done)
      → HasClasses (bit_or classes (2 ^ (own.0 % 64))) (take (n + 1) done)
  classes_more classes own is so_far i below =
      bit_now (which i (own.0 % 64))
      ∙ ap (λ os. cond (list_any (λ o. o.0 % 64 == i) os) 1 0) (sym (one_written own is))
    where
      any_pushed : (test : ℕ × ℕ → Bool) (os : List (ℕ × ℕ)) (b : Bool) → test own ≡ b → list_any test (os ++ own ∷ []) ≡ (list_any test os || b)
      any_pushed test [] b e = ap (λ t. t || false) e ∙ or_false b
        where
          or_false : (b : Bool) → (b || false) ≡ b
          or_false true = refl
          or_false false = refl
      any_pushed test (o ∷ os) b e = go (test o) (any_pushed test os b e)
        where
          go : (t : Bool) → list_any test (os ++ own ∷ []) ≡ (list_any test os || b) → (t || list_any test (os ++ own ∷ [])) ≡ ((t || list_any test os) || b)
          go true f = refl
          go false f = f

      or_true : (b : Bool) → (b || true) ≡ true
      or_true true = refl
      or_true false = refl

      or_none : (b : Bool) → (b || false) ≡ b
      or_none true = refl
      or_none false = refl

      now : ℕ
      now = bit_or classes (2 ^ (own.0 % 64))

      set_bit : bit_at now (own.0 % 64) ≡ 1
      set_bit =
          let both = bit_at_or classes (2 ^ (own.0 % 64)) (own.0 % 64) in
          let one = bit_at-pow_same (own.0 % 64) in
          let bit : bit_at classes (own.0 % 64) ≤ 1 = omega arith in
          omega (arith, both, one, bit)

      other_bit : i ≢ own.0 % 64 → bit_at now i ≡ bit_at classes i
      other_bit other =
          let both = bit_at_or classes (2 ^ (own.0 % 64)) i in
          let none = bit_at-pow_other (own.0 % 64) i other in
          omega (arith, both, none)

      bit_now : ((i ≡ own.0 % 64) ⊎ (i ≢ own.0 % 64)) → bit_at now i ≡ cond (list_any (λ o. o.0 % 64 == i) (filter_map written_by (take n done) ++ own ∷ [])) 1 0
      bit_now (inl e) =
          let yes : (own.0 % 64 == i) ≡ true = grind (arith, nat_tests) in
          ap (bit_at now) e ∙ set_bit
          ∙ sym (ap (λ b. cond b 1 0) (any_pushed (λ o. o.0 % 64 == i) (filter_map written_by (take n done)) true yes ∙ or_true (list_any (λ o. o.0 % 64 == i) (filter_map written_by (take n done)))))
      bit_now (inr other) =
          let no : (own.0 % 64 == i) ≡ false = grind (arith, nat_tests) in
          other_bit other ∙ so_far i below
          ∙ sym (ap (λ b. cond b 1 0) (any_pushed (λ o. o.0 % 64 == i) (filter_map written_by (take n done)) false no ∙ or_none (list_any (λ o. o.0 % 64 == i) (filter_map written_by (take n done)))))

  module _ (place : ℕ) (old : Reserved Write) (before : Newest) (classes : ℕ) (writes : Reserved Write) (table : Newest) (so_far : AreTakenUp place done old before n classes writes table) where
    -- an operation that wrote nothing
    pub nothing_written : written_by d ≡ None → AreTakenUp place done old before (n + 1) classes writes table
    nothing_written none = record {
      room = let e = none_left none in let f = so_far.room in omega arith;
      table_room = let e = none_left none in let f = so_far.table_room in omega arith;
      known = so_far.known;
      longer = so_far.longer;
      classes_so_far = λ i h. so_far.classes_so_far i h ∙ ap (λ os. cond (list_any (λ o. o.0 % 64 == i) os) 1 0) (sym (none_written none));
      kept = so_far.kept;
      places = so_far.places;
      table_places = so_far.table_places;
      indexed = λ entries rows stands led.
          subst (λ (xs : List (Op × Reply)). IsIndexing entries rows (length old.items) xs writes.items table) (sym (take_more done n d here))
          (none_taken entries rows (length old.items) (take n done) d (record { entry = place; operation = n }) writes.items table none (so_far.indexed entries rows stands led));
    }

    -- an operation that wrote an object
    pub one_taken_up : (own : ℕ × ℕ) (new : Reserved Write) (next : Newest) → written_by d ≡ Some own
        → ((i : ℕ) → newest_of table own ≡ Some i → length old.items ≤ i → WritesAgain i (record { entry = place; operation = n }) writes new table next)
        → (ForSome (newest_of table own) (λ i. i < length old.items) → WritesFirst own (record { entry = place; operation = n }) writes new table next)
        → 0 < writes.room
        → AreTakenUp place done old before (n + 1) (bit_or classes (2 ^ (own.0 % 64))) new next
    one_taken_up own new next is again first roomy = go (newest_of table own) refl
      where
        at : Position
        at = record { entry = place; operation = n }

        by_again : (i : ℕ) → newest_of table own ≡ Some i → length old.items ≤ i → AreTakenUp place done old before (n + 1) (bit_or classes (2 ^ (own.0 % 64))) new next
        by_again i found high =
            let within : i < length writes.items = so_far.known own i found in
            let was = get_there writes.items i within in
            let done_so = again i found high in
            let is_new = done_so.0 was.0 was.1 in
            let now : Write = record was.0 { after = at } in
            let long : length new.items ≡ length writes.items = ap (λ (w : Reserved Write). length w.items) is_new ∙ length-set writes.items i now in
            let roomy_as : new.room ≡ writes.room = ap (λ (w : Reserved Write). w.room) is_new in
            record {
              room = let e = one_left own is in let f = so_far.room in omega arith;
              table_room = let e = one_left own is in let f = so_far.table_room in subst (λ t. length (filter_map written_by (drop (n + 1) done)) ≤ spare t) (sym done_so.1) (omega arith);
              known = λ object j e. let f = so_far.known object j (subst (λ t. newest_of t object ≡ Some j) done_so.1 e) in omega arith;
              longer = let f = so_far.longer in omega arith;
              classes_so_far = classes_more classes own is so_far.classes_so_far;
              kept = λ j h. ap (λ (w : Reserved Write). slice_get w.items j) is_new ∙ get_set_other writes.items i j now (λ e. absurd (omega arith)) ∙ so_far.kept j h;
              places = let f = so_far.places in omega arith;
              table_places = subst (λ t. spare before + length old.items ≤ spare t + length new.items) (sym done_so.1) (let f = so_far.table_places in omega arith);
              indexed = λ entries rows stands led.
                  subst (λ t. IsIndexing entries rows (length old.items) (take (n + 1) done) new.items t) (sym done_so.1)
                  (subst (λ (ws : List Write). IsIndexing entries rows (length old.items) (take (n + 1) done) ws table) (sym (ap (λ (w : Reserved Write). w.items) is_new))
                  (subst (λ (xs : List (Op × Reply)). IsIndexing entries rows (length old.items) xs (set writes.items i now) table) (sym (take_more done n d here))
                  (again_taken entries rows (length old.items) (take n done) d at writes.items table own is (stands n ∙ here) i was.0 found high was.1 (so_far.indexed entries rows stands led))));
            }

        by_first : ForSome (newest_of table own) (λ i. i < length old.items) → AreTakenUp place done old before (n + 1) (bit_or classes (2 ^ (own.0 % 64))) new next
        by_first below =
            let done_so = first below in
            let is_new = done_so.written in
            let now : Write = record { before = position_of writes.items (newest_of table own); after = at } in
            let items_are : new.items ≡ writes.items ++ now ∷ [] = ap (λ (w : Reserved Write). w.items) is_new in
            let long : length new.items ≡ length writes.items + 1 = ap length items_are ∙ length_push writes.items now in
            let roomy_as : new.room ≡ writes.room - 1 = ap (λ (w : Reserved Write). w.room) is_new in
            record {
              room = let e = one_left own is in let f = so_far.room in omega arith;
              table_room = let e = one_left own is in let f = so_far.table_room in let g = done_so.room in omega arith;
              known = λ object j e. known_now object j long (same_object own object) (sym (done_so.noted object) ∙ e);
              longer = let f = so_far.longer in omega arith;
              classes_so_far = classes_more classes own is so_far.classes_so_far;
              kept = λ j h. ap (λ ws. slice_get ws j) items_are ∙ get_left writes.items (now ∷ []) j (let f = so_far.longer in omega arith) ∙ so_far.kept j h;
              places = let f = so_far.places in omega arith;
              table_places = let f = so_far.table_places in let g = done_so.room in omega arith;
              indexed = λ entries rows stands led.
                  subst (λ (ws : List Write). IsIndexing entries rows (length old.items) (take (n + 1) done) ws next) (sym items_are)
                  (subst (λ (xs : List (Op × Reply)). IsIndexing entries rows (length old.items) xs (writes.items ++ now ∷ []) next) (sym (take_more done n d here))
                  (first_taken entries rows (length old.items) (take n done) d at writes.items table own is (stands n ∙ here) next below done_so.noted (so_far.indexed entries rows stands led)));
            }
          where
            known_now : (object : ℕ × ℕ) (j : ℕ) → length new.items ≡ length writes.items + 1 → (b : Bool) → cond b (Some (length writes.items)) (newest_of table object) ≡ Some j → j < length new.items
            known_now object j long true e = let f : length writes.items ≡ j = (cc) in omega arith
            known_now object j long false e = let f = so_far.known object j e in omega arith

        go : (f : Option ℕ) → newest_of table own ≡ f → AreTakenUp place done old before (n + 1) (bit_or classes (2 ^ (own.0 % 64))) new next
        go None e = by_first (λ i g. (cc))
        go (Some i) e = elim (cases_lt i (length old.items)) [
          | inl low ↦ by_first (λ j g. let f : i ≡ j = (cc) in omega arith)
          | inr high ↦ by_again i e high
        ]
