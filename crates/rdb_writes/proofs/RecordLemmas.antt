-- One slot among the others, and what the undo records of all leave of a cell.
use Rattle.std.proofs.Common.{◌≡◌, ◌≢◌, ℕ, zero, suc, List, [], ◌∷◌, ◌++◌, set, Option, Some, None, false, refl, sym, ap, ◌∙◌, arith}
use Rattle.rdb_cells.specs.declared.pairs.Pair.{Pair}
use Rattle.rdb_cells.specs.Images.{Image, SameImage}
use Rattle.rdb_cells.specs.Records.{names, taken_back, settled, NoneNames, KeepsSettled}
use Rattle.rdb_cells.proofs.SettledLemmas.{taken_back-same, taken_back-other, settled-append, settled-same, settled-other}
use Rattle.rdb_registry.specs.declared.seat.Seat.{Seat}
use Rattle.rdb_registry.specs.Seats.{Seats, seat_in}
use Rattle.rdb_writes.specs.Grounds.{logged_in, undo_records}

-- a record in another slot
pub record IsOther (seats : Seats) (slot : ℕ) (seat : Seat) : Type 0 where
  pub place : ℕ
  pub at : seat_in seats place ≡ Some seat
  pub other : place ≢ slot

-- A slot, and the slots before and behind it.
pub record Around (seats : Seats) (slot : ℕ) (seat : Seat) : Type 0 where
  pub front : Seats
  pub back : Seats
  pub here : seats ≡ front ++ Some seat ∷ back
  pub changed : (x : Option Seat) → set seats slot x ≡ front ++ x ∷ back
  pub in_front : (i : ℕ) (s : Seat) → seat_in front i ≡ Some s → IsOther seats slot s
  pub behind : (i : ℕ) (s : Seat) → seat_in back i ≡ Some s → IsOther seats slot s

further : (o : Option Seat) (seats : Seats) (slot : ℕ) (s : Seat) → IsOther seats slot s → IsOther (o ∷ seats) (suc slot) s
further o seats slot s is = record { place = suc is.place; at = is.at; other = λ e. is.other (omega (arith, e)) }

pub around : (seats : Seats) (slot : ℕ) (seat : Seat) → seat_in seats slot ≡ Some seat → Around seats slot seat
around [] slot seat e = absurd cc
around (o ∷ os) zero seat e = record {
  front = [];
  back = os;
  here = ap (λ (x : Option Seat). x ∷ os) e;
  changed = λ x. refl;
  in_front = λ i s at. absurd (let no : None ≡ Some s = at in cc);
  behind = λ i s at. record { place = suc i; at = at; other = λ h. absurd (omega (arith, h)) };
}
around (o ∷ os) (suc slot) seat e =
    let rest = around os slot seat e in
    record {
      front = o ∷ rest.front;
      back = rest.back;
      here = ap (λ (xs : Seats). o ∷ xs) rest.here;
      changed = λ x. ap (λ (xs : Seats). o ∷ xs) (rest.changed x);
      in_front = go rest;
      behind = λ i s at. further o os slot s (rest.behind i s at);
    }
  where
    go : (rest : Around os slot seat) (i : ℕ) (s : Seat) → seat_in (o ∷ rest.front) i ≡ Some s → IsOther (o ∷ os) (suc slot) s
    go rest zero s at = record { place = zero; at = at; other = λ h. absurd (omega (arith, h)) }
    go rest (suc i) s at = further o os slot s (rest.in_front i s at)

pub records-append : (a b : Seats) → undo_records (a ++ b) ≡ undo_records a ++ undo_records b
records-append [] b = refl
records-append (o ∷ os) b = ap (λ (rs : List (List Pair)). logged_in o ∷ rs) (records-append os b)

-- no record has a pair of the cell
pub none_names : (seats : Seats) (n : ℕ) → ((i : ℕ) (s : Seat) → seat_in seats i ≡ Some s → names s.hand.undo.pairs n ≡ false) → NoneNames (undo_records seats) n
none_names [] n each = refl
none_names (None ∷ os) n each = none_names os n (λ i s at. each (suc i) s at)
none_names (Some seat ∷ os) n each = rw (each zero seat refl) (none_names os n (λ i s at. each (suc i) s at))

-- no undo record in another slot has a pair of the cell
abbrev pub OthersLack : Seats → ℕ → ℕ → Type 0
OthersLack seats slot n = (i : ℕ) (s : Seat) → i ≢ slot → seat_in seats i ≡ Some s → names s.hand.undo.pairs n ≡ false

module _ (seats : Seats) (slot : ℕ) (seat : Seat) (at : seat_in seats slot ≡ Some seat) where
  lacks : (n : ℕ) → OthersLack seats slot n → (s : Seat) → IsOther seats slot s → names s.hand.undo.pairs n ≡ false
  lacks n others s is = others is.place s is.other is.at

  none_in_front : (n : ℕ) → OthersLack seats slot n → (a : Around seats slot seat) → NoneNames (undo_records a.front) n
  none_in_front n others a = none_names a.front n (λ i s at. lacks n others s (a.in_front i s at))

  none_behind : (n : ℕ) → OthersLack seats slot n → (a : Around seats slot seat) → NoneNames (undo_records a.back) n
  none_behind n others a = none_names a.back n (λ i s at. lacks n others s (a.behind i s at))

  records_are : (a : Around seats slot seat) → undo_records seats ≡ undo_records a.front ++ seat.hand.undo.pairs ∷ undo_records a.back
  records_are a = ap undo_records a.here ∙ records-append a.front (Some seat ∷ a.back)

  records_now : (a : Around seats slot seat) (x : Option Seat) → undo_records (set seats slot x) ≡ undo_records a.front ++ logged_in x ∷ undo_records a.back
  records_now a x = ap undo_records (a.changed x) ∙ records-append a.front (x ∷ a.back)

  -- a step on the record and one cell, which keeps what others settle
  pub settled_kept : (x : Option Seat) (before after : Image) (m : ℕ) → OthersLack seats slot m → KeepsSettled seat.hand.undo.pairs (logged_in x) before after m → SameImage (settled (undo_records (set seats slot x)) after) (settled (undo_records seats) before)
  settled_kept x before after m others keeps n =
      let a = around seats slot seat at in
      ap (λ (rs : List (List Pair)). settled rs after n) (records_now a x)
      ∙ keeps.seen (undo_records a.back) (undo_records a.front) (none_behind m others a) (none_in_front m others a) n
      ∙ sym (ap (λ (rs : List (List Pair)). settled rs before n) (records_are a))

  -- a cell that the record has neither before nor after, and that stays
  pub settled_elsewhere : (x : Option Seat) (before after : Image) (n : ℕ) → names seat.hand.undo.pairs n ≡ false → names (logged_in x) n ≡ false → after n ≡ before n → settled (undo_records (set seats slot x)) after n ≡ settled (undo_records seats) before n
  settled_elsewhere x before after n unlogged_before unlogged_after same =
      let a = around seats slot seat at in
      let front = undo_records a.front in
      let back = undo_records a.back in
      let own = seat.hand.undo.pairs in
      ap (λ (rs : List (List Pair)). settled rs after n) (records_now a x)
      ∙ settled-append front (logged_in x ∷ back) after n
      ∙ settled-same front (taken_back (logged_in x) (settled back after)) (taken_back own (settled back before)) n
      (taken_back-other (logged_in x) (settled back after) n unlogged_after
      ∙ settled-same back after before n same
      ∙ sym (taken_back-other own (settled back before) n unlogged_before))
      ∙ sym (settled-append front (own ∷ back) before n)
      ∙ sym (ap (λ (rs : List (List Pair)). settled rs before n) (records_are a))

  -- a cell that no other record has is settled by this one
  pub settled_own : (image : Image) (n : ℕ) → OthersLack seats slot n → settled (undo_records seats) image n ≡ taken_back seat.hand.undo.pairs image n
  settled_own image n others =
      let a = around seats slot seat at in
      let front = undo_records a.front in
      let back = undo_records a.back in
      let own = seat.hand.undo.pairs in
      ap (λ (rs : List (List Pair)). settled rs image n) (records_are a)
      ∙ settled-append front (own ∷ back) image n
      ∙ settled-other front (taken_back own (settled back image)) n (none_in_front n others a)
      ∙ taken_back-same own (settled back image) image n (settled-other back image n (none_behind n others a))
