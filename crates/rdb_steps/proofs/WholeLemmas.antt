-- What is so of a World's state beside its cells, as memory and records change.
use Rattle.std.proofs.Common.{◌≡◌, ◌<◌, ◌+◌, ◌*◌, ◌-◌, ◌/◌, ◌==◌, ◌≤◌, ◌∷◌, ℕ, zero, suc, List, [], length, slice_get, nat_lt, false, cond, Option, Some, None, IsSome, option_map, option_and_then, refl, sym, subst, ◌∙◌, arith, inl, inr}
use Rattle.std.specs.Option.{option_flatten}
use Rattle.std.proofs.lemmas.Bool.{false≢true, ltb-true, ne_eqb}
use Rattle.rdb_schema.specs.declared.schema.Schema.{Schema}
use Rattle.rdb_pages.specs.Pages.{page_cells}
use Rattle.rdb_pages.specs.declared.cell.Cell.{Cell}
use Rattle.rdb_cells.proofs.SettledLemmas.{true_or_false}
use Rattle.rdb_cells.specs.Images.{AreBounded}
use Rattle.rdb_cells.specs.References.{class_head_ref, class_of_head, heads_of_a_class}
use Rattle.rdb_registry.specs.Registry.{Roll}
use Rattle.rdb_registry.specs.Seats.{EachSeat}
use Rattle.rdb_space.specs.Heads.{head_at, place_of_head}
use Rattle.rdb_space.specs.Memory.{GrantsPage, RegionCells, class_of, image_of}
use Rattle.rdb_transactions.specs.declared.transactions.Transactions.{Transactions}
use Rattle.rdb_transactions.specs.Sound.{IsSound}
use Rattle.rdb_steps.specs.declared.state.State.{State}
use Rattle.rdb_steps.specs.States.{AreFewer, HasClasses, IsFurnished, IsWhole, SpareFits, cell_count}
use Rattle.rdb_steps.specs.Steps.{WritesOne}
use Rattle.rdb_steps.proofs.PageLemmas.{in_page_or_not, outside}

-- memory and records change, and nothing else
pub whole_changed : {P : Type 0} (s : State P) (memory : RegionCells) (transactions : Transactions) → IsWhole s →
    length memory.owners ≡ length s.memory.owners → HasClasses s.schema memory → transactions.registry.classes ≡ s.transactions.registry.classes →
    IsSound transactions → EachSeat (λ slot. IsFurnished s.schema transactions.manager (cell_count s.schema s.memory)) transactions.registry.seats →
    SpareFits (cell_count s.schema s.memory) transactions → AreFewer s.counters.serials s.counters.ids.items transactions →
    IsWhole (record s { memory = memory; transactions = transactions })
whole_changed s memory transactions whole owners cells classes sound furnished spare fewer =
    let count : cell_count s.schema s.memory ≡ cell_count s.schema memory = λ i. page_cells * sym owners i + heads_of_a_class * length s.schema.classes in
    record {
      schema = whole.schema;
      served = whole.served;
      lawful = whole.lawful;
      store = whole.store;
      cells = cells;
      classes = classes ∙ whole.classes;
      ids = whole.ids;
      sound = sound;
      furnished = subst (λ (n : ℕ). EachSeat (λ slot. IsFurnished s.schema transactions.manager n) transactions.registry.seats) count furnished;
      spare = subst (λ (n : ℕ). SpareFits n transactions) count spare;
      fewer = fewer;
    }

-- memory alone
pub whole_grown : {P : Type 0} (s : State P) (memory : RegionCells) → IsWhole s → length memory.owners ≡ length s.memory.owners → HasClasses s.schema memory →
    IsWhole (record s { memory = memory })
whole_grown s memory whole owners cells = whole_changed s memory s.transactions whole owners cells (λ i. s.transactions.registry.classes) whole.sound whole.furnished whole.spare whole.fewer

-- the classes stay as a cell is written
pub classes_stay : (schema : Schema) (before after : RegionCells) → HasClasses schema before → WritesOne before after → HasClasses schema after
classes_stay schema before after cells one = record {
  heads = λ class within. one.classes (class_head_ref class).number ∙ cells.heads class within;
  only = λ n class is. cells.only n class (sym (one.classes n) ∙ is);
}

-- and as a page is granted
pub classes_granted : (schema : Schema) (before after : RegionCells) (roll : Roll) (class page : ℕ) (bounded : AreBounded (image_of before) (class_of before))
    (grants : GrantsPage before after class page) → class < length schema.classes → HasClasses schema before → HasClasses schema after
classes_granted schema before after roll class page bounded grants within cells = record {
  heads = λ k below.
      let there = cells.heads k below in
      grants.classes (class_head_ref k).number (outside before after roll class page bounded grants (class_head_ref k).number (subst (λ (o : Option ℕ). IsSome o) (sym there) refl)) ∙ there;
  only = λ n k is. elim (in_page_or_not before after roll class page bounded grants n) [
    | inl here ↦ (let same : class ≡ k = one_class class k (sym (grants.owned n here) ∙ is) in omega (arith, same, within))
    | inr beside ↦ cells.only n k (sym (grants.classes n beside) ∙ is)
  ];
}
  where
    one_class : (a b : ℕ) → ◌≡◌ {A = Option ℕ} (Some a) (Some b) → a ≡ b
    one_class a b e = cc

within_if : {A : Type 0} (xs : List A) (i : ℕ) → IsSome (slice_get xs i) → i < length xs
within_if [] i some = absurd (false≢true some)
within_if (x ∷ xs) zero some = omega arith
within_if (x ∷ xs) (suc i) some = let rest = within_if xs i some in omega (arith, rest)

then_some : {A B : Type 0} (f : A → Option B) (o : Option A) → IsSome (option_and_then f o) → IsSome o
then_some f None some = absurd (false≢true some)
then_some f (Some x) some = refl

map_some : {A B : Type 0} (f : A → B) (o : Option A) → IsSome (option_map f o) → IsSome o
map_some f None some = absurd (false≢true some)
map_some f (Some x) some = refl

-- so many classes have heads
pub heads_there : (schema : Schema) (memory : RegionCells) → HasClasses schema memory → (class : ℕ) → class < length schema.classes → class < length memory.heads
heads_there schema memory cells class within =
    let number = 2000000 + 16 * class in
    let there : IsSome (class_of memory number) = subst (λ (o : Option ℕ). IsSome o) (sym (cells.heads class within)) refl in
    let some : (number == 0) ≡ false = ne_eqb number 0 (λ e. omega (arith, e)) in
    let above : nat_lt number 2000000 ≡ false = not_below number 2000000 (omega arith) in
    let head : IsSome (option_map (λ (h : Cell). class_of_head number) (head_at memory.heads number)) = subst (λ (o : Option ℕ). IsSome o)
    (λ i. cond (some i) None (cond (above i) (option_flatten (slice_get memory.owners ((number - 1) / 64))) (option_map (λ (h : Cell). class_of_head number) (head_at memory.heads number)))) there in
    let slot = within_if memory.heads (class_of_head number) (then_some (λ (own : List Cell). slice_get own (place_of_head number)) (slice_get memory.heads (class_of_head number)) (map_some (λ (h : Cell). class_of_head number) (head_at memory.heads number) head)) in
    let divided : (number - 2000000) / 16 ≡ class = block class in
    omega (arith, slot, divided)
  where
    not_below : (n m : ℕ) → m ≤ n → nat_lt n m ≡ false
    not_below n m le = elim (true_or_false (nat_lt n m)) [
      | inl is ↦ absurd (let less : n < m = ltb-true n m is in omega (arith, less, le))
      | inr isnt ↦ isnt
    ]

    block : (k : ℕ) → (2000000 + 16 * k - 2000000) / 16 ≡ k
    block k = omega arith
