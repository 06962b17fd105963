-- Each kind of step keeps the rule of the turn lock.
use Rattle.std.proofs.Common.{◌≡◌, ◌≢◌, ℕ, ◌+◌, ◌-◌, ◌/◌, ◌%◌, ◌^◌, ◌<◌, ◌≤◌, ◌⊎◌, zero, suc, Bool, true, false, eqb, cond, List, [], ◌∷◌, ◌++◌, length, get_or, set, refl, ap, sym, ◌∙◌, subst, inl, inr, ⊎_elim, arith, Option, Some, None, sum_by, Contains, eq-eqb, ne_eqb, replicate, length-set, get_or-set_same, get_or-set_other}
use Rattle.std.proofs.Math.Nat.{mod-add-mod}
use Rattle.std.proofs.lemmas.List.{set-append_left, set-append_right, get_or_append_left}
use Rattle.std.proofs.lemmas.List.Sums.{sum_by_push}
use Rattle.std.proofs.lemmas.List.Elements.{Contains-append_left, Contains-append_right, Contains-append_cases}
use mathlib.Core.Logic.{dite}
use native.Mathlib.Decide.{ℕ_discrete}
use mathlib.Core.Option.{some, some-injective, some-ne-none}
use mathlib.Core.Option as maybe
use lib.ListN.{get_elem?}
use lib.Seq.{set-get_or}
use prog.Atomic.{either}
use Rattle.atomic_table.specs.Table.{State, Act, keeps, takes, gives, Valid, put_back, carried_after, stepped, Allows, Splits, Joins, opening, Final, Seen}
use Rattle.atomic_table.proofs.Lists.{at_set, set_again, one_turn, exchanged}
use Rattle.rdb_base.specs.declared.chronicle.Chronicle.{Ghosts}
use Rattle.rdb_turn.specs.declared.view.View.{View}
use Rattle.rdb_turn.specs.declared.view.Stand.{Stand}
use Rattle.rdb_turn.specs.declared.view.Stand.TheVariants.{Away, Waits, Inside}
use Rattle.rdb_turn.specs.Rule.{all_shares, is_inside, turns_held, tickets_out, first_view, held_of, out_of, shares_of, IsClient, IsStopped, Owns, OwnsSlot, Follows, FollowsAll, KeepsPart, Stands, KnowsParts, Knows, Keeps}
use Rattle.rdb_turn.specs.Steps.{Mine, standing, seeing, knowing, left_in, Draws, Looks, Raises, Releases, Fronts, KeepsFirst, KeepsSecond, Marks, Stops, AllowsSight, Sees, MayLeave, MayRaise, MayRelease, WasAsLong, entered, published, half_kept, half_given, part_kept, part_given, unagreed, both_stopped, both_views, spent_view}
use Rattle.rdb_turn.proofs.Beginnings.{follows_itself, follows_further, follows_between, all_further, all_of_both, part_further}
use Rattle.rdb_turn.proofs.Parts.{owned_below, owned_left, owned_both, owned_without, owned_only}
use Rattle.rdb_turn.proofs.Agreeing.{none_unagreed, stopped_both}
use Rattle.rdb_turn.proofs.Sums.{sum_set, sum_at, sum_below, sum_none}

-- f, but x at k
abbrev put : (ℕ → ℕ) → ℕ → ℕ → ℕ → ℕ
put f k x n = cond (eqb n k) x (f n)

put_here : (f : ℕ → ℕ) (k x : ℕ) → put f k x k ≡ x
put_here f k x = ap (λ b. cond b x (f k)) (eq-eqb k k refl)

put_else : (f : ℕ → ℕ) (k x n : ℕ) → n ≢ k → put f k x n ≡ f n
put_else f k x n ne = ap (λ b. cond b x (f n)) (ne_eqb n k ne)

-- what one passed to another is the other's
abbrev handed : (ℕ → ℕ) → ℕ → ℕ → ℕ → ℕ
handed f from to n = cond (eqb (f n) from) to (f n)

handed_on : (f : ℕ → ℕ) (from to n : ℕ) → f n ≡ from → handed f from to n ≡ to
handed_on f from to n e = ap (λ b. cond b to (f n)) (eq-eqb (f n) from e)

handed_not : (f : ℕ → ℕ) (from to n : ℕ) → f n ≢ from → handed f from to n ≡ f n
handed_not f from to n ne = ap (λ b. cond b to (f n)) (ne_eqb (f n) from ne)

-- the value that is held, if the slot is
abbrev pub slot_of : {T : Type 0} → List (ℕ × Option T) → Option T
slot_of [] = None
slot_of (x ∷ xs) = x.1

single : {A : Type 0} (xs : List A) (x : A) → length xs ≡ 1 → set xs 0 x ≡ x ∷ []
single [] x one = absurd (omega arith)
single (y ∷ []) x one = refl
single (y ∷ z ∷ zs) x one = absurd (omega arith)

-- what is found past the end of a list that has one more
at_end : {A : Type 0} (l : List A) (a b : A) (j : ℕ) → get_elem? (l ++ a ∷ []) j ≡ some b → ((j ≢ length l) × (get_elem? l j ≡ some b)) ⊎ ((j ≡ length l) × (a ≡ b))
at_end [] a b zero e = inr (refl, some-injective a b e)
at_end [] a b (suc j) e = absurd (some-ne-none b (sym e))
at_end (x ∷ xs) a b zero e = inl ((λ h. absurd (omega arith)), e)
at_end (x ∷ xs) a b (suc j) e = ⊎_elim (λ (t : (j ≢ length xs) × (get_elem? xs j ≡ some b)). inl ((λ h. t.0 (omega arith)), t.1)) (λ (t : (j ≡ length xs) × (a ≡ b)). inr (omega arith, t.1)) (at_end xs a b j e)

-- what is put where something is, is there
set_there : {A : Type 0} (l : List A) (i : ℕ) (a b : A) → get_elem? l i ≡ some a → get_elem? (set l i b) i ≡ some b
set_there [] i a b e = absurd (some-ne-none a (sym e))
set_there (x ∷ xs) zero a b e = refl
set_there (x ∷ xs) (suc i) a b e = set_there xs i a b e

-- the board lies behind three other words, and the bells behind the board
set_board : (a b d : ℕ) (board bells : List ℕ) (client x : ℕ) → length board ≡ 16 → IsClient client → set (a ∷ b ∷ d ∷ (board ++ bells)) (2 + client) x ≡ a ∷ b ∷ d ∷ (set board (client - 1) x ++ bells)
set_board a b d board bells client x wide is =
    let at : 2 + client ≡ suc (suc (suc (client - 1))) = omega (arith, is.0) in
    let low : client - 1 < length board = omega (arith, is.0, is.1, wide) in
    ap (λ (i : ℕ). set (a ∷ b ∷ d ∷ (board ++ bells)) i x) at ∙ ap (λ (ws : List ℕ). a ∷ b ∷ d ∷ ws) (set-append_left board bells (client - 1) x low)

get_board : (a b d : ℕ) (board bells : List ℕ) (client : ℕ) → length board ≡ 16 → IsClient client → get_or (a ∷ b ∷ d ∷ (board ++ bells)) (2 + client) 0 ≡ get_or board (client - 1) 0
get_board a b d board bells client wide is =
    let at : 2 + client ≡ suc (suc (suc (client - 1))) = omega (arith, is.0) in
    let low : client - 1 < length board = omega (arith, is.0, is.1, wide) in
    ap (λ (i : ℕ). get_or (a ∷ b ∷ d ∷ (board ++ bells)) i 0) at ∙ get_or_append_left board bells 0 (client - 1) low

set_bell : (a b d : ℕ) (board bells : List ℕ) (word x : ℕ) → length board ≡ 16 → 19 ≤ word → set (a ∷ b ∷ d ∷ (board ++ bells)) word x ≡ a ∷ b ∷ d ∷ (board ++ set bells (word - 19) x)
set_bell a b d board bells word x wide behind =
    let at : word ≡ suc (suc (suc (word - 3))) = omega (arith, behind) in
    let bell : word - 3 - 16 ≡ word - 19 = omega (arith, behind) in
    ap (λ (i : ℕ). set (a ∷ b ∷ d ∷ (board ++ bells)) i x) at
    ∙ (ap (λ (ws : List ℕ). a ∷ b ∷ d ∷ ws) (set-append_right board bells 16 (word - 3) x wide (omega (arith, behind))) ∙ ap (λ (i : ℕ). a ∷ b ∷ d ∷ (board ++ set bells i x)) bell)

-- a word that is written says that its client has stopped, and no other changes
stop_here : (board : List ℕ) (client : ℕ) → length board ≡ 16 → IsClient client → IsStopped (set board (client - 1) 1) client
stop_here board client wide is = let low : client - 1 < length board = omega (arith, is.0, is.1) in get_or-set_same board (client - 1) 1 0 low

stop_else : (board : List ℕ) (client other : ℕ) → IsClient client → IsClient other → other ≢ client → get_or (set board (client - 1) 1) (other - 1) 0 ≡ get_or board (other - 1) 0
stop_else board client other is is' ne = let apart : other - 1 ≢ client - 1 = λ e. ne (omega (arith, is.0, is'.0)) in get_or-set_other board (client - 1) (other - 1) 1 0 apart

stop_more : (board : List ℕ) (client other : ℕ) → length board ≡ 16 → IsClient client → IsClient other → IsStopped board other → IsStopped (set board (client - 1) 1) other
stop_more board client other wide is is' stopped = dite (ℕ_discrete other client)
    (λ (e : other ≡ client). subst (IsStopped (set board (client - 1) 1)) (sym e) (stop_here board client wide is))
    (λ (ne : other ≢ client). stop_else board client other is is' ne ∙ stopped)

-- a board on which nobody has stopped
abbrev pub clear : List ℕ
clear = 0 ∷ 0 ∷ 0 ∷ 0 ∷ 0 ∷ 0 ∷ 0 ∷ 0 ∷ 0 ∷ 0 ∷ 0 ∷ 0 ∷ 0 ∷ 0 ∷ 0 ∷ 0 ∷ []

-- what stands in a list of one
pub alone : (x y : ℕ) → Contains (x ∷ []) y → x ≡ y
alone x y (k, low, at) = let first : k ≡ 0 = omega arith in subst (λ (i : ℕ). get_or (x ∷ []) i y ≡ y) first at

pub first_of_all : (x : ℕ) → Contains (x ∷ []) x
first_of_all x = (0, omega arith, refl)

pub none_there : (x : ℕ) → Contains [] x → ⊥
none_there x (k, low, at) = omega arith

-- nobody knows that client 0 has stopped
nobody : {Q : ℕ → Type 0} (stopped : List ℕ) → ((client : ℕ) → Contains stopped client → IsClient client × Q client) → ¬ Contains stopped 0
nobody stopped words = λ h. let low : 1 ≤ 0 = (words 0 h).0.0 in omega (arith, low)

zeros : (n i : ℕ) → ◌≡◌ {A = ℕ} (get_or (replicate {A = ℕ} n 0) i 0) 0
zeros zero i = refl
zeros (suc n) zero = refl
zeros (suc n) (suc i) = zeros n i

module _ {T E B P : Type 0} (c : Ghosts T E B P) (made : T) (boarded : Bool) where
  abbrev St : Type 0
  St = State (Option T) (View T)

  abbrev Rule : St → Type 0
  Rule = Keeps c made boarded

  -- what holds of the one who stepped and of all others holds of all
  all_know : (Q : ℕ → View T → Type 0) (vs : List (View T)) (id : ℕ) (w : View T) → Q id w → ((j : ℕ) (v : View T) → j ≢ id → get_elem? vs j ≡ some v → Q j v)
      → (j : ℕ) (v : View T) → get_elem? (set vs id w) j ≡ some v → Q j v
  all_know Q vs id w mine others j v at = ⊎_elim (λ (t : (j ≡ id) × (w ≡ v)). subst (λ (x : ℕ × View T). Q x.0 x.1) (λ i. (sym t.0 i, t.1 i)) mine)
      (λ (t : (j ≢ id) × (get_elem? vs j ≡ some v)). others j v t.0 t.1) (at_set vs id j w v at)

  -- where nothing changes, the rule is kept
  still : (s : St) (ws : List ℕ) (id : ℕ) (v : View T) → Rule s → get_elem? s.views id ≡ some v → ws ≡ s.words → Rule record { words = ws; homes = s.homes; views = set s.views id v }
  still s ws id v r at same = subst (λ (x : List ℕ × List (View T)). Rule record { words = x.0; homes = s.homes; views = x.1 }) (λ i. (sym same i, sym (set_again s.views id v at) i)) r

  after_draw : (drawn served id : ℕ) (owner : ℕ → ℕ) (now : T) (j : ℕ) (seen : List T) (stand : Stand)
      → Stands c drawn served owner now j seen stand → Stands c (drawn + 1) served (put owner drawn id) now j seen stand
  after_draw drawn served id owner now j seen Away h = tt
  after_draw drawn served id owner now j seen (Waits n) h = let ne : n ≢ drawn = λ e. omega arith in (h.0, omega arith, put_else owner drawn id n ne ∙ h.2)
  after_draw drawn served id owner now j seen (Inside n) h = let ne : n ≢ drawn = λ e. omega arith in (h.0, omega arith, put_else owner drawn id n ne ∙ h.2, h.3)

  pub draws : (slots id : ℕ) (me : Mine T) → me.0.stand ≡ Away → 0 < me.0.shares → Allows Rule slots id me 0 (λ n. (n + 1) % 2 ^ 64) (Draws me)
  draws slots id me away share s r count at low =
      let w = standing me.0 (Waits r.drawn) in
      let k = r.knows id me.0 at in
      let none_out : out_of me.0 ≡ 0 = ap tickets_out away in
      let none_held : held_of me.0 ≡ 0 = ap turns_held away in
      let out = sum_set out_of s.views id me.0 w at in
      let held = sum_set held_of s.views id me.0 w at in
      let shares = sum_set shares_of s.views id me.0 w at in (
        w,
        keeps,
        tt,
        record {
          drawn = r.drawn + 1;
          served = r.served;
          owner = put r.owner r.drawn id;
          now = r.now;
          board = r.board;
          bells = r.bells;
          holder = r.holder;
          wide = r.wide;
          hung = r.hung;
          words = ap (λ (ws : List ℕ). set ws 0 ((get_or ws 0 0 + 1) % 2 ^ 64)) r.words ∙ ap (λ (n : ℕ). n ∷ r.served % 2 ^ 64 ∷ length (c.history r.now) ∷ (r.board ++ r.bells)) (mod-add-mod r.drawn (2 ^ 64) 1);
          shares = omega (arith, shares, r.shares);
          out = omega (arith, out, none_out, r.out);
          follows = r.follows;
          told = r.told;
          knows = all_know (Knows c boarded r.board r.holder (r.drawn + 1) r.served (put r.owner r.drawn id) r.now) s.views id w
              record { shared = share; follows = k.follows; stands = (omega (arith, r.out), omega arith, put_here r.owner r.drawn id); knows = k.knows }
              (λ j v ne there. let u = r.knows j v there in record { shared = u.shared; follows = u.follows; stands = after_draw r.drawn r.served id r.owner r.now j v.seen v.stand u.stands; knows = u.knows });
          home = λ none. r.home (omega (arith, held, none_held, none));
        },
        (r.drawn, sym (ap (λ (ws : List ℕ). get_or ws 0 0) r.words), refl),
      )

  -- fewer tickets are out than a word tells apart
  few_out : (s : St) → (r : Rule s) → r.drawn < r.served + 2 ^ 64
  few_out s r = let few = sum_below out_of shares_of s.views (λ i v at. (r.knows i v at).shared) in omega (arith, r.out, r.shares, few)

  -- who has the turn has its ticket out
  one_each : (stand : Stand) → turns_held stand ≤ tickets_out stand
  one_each Away = omega arith
  one_each (Waits n) = omega arith
  one_each (Inside n) = omega arith

  -- where another has drawn the ticket that is served, none is inside
  outside : (drawn served : ℕ) (owner : ℕ → ℕ) (now : T) (id j : ℕ) (seen : List T) (stand : Stand)
      → owner served ≡ id → j ≢ id → Stands c drawn served owner now j seen stand → turns_held stand ≡ 0
  outside drawn served owner now id j seen Away mine ne h = refl
  outside drawn served owner now id j seen (Waits n) mine ne h = refl
  outside drawn served owner now id j seen (Inside n) mine ne h = absurd (ne (sym h.2 ∙ (ap owner h.0 ∙ mine)))

  -- so the value is at home
  at_home : (s : St) (r : Rule s) (id : ℕ) (v : View T) → get_elem? s.views id ≡ some v → turns_held v.stand ≡ 0 → r.owner r.served ≡ id → sum_by held_of s.views ≡ 0
  at_home s r id v at none mine = sum_none held_of s.views (λ j u there.
      dite (ℕ_discrete j id)
      (λ (same : j ≡ id). ap held_of (some-injective u v (sym there ∙ (ap (get_elem? s.views) same ∙ at))) ∙ none)
      (λ (ne : j ≢ id). outside r.drawn r.served r.owner r.now id j u.seen u.stand mine ne (r.knows j u there).stands))

  -- a step that changes what one pass knows, but neither where it stands nor what it may become
  unmoved : (s : St) (r : Rule s) (id : ℕ) (v w : View T) (ws : List ℕ) → get_elem? s.views id ≡ some v → ws ≡ s.words → w.shares ≡ v.shares → w.stand ≡ v.stand → FollowsAll c w.seen r.now
      → Stands c r.drawn r.served r.owner r.now id w.seen w.stand → KnowsParts c boarded r.board r.holder r.now id w.owned w.gone w.stopped w.boarded
      → Rule record { words = ws; homes = s.homes; views = set s.views id w }
  unmoved s r id v w ws at same shares_same stand_same follows stands knows =
      let k = r.knows id v at in
      let held = sum_set held_of s.views id v w at in
      let out = sum_set out_of s.views id v w at in
      let shares = sum_set shares_of s.views id v w at in
      let held_same : held_of w ≡ held_of v = ap turns_held stand_same in
      let out_same : out_of w ≡ out_of v = ap tickets_out stand_same in
      let shared : tickets_out w.stand ≤ w.shares = omega (arith, out_same, shares_same, k.shared) in record {
        drawn = r.drawn;
        served = r.served;
        owner = r.owner;
        now = r.now;
        board = r.board;
        bells = r.bells;
        holder = r.holder;
        wide = r.wide;
        hung = r.hung;
        words = same ∙ r.words;
        shares = omega (arith, shares, shares_same, r.shares);
        out = omega (arith, out, out_same, r.out);
        follows = r.follows;
        told = r.told;
        knows = all_know (Knows c boarded r.board r.holder r.drawn r.served r.owner r.now) s.views id w
            record { shared = shared; follows = follows; stands = stands; knows = knows }
            (λ j u ne there. r.knows j u there);
        home = λ zero. r.home (omega (arith, held, held_same, zero));
      }

  module _ (slots id : ℕ) (me : Mine T) where
    stands_as : (s : St) (r : Rule s) (stand : Stand) → get_elem? s.views id ≡ some me.0 → me.0.stand ≡ stand → Stands c r.drawn r.served r.owner r.now id me.0.seen stand
    stands_as s r stand at is = subst (Stands c r.drawn r.served r.owner r.now id me.0.seen) is (r.knows id me.0 at).stands

    looks_in_vain : (n : ℕ) → me.0.stand ≡ Waits n → (s : St) → Rule s → get_elem? s.views id ≡ some me.0 → get_or s.words 1 0 ≢ n % 2 ^ 64
        → (w : View T) × (a : Act (Option T)) × Valid s.homes me.1 a × Rule (stepped s 1 (get_or s.words 1 0) id me.1 w a) × Looks c me (get_or s.words 1 0) (w, carried_after me.1 a)
    looks_in_vain n waits s r at ne = (
      me.0,
      keeps,
      tt,
      still s (set s.words 1 (get_or s.words 1 0)) id me.0 r at (set-get_or s.words 1 0),
      λ m is. let same : n ≡ m = cc (waits, is) in ((λ found. absurd (ne (found ∙ ap (λ k. k % 2 ^ 64) (sym same)))), (λ _. refl)),
    )

    looks_and_enters : (n : ℕ) → me.0.stand ≡ Waits n → (s : St) → Rule s → get_elem? s.views id ≡ some me.0 → get_or s.words 1 0 ≡ n % 2 ^ 64
        → (w : View T) × (a : Act (Option T)) × Valid s.homes me.1 a × Rule (stepped s 1 (get_or s.words 1 0) id me.1 w a) × Looks c me (get_or s.words 1 0) (w, carried_after me.1 a)
    looks_and_enters n waits s r at found =
        let k = r.knows id me.0 at in
        let st = stands_as s r (Waits n) at waits in
        let few = few_out s r in
        let word : get_or s.words 1 0 ≡ r.served % 2 ^ 64 = ap (λ (ws : List ℕ). get_or ws 1 0) r.words in
        let mine : r.served ≡ n = one_turn r.served n (2 ^ 64) st.0 (omega arith) (sym word ∙ found) in
        let none_held : held_of me.0 ≡ 0 = ap turns_held waits in
        let none = at_home s r id me.0 at none_held (ap r.owner mine ∙ st.2) in
        let w = entered c me.0 r.now n in
        let out = sum_set out_of s.views id me.0 w at in
        let one_out : out_of me.0 ≡ 1 = ap tickets_out waits in
        let held = sum_set held_of s.views id me.0 w at in
        let shares = sum_set shares_of s.views id me.0 w at in
        let share : 1 ≤ me.0.shares = omega (arith, k.shared, one_out) in (
          w,
          takes 0 (Some r.now),
          ap (λ (hs : List (maybe.Option (Option T))). get_elem? hs 0) (r.home none),
          record {
            drawn = r.drawn;
            served = r.served;
            owner = r.owner;
            now = r.now;
            board = r.board;
            bells = r.bells;
            holder = r.holder;
            wide = r.wide;
            hung = r.hung;
            words = set-get_or s.words 1 0 ∙ r.words;
            shares = omega (arith, shares, r.shares);
            out = omega (arith, out, one_out, r.out);
            follows = r.follows;
            told = r.told;
            knows = all_know (Knows c boarded r.board r.holder r.drawn r.served r.owner r.now) s.views id w
                record {
                  shared = share;
                  follows = (follows_itself c r.now, tt);
                  stands = (sym mine, st.1, st.2, refl);
                  knows = record { parts = k.knows.parts; condemned = λ slot is. is; words = k.knows.words; own_word = k.knows.own_word; told = k.knows.told };
                }
                (λ j v ne there. r.knows j v there);
            home = λ zero. absurd (omega (arith, held, none_held, none, zero));
          },
          λ m is. let same : n ≡ m = cc (waits, is) in (
            (λ _. (
              r.now,
              ap (λ (i : ℕ). (entered c me.0 r.now i, (0, Some r.now) ∷ me.1)) same,
              record {
                follows = k.follows;
                parts = λ slot x o. (k.knows.parts slot x o).1;
                gone = k.knows.condemned;
                alive = λ tells client is owns lives gone. lives (k.knows.own_word client owns is (r.told (k.knows.told tells) client is gone));
              },
            )),
            (λ ne. absurd (ne (found ∙ ap (λ i. i % 2 ^ 64) same))),
          ),
        )

    pub looks : (n : ℕ) → me.0.stand ≡ Waits n → Allows Rule slots id me 1 (λ n. n) (Looks c me)
    looks n waits s r count at low = dite (ℕ_discrete (get_or s.words 1 0) (n % 2 ^ 64)) (looks_and_enters n waits s r at) (looks_in_vain n waits s r at)

    -- as the one inside publishes, the others stand as they did
    others_raised : (s : St) (r : Rule s) (now : T) (n j : ℕ) (seen : List T) (stand : Stand) → n ≡ r.served → r.owner n ≡ id → j ≢ id
        → Stands c r.drawn r.served r.owner r.now j seen stand → Stands c r.drawn r.served r.owner now j seen stand
    others_raised s r now n j seen Away is mine ne h = tt
    others_raised s r now n j seen (Waits m) is mine ne h = h
    others_raised s r now n j seen (Inside m) is mine ne h = absurd (ne (sym h.2 ∙ (ap r.owner (h.0 ∙ sym is) ∙ mine)))

    -- as the one inside releases, the others wait for a later ticket
    others_released : (s : St) (r : Rule s) (n j : ℕ) (seen : List T) (stand : Stand) → n ≡ r.served → r.owner n ≡ id → j ≢ id
        → Stands c r.drawn r.served r.owner r.now j seen stand → Stands c r.drawn (r.served + 1) r.owner r.now j seen stand
    others_released s r n j seen Away is mine ne h = tt
    others_released s r n j seen (Waits m) is mine ne h =
        let other : m ≢ r.served = λ e. ne (sym h.2 ∙ (ap r.owner (e ∙ sym is) ∙ mine)) in (omega arith, h.1, h.2)
    others_released s r n j seen (Inside m) is mine ne h = absurd (ne (sym h.2 ∙ (ap r.owner (h.0 ∙ sym is) ∙ mine)))

    -- who sees the value as it is stands as before
    sees_now : (drawn served : ℕ) (owner : ℕ → ℕ) (now : T) (seen : List T) (stand : Stand) → Stands c drawn served owner now id seen stand → Stands c drawn served owner now id (now ∷ []) stand
    sees_now drawn served owner now seen Away h = tt
    sees_now drawn served owner now seen (Waits n) h = h
    sees_now drawn served owner now seen (Inside n) h = (h.0, h.1, h.2, refl)

    -- the one inside has seen the value as it is
    saw_now : (drawn served : ℕ) (owner : ℕ → ℕ) (now : T) (seen : List T) (stand : Stand) → Stands c drawn served owner now id seen stand → turns_held stand ≡ 1 → seen ≡ now ∷ []
    saw_now drawn served owner now seen Away h one = absurd (omega arith)
    saw_now drawn served owner now seen (Waits n) h one = absurd (omega arith)
    saw_now drawn served owner now seen (Inside n) h one = h.3

    -- what the one inside knows once it has published
    mine_raised : (s : St) (r : Rule s) (value : T) → get_elem? s.views id ≡ some me.0 → ((slot : ℕ) → Contains (c.gone r.now) slot → Contains (c.gone value) slot)
        → KnowsParts c boarded r.board r.holder value id (left_in me.0.owned value) (c.gone value) me.0.stopped me.0.boarded
    mine_raised s r value at grew = let k = (r.knows id me.0 at).knows in record {
      parts = λ slot x o. let p = owned_left me.0.owned value slot x o in ((k.parts slot p.0.0 p.0.1).0, subst (λ (y : T). KeepsPart c y value slot) p.1 (inl refl));
      condemned = λ slot is. is;
      words = k.words;
      own_word = λ client owns is stopped. k.own_word client (owned_left me.0.owned value client owns.0 owns.1).0 is stopped;
      told = k.told;
    }

    -- and the others: it changed none of their parts, unless the slot is condemned
    yours_raised : ((x y z : P) → c.later x y → c.later y z → c.later x z) → (s : St) (r : Rule s) (value : T) → get_elem? s.views id ≡ some me.0
        → MayLeave c me.0 r.now value → (j : ℕ) (v : View T) → j ≢ id → get_elem? s.views j ≡ some v
        → KnowsParts c boarded r.board r.holder value j v.owned v.gone v.stopped v.boarded
    yours_raised again s r value at may j v ne there = let k = (r.knows id me.0 at).knows in let u = (r.knows j v there).knows in record {
      parts = λ slot x o. let p = u.parts slot x o in (p.0, part_further c again x r.now value slot (may.gone slot) p.1 (may.parts slot (λ owns. ne (sym p.0 ∙ (k.parts slot owns.0 owns.1).0))));
      condemned = λ slot is. may.gone slot (u.condemned slot is);
      words = u.words;
      own_word = u.own_word;
      told = u.told;
    }

    pub raises : ((x y z : P) → c.later x y → c.later y z → c.later x z) → (boarded ≡ true → me.0.boarded ≡ true) → (length_of : ℕ) → MayRaise c me length_of → Allows Rule slots id me 2 (λ _. length_of) (λ _ after. Raises c me after)
    raises again tells length_of (n, before, value, inside, saw, carried, may', long) s r count at low =
        let k = r.knows id me.0 at in
        let st = stands_as s r (Inside n) at inside in
        let now_is : r.now ≡ before = cc (st.3, saw) in
        let may : MayLeave c me.0 r.now value = subst (λ (x : T). MayLeave c me.0 x value) (sym now_is) may' in
        let w = published c me.0 value in
        let one_held : held_of me.0 ≡ 1 = ap turns_held inside in
        let held = sum_set held_of s.views id me.0 w at in
        let there = sum_at held_of s.views id me.0 at in
        let out = sum_set out_of s.views id me.0 w at in
        let shares = sum_set shares_of s.views id me.0 w at in (
          w,
          keeps,
          tt,
          record {
            drawn = r.drawn;
            served = r.served;
            owner = r.owner;
            now = value;
            board = r.board;
            bells = r.bells;
            holder = r.holder;
            wide = r.wide;
            hung = r.hung;
            words = ap (λ (ws : List ℕ). set ws 2 length_of) r.words ∙ ap (λ (l : ℕ). r.drawn % 2 ^ 64 ∷ r.served % 2 ^ 64 ∷ l ∷ (r.board ++ r.bells)) long;
            shares = omega (arith, shares, r.shares);
            out = omega (arith, out, r.out);
            follows = follows_further c made r.now value r.follows may.follows;
            told = λ b client is gone. ⊎_elim (λ (old : Contains (c.gone r.now) client). r.told b client is old) (λ (new : IsClient client × Contains me.0.stopped client). (k.knows.words client new.1).1)
                (may.condemned (tells b) client gone);
            knows = all_know (Knows c boarded r.board r.holder r.drawn r.served r.owner value) s.views id w
                record {
                  shared = k.shared;
                  follows = (follows_itself c value, tt);
                  stands = subst (Stands c r.drawn r.served r.owner value id (value ∷ [])) (sym inside) (st.0, st.1, st.2, refl);
                  knows = mine_raised s r value at may.gone;
                }
                (λ j v ne here. let u = r.knows j v here in record {
                  shared = u.shared;
                  follows = all_further c v.seen r.now value u.follows may.follows;
                  stands = others_raised s r value n j v.seen v.stand st.0 st.2 ne u.stands;
                  knows = yours_raised again s r value at may j v ne here;
                });
            home = λ zero. absurd (omega (arith, held, one_held, there, zero));
          },
          λ x is. let both : Some value ≡ Some x = ap slot_of (sym carried ∙ is) in let same : value ≡ x = cc both in ap (λ (y : T). (published c me.0 y, me.1)) same,
        )

    -- the value is published, and the number that stands is its length already
    pub confirms : ((x y z : P) → c.later x y → c.later y z → c.later x z) → (boarded ≡ true → me.0.boarded ≡ true) → (length_of : ℕ) → MayRaise c me length_of → WasAsLong c me length_of
        → Allows Rule slots id me 2 (λ n. n) (λ _ after. Raises c me after)
    confirms again tells length_of may was s r count at low =
        let st = stands_as s r (Inside may.0) at may.3 in
        let there : get_or s.words 2 0 ≡ length (c.history r.now) = ap (λ (ws : List ℕ). get_or ws 2 0) r.words in
        let long : length_of ≡ get_or s.words 2 0 = was r.now st.3 ∙ sym there in
        let told = raises again tells length_of may s r count at low in
        (told.0, told.1, told.2, subst (λ (x : ℕ). Rule (stepped s 2 x id me.1 told.0 told.1)) long told.3, told.4)

    pub releases : (next : ℕ) → slots ≡ 1 → MayRelease me next → Allows Rule slots id me 1 (λ _. next) (λ _ after. Releases me after)
    releases next one (n, value, inside, saw, carried, next_is) s r count at low =
        let k = r.knows id me.0 at in
        let st = stands_as s r (Inside n) at inside in
        let now_is : value ≡ r.now = cc (st.3, saw) in
        let w = standing me.0 Away in
        let one_held : held_of me.0 ≡ 1 = ap turns_held inside in
        let one_out : out_of me.0 ≡ 1 = ap tickets_out inside in
        let held = sum_set held_of s.views id me.0 w at in
        let out = sum_set out_of s.views id me.0 w at in
        let shares = sum_set shares_of s.views id me.0 w at in (
          w,
          gives,
          tt,
          record {
            drawn = r.drawn;
            served = r.served + 1;
            owner = r.owner;
            now = r.now;
            board = r.board;
            bells = r.bells;
            holder = r.holder;
            wide = r.wide;
            hung = r.hung;
            words = ap (λ (ws : List ℕ). set ws 1 next) r.words ∙ ap (λ (l : ℕ). r.drawn % 2 ^ 64 ∷ l ∷ length (c.history r.now) ∷ (r.board ++ r.bells)) (next_is ∙ ap (λ (i : ℕ). (i + 1) % 2 ^ 64) st.0);
            shares = omega (arith, shares, r.shares);
            out = omega (arith, out, one_out, r.out);
            follows = r.follows;
            told = r.told;
            knows = all_know (Knows c boarded r.board r.holder r.drawn (r.served + 1) r.owner r.now) s.views id w
                record { shared = omega arith; follows = k.follows; stands = tt; knows = k.knows }
                (λ j v ne here. let u = r.knows j v here in record {
                  shared = u.shared;
                  follows = u.follows;
                  stands = others_released s r n j v.seen v.stand st.0 st.2 ne u.stands;
                  knows = u.knows;
                });
            home = λ zero. ap (λ (l : List (ℕ × Option T)). put_back s.homes l) carried ∙ (single s.homes (some (Some value)) (count ∙ one) ∙ ap (λ (x : T). some (Some x) ∷ []) now_is);
          },
          refl,
        )

    pub fronts : Allows Rule slots id me 2 (λ n. n) (Fronts c me)
    fronts s r count at low =
        let k = r.knows id me.0 at in (
          seeing me.0 r.now,
          keeps,
          tt,
          unmoved s r id me.0 (seeing me.0 r.now) (set s.words 2 (get_or s.words 2 0)) at (set-get_or s.words 2 0) refl refl (follows_itself c r.now, tt)
              (sees_now r.drawn r.served r.owner r.now me.0.seen me.0.stand k.stands) k.knows,
          (r.now, refl, ap (λ (ws : List ℕ). get_or ws 2 0) r.words, k.follows, saw_now r.drawn r.served r.owner r.now me.0.seen me.0.stand k.stands),
        )

    pub keeps_first : (a b : T) → me.0.stand ≡ Away → me.0.seen ≡ a ∷ b ∷ [] → length (c.history b) ≤ length (c.history a) → Allows Rule slots id me 1 (λ n. n) (λ _ after. KeepsFirst c me after)
    keeps_first a b away two le s r count at low =
        let k = r.knows id me.0 at in
        let goes = subst (λ (xs : List T). FollowsAll c xs r.now) two k.follows in
        let few : me.0.shares ≤ all_shares = omega (arith, sum_at shares_of s.views id me.0 at, r.shares) in
        let w = seeing me.0 a in (
          w,
          keeps,
          tt,
          unmoved s r id me.0 w (set s.words 1 (get_or s.words 1 0)) at (set-get_or s.words 1 0) refl refl (goes.0, tt)
              (subst (Stands c r.drawn r.served r.owner r.now id (a ∷ [])) (sym away) tt) k.knows,
          λ x y is.
              let first : a ≡ x = cc (two, is) in
              let second : b ≡ y = cc (two, is) in
              subst (λ (p : T × T). (◌≡◌ {A = Mine T} (w, me.1) (seeing me.0 p.0, me.1)) × Follows c p.1 p.0 × ¬ Contains me.0.stopped 0 × (me.0.shares ≤ all_shares))
              (λ i. (first i, second i)) (refl, follows_between c b a r.now goes.1.0 goes.0 le, nobody me.0.stopped k.knows.words, few),
        )

    pub keeps_second : (a b : T) → me.0.stand ≡ Away → me.0.seen ≡ a ∷ b ∷ [] → length (c.history a) ≤ length (c.history b) → Allows Rule slots id me 1 (λ n. n) (λ _ after. KeepsSecond c me after)
    keeps_second a b away two le s r count at low =
        let k = r.knows id me.0 at in
        let goes = subst (λ (xs : List T). FollowsAll c xs r.now) two k.follows in
        let few : me.0.shares ≤ all_shares = omega (arith, sum_at shares_of s.views id me.0 at, r.shares) in
        let w = seeing me.0 b in (
          w,
          keeps,
          tt,
          unmoved s r id me.0 w (set s.words 1 (get_or s.words 1 0)) at (set-get_or s.words 1 0) refl refl (goes.1.0, tt)
              (subst (Stands c r.drawn r.served r.owner r.now id (b ∷ [])) (sym away) tt) k.knows,
          λ x y is.
              let first : a ≡ x = cc (two, is) in
              let second : b ≡ y = cc (two, is) in
              subst (λ (p : T × T). (◌≡◌ {A = Mine T} (w, me.1) (seeing me.0 p.1, me.1)) × Follows c p.0 p.1 × ¬ Contains me.0.stopped 0 × (me.0.shares ≤ all_shares))
              (λ i. (first i, second i)) (refl, follows_between c a b r.now goes.0 goes.1.0 le, nobody me.0.stopped k.knows.words, few),
        )

    pub marks : (slot : ℕ) → Allows Rule slots id me 0 (λ n. either (eqb n slot) slot n) (λ _ after. Marks slot me after)
    marks slot s r count at low =
        let k = r.knows id me.0 at in
        let n = get_or s.words 0 0 in
        let same : either (eqb n slot) slot n ≡ n = exchanged n slot slot (λ (m : ℕ). m ≡ n) (λ e. sym e) (λ ne. refl) in (
          record me.0 { parting = slot },
          keeps,
          tt,
          unmoved s r id me.0 (record me.0 { parting = slot }) (set s.words 0 (either (eqb n slot) slot n)) at (ap (λ (m : ℕ). set s.words 0 m) same ∙ set-get_or s.words 0 0) refl refl k.follows k.stands k.knows,
          refl,
        )

    -- a word of those who wait is written, and nothing else changes
    pub signals : (word : ℕ) (f : ℕ → ℕ) → 19 ≤ word → Allows Rule slots id me word f (λ _ after. after ≡ me)
    signals word f behind s r count at low =
        let x = f (get_or s.words word 0) in
        let same : set s.views id me.0 ≡ s.views = set_again s.views id me.0 at in (
          me.0,
          keeps,
          tt,
          subst (λ (vs : List (View T)). Rule record { words = set s.words word x; homes = s.homes; views = vs }) (sym same) record {
            drawn = r.drawn;
            served = r.served;
            owner = r.owner;
            now = r.now;
            board = r.board;
            bells = set r.bells (word - 19) x;
            holder = r.holder;
            wide = r.wide;
            hung = length-set r.bells (word - 19) x ∙ r.hung;
            words = ap (λ (ws : List ℕ). set ws word x) r.words ∙ set_bell (r.drawn % 2 ^ 64) (r.served % 2 ^ 64) (length (c.history r.now)) r.board r.bells word x r.wide behind;
            shares = r.shares;
            out = r.out;
            follows = r.follows;
            told = r.told;
            knows = r.knows;
            home = r.home;
          },
          refl,
        )

    -- the word of a client, as it is stored
    pub stops : (word client : ℕ) → word ≡ 2 + client → IsClient client → OwnsSlot me.0.owned client → Allows Rule slots id me word (λ _. 1) (λ _ after. Stops client me after)
    stops word client is_word is owns s r count at low =
        let k = r.knows id me.0 at in
        let w = knowing me.0 client in
        let held = sum_set held_of s.views id me.0 w at in
        let out = sum_set out_of s.views id me.0 w at in
        let shares = sum_set shares_of s.views id me.0 w at in
        let next = set r.board (client - 1) 1 in
        let here = stop_here r.board client r.wide is in
        let more = λ (other : ℕ) (is' : IsClient other) (h : IsStopped r.board other). stop_more r.board client other r.wide is is' h in (
          w,
          keeps,
          tt,
          record {
            drawn = r.drawn;
            served = r.served;
            owner = r.owner;
            now = r.now;
            board = next;
            bells = r.bells;
            holder = r.holder;
            wide = length-set r.board (client - 1) 1 ∙ r.wide;
            hung = r.hung;
            words = ap (λ (i : ℕ). set s.words i 1) is_word ∙ (ap (λ (ws : List ℕ). set ws (2 + client) 1) r.words ∙ set_board (r.drawn % 2 ^ 64) (r.served % 2 ^ 64) (length (c.history r.now)) r.board r.bells client 1 r.wide is);
            shares = omega (arith, shares, r.shares);
            out = omega (arith, out, r.out);
            follows = r.follows;
            told = λ b other is' gone. more other is' (r.told b other is' gone);
            knows = all_know (Knows c boarded next r.holder r.drawn r.served r.owner r.now) s.views id w
                record {
                  shared = k.shared;
                  follows = k.follows;
                  stands = k.stands;
                  knows = record {
                    parts = k.knows.parts;
                    condemned = k.knows.condemned;
                    words = λ other h. ⊎_elim (λ (new : Contains (client ∷ []) other). subst (λ (x : ℕ). IsClient x × IsStopped next x) (alone client other new) (is, here))
                        (λ (old : Contains me.0.stopped other). let p = k.knows.words other old in (p.0, more other p.0 p.1)) (Contains-append_cases (client ∷ []) me.0.stopped other h);
                    own_word = λ other owns' is' stopped. dite (ℕ_discrete other client)
                        (λ (e : other ≡ client). subst (Contains (client ∷ me.0.stopped)) (sym e) (Contains-append_left (client ∷ []) me.0.stopped client (first_of_all client)))
                        (λ (ne : other ≢ client). Contains-append_right (client ∷ []) me.0.stopped other (k.knows.own_word other owns' is' (sym (stop_else r.board client other is is' ne) ∙ stopped)));
                    told = k.knows.told;
                  };
                }
                (λ j v ne there. let u = r.knows j v there in record {
                  shared = u.shared;
                  follows = u.follows;
                  stands = u.stands;
                  knows = record {
                    parts = u.knows.parts;
                    condemned = u.knows.condemned;
                    words = λ other h. let p = u.knows.words other h in (p.0, more other p.0 p.1);
                    own_word = λ other owns' is' stopped. u.knows.own_word other owns' is'
                        (sym (stop_else r.board client other is is' (λ e. ne (sym (u.knows.parts other owns'.0 owns'.1).0 ∙ (ap r.holder e ∙ (k.knows.parts client owns.0 owns.1).0)))) ∙ stopped);
                    told = u.knows.told;
                  };
                });
            home = λ zero. r.home (omega (arith, held, zero));
          },
          refl,
        )

    -- what is known of a client once its word was found to be 1
    sees_yes : (s : St) (r : Rule s) (client : ℕ) → IsClient client → get_elem? s.views id ≡ some me.0 → IsStopped r.board client
        → KnowsParts c boarded r.board r.holder r.now id me.0.owned me.0.gone (client ∷ me.0.stopped) me.0.boarded
    sees_yes s r client is at stopped = let k = (r.knows id me.0 at).knows in record {
      parts = k.parts;
      condemned = k.condemned;
      words = λ other h. ⊎_elim (λ (new : Contains (client ∷ []) other). subst (λ (x : ℕ). IsClient x × IsStopped r.board x) (alone client other new) (is, stopped)) (λ (old : Contains me.0.stopped other). k.words other old) (Contains-append_cases (client ∷ []) me.0.stopped other h);
      own_word = λ other owns is' h. Contains-append_right (client ∷ []) me.0.stopped other (k.own_word other owns is' h);
      told = k.told;
    }

    sees_at : (fits : St → View T → Type 0) → AllowsSight Rule id fits → (word client : ℕ) → word ≡ 2 + client → IsClient client → (s : St) → Rule s → get_elem? s.views id ≡ some me.0 → Dec (get_or s.words word 0 ≡ 1)
        → (w : View T) × (a : Act (Option T)) × Valid s.homes me.1 a × Rule (stepped s word (get_or s.words word 0) id me.1 w a) × Sees fits client me (get_or s.words word 0) (w, carried_after me.1 a)
    sees_at fits shows word client is_word is s r at (yes found) =
        let k = r.knows id me.0 at in
        let word_is : get_or s.words word 0 ≡ get_or r.board (client - 1) 0 = ap (λ (i : ℕ). get_or s.words i 0) is_word ∙ (ap (λ (ws : List ℕ). get_or ws (2 + client) 0) r.words ∙ get_board (r.drawn % 2 ^ 64) (r.served % 2 ^ 64) (length (c.history r.now)) r.board r.bells client r.wide is) in
        let stopped : IsStopped r.board client = sym word_is ∙ found in
        let after : Rule record { words = s.words; homes = s.homes; views = set s.views id (knowing me.0 client) } = unmoved s r id me.0 (knowing me.0 client) s.words at refl refl refl k.follows k.stands (sees_yes s r client is at stopped) in (
          knowing me.0 client,
          keeps,
          tt,
          unmoved s r id me.0 (knowing me.0 client) (set s.words word (get_or s.words word 0)) at (set-get_or s.words word 0) refl refl k.follows k.stands (sees_yes s r client is at stopped),
          record {
            finds = record { table = record { words = s.words; homes = s.homes; views = set s.views id (knowing me.0 client) }; fit = shows _ (knowing me.0 client) (after, set_there s.views id me.0 (knowing me.0 client) at); word = ap (λ (i : ℕ). get_or s.words i 0) (sym is_word) };
            yes = λ _. refl;
            no = λ ne. absurd (ne found);
            known = λ _. found;
            own = λ owns _. k.knows.own_word client owns is stopped;
          },
        )
    sees_at fits shows word client is_word is s r at (no other) =
        let k = r.knows id me.0 at in
        let word_is : get_or s.words word 0 ≡ get_or r.board (client - 1) 0 = ap (λ (i : ℕ). get_or s.words i 0) is_word ∙ (ap (λ (ws : List ℕ). get_or ws (2 + client) 0) r.words ∙ get_board (r.drawn % 2 ^ 64) (r.served % 2 ^ 64) (length (c.history r.now)) r.board r.bells client r.wide is) in (
          me.0,
          keeps,
          tt,
          still s (set s.words word (get_or s.words word 0)) id me.0 r at (set-get_or s.words word 0),
          record {
            finds = record { table = s; fit = shows s me.0 (r, at); word = ap (λ (i : ℕ). get_or s.words i 0) (sym is_word) };
            yes = λ found. absurd (other found);
            no = λ _. refl;
            known = λ h. word_is ∙ (k.knows.words client h).1;
            own = λ _ found. absurd (other found);
          },
        )

    pub sees : (fits : St → View T → Type 0) → AllowsSight Rule id fits → (word client : ℕ) → word ≡ 2 + client → IsClient client → Allows Rule slots id me word (λ n. n) (Sees fits client me)
    sees fits shows word client is_word is s r count at low = sees_at fits shows word client is_word is s r at (ℕ_discrete (get_or s.words word 0) 1)

    -- both, as the steps name the client: by the word's number
    pub stops_word : (client : ℕ) → IsClient client → OwnsSlot me.0.owned client → Allows Rule slots id me (2 + client) (λ _. 1) (λ _ after. Stops (2 + client - 2) me after)
    stops_word client is owns = let e : client ≡ 2 + client - 2 = omega arith in
        subst (λ (k : ℕ). Allows Rule slots id me (2 + client) (λ _. 1) (λ _ after. Stops k me after)) e (stops (2 + client) client refl is owns)

    pub sees_word : (fits : St → View T → Type 0) → AllowsSight Rule id fits → (client : ℕ) → IsClient client → Allows Rule slots id me (2 + client) (λ n. n) (λ found after. Sees fits (2 + client - 2) me found after)
    sees_word fits shows client is = let e : client ≡ 2 + client - 2 = omega arith in
        subst (λ (k : ℕ). Allows Rule slots id me (2 + client) (λ n. n) (λ found after. Sees fits k me found after)) e (sees fits shows (2 + client) client refl is)

  -- what stands in the word of a client stands on the board
  pub on_board : (s : St) (r : Rule s) (client found : ℕ) → IsClient client → get_or s.words (2 + client) 0 ≡ found → get_or r.board (client - 1) 0 ≡ found
  on_board s r client found is at = sym (get_board (r.drawn % 2 ^ 64) (r.served % 2 ^ 64) (length (c.history r.now)) r.board r.bells client r.wide is) ∙ (ap (λ (ws : List ℕ). get_or ws (2 + client) 0) (sym r.words) ∙ at)

  -- a split keeps the rule where both passes know what is so, and each part goes to one of them
  cut_in_two : (s : St) (r : Rule s) (id : ℕ) (v kept given : View T) (holder : ℕ → ℕ) → get_elem? s.views id ≡ some v → v.stand ≡ Away → kept.stand ≡ Away → given.stand ≡ Away → kept.seen ≡ v.seen → given.seen ≡ v.seen
      → kept.shares + given.shares ≡ v.shares
      → KnowsParts c boarded r.board holder r.now id kept.owned kept.gone kept.stopped kept.boarded
      → KnowsParts c boarded r.board holder r.now (length s.views) given.owned given.gone given.stopped given.boarded
      → ((j : ℕ) (u : View T) → j ≢ id → get_elem? s.views j ≡ some u → KnowsParts c boarded r.board holder r.now j u.owned u.gone u.stopped u.boarded)
      → Rule record { words = s.words; homes = s.homes; views = set s.views id kept ++ given ∷ [] }
  cut_in_two s r id v kept given holder at away kept_away given_away kept_seen given_seen all knows_kept knows_given others =
      let k = r.knows id v at in
      let vs = set s.views id kept in
      let held = sum_set held_of s.views id v kept at in
      let out = sum_set out_of s.views id v kept at in
      let shares = sum_set shares_of s.views id v kept at in
      let none_out : tickets_out v.stand ≡ 0 = ap tickets_out away in
      let none_out' : tickets_out kept.stand ≡ 0 = ap tickets_out kept_away in
      let none_out'' : tickets_out given.stand ≡ 0 = ap tickets_out given_away in
      let none_held : turns_held v.stand ≡ 0 = ap turns_held away in
      let none_held' : turns_held kept.stand ≡ 0 = ap turns_held kept_away in
      let none_held'' : turns_held given.stand ≡ 0 = ap turns_held given_away in
      let F = Knows c boarded r.board holder r.drawn r.served r.owner r.now in record {
        drawn = r.drawn;
        served = r.served;
        owner = r.owner;
        now = r.now;
        board = r.board;
        bells = r.bells;
        holder = holder;
        wide = r.wide;
        hung = r.hung;
        words = r.words;
        shares = omega (arith, shares, all, r.shares, sum_by_push shares_of vs given);
        out = omega (arith, out, none_out, none_out', none_out'', r.out, sum_by_push out_of vs given);
        follows = r.follows;
        told = r.told;
        knows = λ j u there. ⊎_elim
            (λ (old : (j ≢ length vs) × (get_elem? vs j ≡ some u)). all_know F s.views id kept
            record { shared = omega (arith, none_out'); follows = subst (λ (xs : List T). FollowsAll c xs r.now) (sym kept_seen) k.follows; stands = subst (Stands c r.drawn r.served r.owner r.now id kept.seen) (sym kept_away) tt; knows = knows_kept }
            (λ i w ne here. let x = r.knows i w here in record { shared = x.shared; follows = x.follows; stands = x.stands; knows = others i w ne here }) j u old.1)
            (λ (new : (j ≡ length vs) × (given ≡ u)). subst (λ (x : ℕ × View T). F x.0 x.1) (λ i. (sym (new.0 ∙ length-set s.views id kept) i, new.1 i))
            record { shared = omega (arith, none_out''); follows = subst (λ (xs : List T). FollowsAll c xs r.now) (sym given_seen) k.follows; stands = subst (Stands c r.drawn r.served r.owner r.now (length s.views) given.seen) (sym given_away) tt; knows = knows_given })
            (at_end vs given u j there);
        home = λ zero. r.home (omega (arith, held, none_held, none_held', none_held'', zero, sum_by_push held_of vs given));
      }

  pub splits : (id : ℕ) (v : View T) → v.stand ≡ Away → Splits Rule id v (half_kept v) (half_given v)
  splits id v away s r at =
      let k = (r.knows id v at).knows in
      let all : (v.shares - v.shares / 2) + v.shares / 2 ≡ v.shares = omega arith in
      cut_in_two s r id v (half_kept v) (half_given v) r.holder at away away refl refl refl all k
      record { parts = λ slot x o. absurd o; condemned = k.condemned; words = k.words; own_word = λ client owns is h. absurd owns.1; told = k.told }
      (λ j u ne there. (r.knows j u there).knows)

  pub cuts : (id : ℕ) (v : View T) → v.stand ≡ Away → OwnsSlot v.owned v.parting → Splits Rule id v (part_kept v) (part_given v)
  cuts id v away owns s r at =
      let k = (r.knows id v at).knows in
      let all : (v.shares - v.shares / 2) + v.shares / 2 ≡ v.shares = omega arith in
      let new = length s.views in
      let mine : r.holder v.parting ≡ id = (k.parts v.parting owns.0 owns.1).0 in
      cut_in_two s r id v (part_kept v) (part_given v) (put r.holder v.parting new) at away away refl refl refl all
      record {
        parts = λ slot x o. let p = owned_without v.parting v.owned slot x o in let q = k.parts slot x p.0 in (put_else r.holder v.parting new slot p.1 ∙ q.0, q.1);
        condemned = k.condemned;
        words = k.words;
        own_word = λ client o is h. k.own_word client (o.0, (owned_without v.parting v.owned client o.0 o.1).0) is h;
        told = k.told;
      }
      record {
        parts = λ slot x o. let p = owned_only v.parting v.owned slot x o in let q = k.parts slot x p.0 in (ap (put r.holder v.parting new) p.1 ∙ put_here r.holder v.parting new, q.1);
        condemned = k.condemned;
        words = k.words;
        own_word = λ client o is h. k.own_word client (o.0, (owned_only v.parting v.owned client o.0 o.1).0) is h;
        told = k.told;
      }
      (λ j u ne there. let x = (r.knows j u there).knows in record {
        parts = λ slot y o. let q = x.parts slot y o in (put_else r.holder v.parting new slot (λ e. ne (sym q.0 ∙ (ap r.holder e ∙ mine))) ∙ q.0, q.1);
        condemned = x.condemned;
        words = x.words;
        own_word = x.own_word;
        told = x.told;
      })

  -- what the two know together
  both_know : (s : St) (r : Rule s) (id other : ℕ) (v w : View T) → ¬ (other ≡ id) → get_elem? s.views id ≡ some v → get_elem? s.views other ≡ some w
      → KnowsParts c boarded r.board (handed r.holder other id) r.now id (v.owned ++ w.owned) (v.gone ++ w.gone) (v.stopped ++ w.stopped) v.boarded
  both_know s r id other v w apart at there = let k = (r.knows id v at).knows in let l = (r.knows other w there).knows in record {
    parts = λ slot x o. ⊎_elim
        (λ (a : Owns v.owned slot x). let q = k.parts slot x a in (handed_not r.holder other id slot (λ e. apart (sym e ∙ q.0)) ∙ q.0, q.1))
        (λ (b : Owns w.owned slot x). let q = l.parts slot x b in (handed_on r.holder other id slot q.0, q.1))
        (owned_both v.owned w.owned slot x o);
    condemned = λ slot h. ⊎_elim (λ (a : Contains v.gone slot). k.condemned slot a) (λ (b : Contains w.gone slot). l.condemned slot b) (Contains-append_cases v.gone w.gone slot h);
    words = λ client h. ⊎_elim (λ (a : Contains v.stopped client). k.words client a) (λ (b : Contains w.stopped client). l.words client b) (Contains-append_cases v.stopped w.stopped client h);
    own_word = λ client owns is h. ⊎_elim
        (λ (a : Owns v.owned client owns.0). Contains-append_left v.stopped w.stopped client (k.own_word client (owns.0, a) is h))
        (λ (b : Owns w.owned client owns.0). Contains-append_right v.stopped w.stopped client (l.own_word client (owns.0, b) is h))
        (owned_both v.owned w.owned client owns.0 owns.1);
    told = k.told;
  }

  -- of a client whose part it owns, a pass knows all that another has seen
  told_of_own : (s : St) (r : Rule s) (id other : ℕ) (v w : View T) → get_elem? s.views id ≡ some v → get_elem? s.views other ≡ some w → unagreed v.owned v.stopped w.stopped ≡ []
  told_of_own s r id other v w at there = let k = (r.knows id v at).knows in let l = (r.knows other w there).knows in
      none_unagreed v.owned v.stopped w.stopped (λ client owns h. let is = l.words client h in k.own_word client owns is.0 is.1)

  -- so nothing is open between the two
  both_agree : (s : St) (r : Rule s) (id other : ℕ) (v w : View T) → get_elem? s.views id ≡ some v → get_elem? s.views other ≡ some w → both_stopped v w ≡ v.stopped ++ w.stopped
  both_agree s r id other v w at there = stopped_both v w (told_of_own s r id other v w at there) (told_of_own s r other id w v there at)

  -- what the pass that met another knows, and what all others do
  both_or_other : (s : St) (r : Rule s) (id other : ℕ) (v w both : View T) (holder : ℕ → ℕ) → ¬ (other ≡ id) → get_elem? s.views id ≡ some v → get_elem? s.views other ≡ some w → (j : ℕ) (u : View T) → j ≢ other
      → Knows c boarded r.board (handed r.holder other id) r.drawn r.served r.owner r.now id both → get_elem? (set s.views id both) j ≡ some u → Knows c boarded r.board (handed r.holder other id) r.drawn r.served r.owner r.now j u
  both_or_other s r id other v w both holder apart at there j u ne mine here = all_know (λ (i : ℕ) (x : View T). (i ≢ other) → Knows c boarded r.board (handed r.holder other id) r.drawn r.served r.owner r.now i x) s.views id both
      (λ _. mine)
      (λ i x ne' here' away. let y = r.knows i x here' in record {
        shared = y.shared;
        follows = y.follows;
        stands = y.stands;
        knows = record {
          parts = λ slot z o. let q = y.knows.parts slot z o in (handed_not r.holder other id slot (λ e. away (sym q.0 ∙ e)) ∙ q.0, q.1);
          condemned = y.knows.condemned;
          words = y.knows.words;
          own_word = y.knows.own_word;
          told = y.knows.told;
        };
      }) j u here ne

  pub joins : (id : ℕ) (v : View T) (other : ℕ) (w : View T) → v.stand ≡ Away → w.stand ≡ Away → Joins Rule id v other w (both_views v w) spent_view
  joins id v other w away away' s r at apart there =
      let k = r.knows id v at in
      let both = both_views v w in
      let vs = set s.views id both in
      let second : get_elem? s.views other ≡ some w = ⊎_elim (λ (t : (other ≡ id) × (both ≡ w)). absurd (apart t.0)) (λ (t : (other ≢ id) × (get_elem? s.views other ≡ some w)). t.1) (at_set s.views id other both w there) in
      let l = r.knows other w second in
      let none_out : tickets_out v.stand ≡ 0 = ap tickets_out away in
      let none_out' : tickets_out w.stand ≡ 0 = ap tickets_out away' in
      let none_held' : turns_held w.stand ≡ 0 = ap turns_held away' in
      let held = sum_set held_of s.views id v both at in
      let out = sum_set out_of s.views id v both at in
      let shares = sum_set shares_of s.views id v both at in
      let held' = sum_set held_of vs other w spent_view there in
      let out' = sum_set out_of vs other w spent_view there in
      let shares' = sum_set shares_of vs other w spent_view there in
      let holder = handed r.holder other id in
      let F = Knows c boarded r.board holder r.drawn r.served r.owner r.now in record {
        drawn = r.drawn;
        served = r.served;
        owner = r.owner;
        now = r.now;
        board = r.board;
        bells = r.bells;
        holder = holder;
        wide = r.wide;
        hung = r.hung;
        words = r.words;
        shares = omega (arith, shares, shares', r.shares);
        out = omega (arith, out, out', none_out', r.out);
        follows = r.follows;
        told = r.told;
        knows = all_know F vs other spent_view
            record { shared = omega arith; follows = tt; stands = tt; knows = record { parts = λ slot x o. absurd o; condemned = λ slot h. absurd (none_there slot h); words = λ client h. absurd (none_there client h); own_word = λ client owns is h. absurd owns.1; told = λ e. absurd (cc e) } }
            (λ j u ne here. both_or_other s r id other v w both holder apart at second j u ne
            record { shared = omega (arith, none_out); follows = all_of_both c v.seen w.seen r.now k.follows l.follows; stands = subst (Stands c r.drawn r.served r.owner r.now id both.seen) (sym away) tt; knows = subst (λ (st : List ℕ). KnowsParts c boarded r.board holder r.now id (v.owned ++ w.owned) (v.gone ++ w.gone) st v.boarded) (sym (both_agree s r id other v w at second)) (both_know s r id other v w apart at second) }
            here);
        home = λ zero. r.home (omega (arith, held, held', none_held', zero));
      }

  -- where all tickets are served, none is out and the value is at home
  pub all_served : (s : St) (r : Rule s) → get_elem? s.words 1 ≡ get_elem? s.words 0 → (sum_by out_of s.views ≡ 0) × (s.homes ≡ some (Some r.now) ∷ [])
  all_served s r same =
      let few = few_out s r in
      let words : r.served % 2 ^ 64 ≡ r.drawn % 2 ^ 64 = some-injective _ _ (ap (λ (l : List ℕ). get_elem? l 1) (sym r.words) ∙ (same ∙ ap (λ (l : List ℕ). get_elem? l 0) r.words)) in
      let done : r.served ≡ r.drawn = one_turn r.served r.drawn (2 ^ 64) (omega (arith, r.out)) few words in
      let below = sum_below held_of out_of s.views (λ i u _. one_each u.stand) in
      (omega (arith, r.out, done), r.home (omega (arith, r.out, done, below)))

  -- a pass that has met all others, and has no ticket out, finds every ticket served
  pub sole_served : (s : St) (r : Rule s) (id : ℕ) (v : View T) → get_elem? s.views id ≡ some v → v.shares ≡ all_shares → v.stand ≡ Away → get_elem? s.words 1 ≡ get_elem? s.words 0
  sole_served s r id v at all away =
      let spent : View T = record v { shares = 0 } in
      let vs = set s.views id spent in
      let none_out : tickets_out v.stand ≡ 0 = ap tickets_out away in
      let shares = sum_set shares_of s.views id v spent at in
      let out = sum_set out_of s.views id v spent at in
      let few : (i : ℕ) (u : View T) → get_elem? vs i ≡ some u → out_of u ≤ shares_of u = λ i u here. ⊎_elim
      (λ (mine : (i ≡ id) × (spent ≡ u)). subst (λ (x : View T). out_of x ≤ shares_of x) mine.1 (omega (arith, none_out)))
      (λ (yours : (i ≢ id) × (get_elem? s.views i ≡ some u)). (r.knows i u yours.1).shared)
      (at_set s.views id i spent u here) in
      let below = sum_below out_of shares_of vs few in
      let done : r.served ≡ r.drawn = omega (arith, shares, out, below, r.shares, r.out, all) in
      ap (λ (l : List ℕ). get_elem? l 1) r.words ∙ (ap (λ (n : ℕ). some (n % 2 ^ 64)) done ∙ sym (ap (λ (l : List ℕ). get_elem? l 0) r.words))

  -- who has no ticket out is not inside
  none_inside : (stand : Stand) → tickets_out stand ≡ 0 → is_inside stand ≡ false
  none_inside Away none = refl
  none_inside (Waits n) none = refl
  none_inside (Inside n) none = absurd (omega arith)

  pub not_inside : (s : St) (r : Rule s) (id : ℕ) (v : View T) → get_elem? s.views id ≡ some v → sum_by out_of s.views ≡ 0 → is_inside v.stand ≡ false
  not_inside s r id v at none = let mine = sum_at out_of s.views id v at in none_inside v.stand (omega (arith, mine, none))

  -- where all tickets are served, the value is at home, and follows what each pass has seen
  pub closes : (ws : List ℕ) (xs : List (Option T)) (id : ℕ) (v : View T) (ticket serving : ℕ) → Final (Seen Rule id v) ws xs → get_elem? ws 0 ≡ some ticket → get_elem? ws 1 ≡ some serving → ticket ≡ serving
      → (now : T) × (get_elem? xs 0 ≡ some (Some now)) × Follows c made now × FollowsAll c v.seen now
  closes ws xs id v ticket serving (s, (r, at), words, count, values) first second same =
      let few = few_out s r in
      let here : ws ≡ r.drawn % 2 ^ 64 ∷ r.served % 2 ^ 64 ∷ length (c.history r.now) ∷ (r.board ++ r.bells) = sym words ∙ r.words in
      let drawn_is : r.drawn % 2 ^ 64 ≡ ticket = some-injective _ _ (ap (λ (l : List ℕ). get_elem? l 0) (sym here) ∙ first) in
      let served_is : r.served % 2 ^ 64 ≡ serving = some-injective _ _ (ap (λ (l : List ℕ). get_elem? l 1) (sym here) ∙ second) in
      let done : r.served ≡ r.drawn = one_turn r.served r.drawn (2 ^ 64) (omega (arith, r.out)) few (served_is ∙ (sym same ∙ sym drawn_is)) in
      let below = sum_below held_of out_of s.views (λ i u _. one_each u.stand) in
      let home = r.home (omega (arith, r.out, done, below)) in
      (r.now, values 0 (Some r.now) (ap (λ (hs : List (maybe.Option (Option T))). get_elem? hs 0) home), r.follows, (r.knows id v at).follows)

  -- the one who makes the turn is the only one
  pub opens : (length_of : ℕ) → length_of ≡ length (c.history made) → (boarded ≡ true → (client : ℕ) → IsClient client → ¬ Contains (c.gone made) client)
      → Rule (opening (0 ∷ 0 ∷ length_of ∷ (clear ++ clear)) (Some made ∷ []) (first_view c made boarded))
  opens length_of long alive = record {
    drawn = 0;
    served = 0;
    owner = λ _. 0;
    now = made;
    board = clear;
    bells = clear;
    holder = λ _. 0;
    wide = refl;
    hung = refl;
    words = ap (λ (l : ℕ). 0 ∷ 0 ∷ l ∷ (clear ++ clear)) long;
    shares = refl;
    out = refl;
    follows = follows_itself c made;
    told = λ b client is gone. absurd (alive b client is gone);
    knows = only_one;
    home = λ _. refl;
  } where
    founding : Knows c boarded clear (λ _. 0) 0 0 (λ _. 0) made 0 (first_view c made boarded)
    founding = record {
      shared = omega arith;
      follows = (follows_itself c made, tt);
      stands = tt;
      knows = record {
        parts = λ slot x o. (refl, subst (λ (y : T). KeepsPart c y made slot) (owned_below 32 slot made x o) (inl refl));
        condemned = λ slot h. h;
        words = λ client h. absurd (none_there client h);
        own_word = λ client owns is h. absurd (cc (sym (zeros 16 (client - 1)) ∙ h));
        told = λ e. e;
      };
    }

    only_one : (id : ℕ) (v : View T) → get_elem? (first_view c made boarded ∷ []) id ≡ some v → Knows c boarded clear (λ _. 0) 0 0 (λ _. 0) made id v
    only_one zero v at = subst (Knows c boarded clear (λ _. 0) 0 0 (λ _. 0) made 0) (some-injective (first_view c made boarded) v at) founding
    only_one (suc id) v at = absurd (some-ne-none v (sym at))
