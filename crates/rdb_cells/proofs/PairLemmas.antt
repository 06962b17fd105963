-- What a plan's list of pairs says of each cell.
use Rattle.std.proofs.Common.{◌≡◌, ◌≢◌, ◌||◌, ◌⊎◌, ◌==◌, ◌<◌, zero, suc, ℕ, List, [], ◌∷◌, ◌++◌, length, get_or, set, Option, Some, None, IsSome, IfSome, IfNone, is_some, Bool, true, false, refl, sym, ap, subst, ◌∙◌, arith, cond, inl, inr, eq-eqb, rules}
use Rattle.std.proofs.lemmas.Bool.{ne_eqb, eqb-true, false≢true}
use Rattle.std.proofs.Permutation.{which}
use Rattle.std.specs.List.{find}
use Rattle.std.specs.Option.{option_map}
use Rattle.rdb_pages.specs.declared.cell.Cell.{Cell}
use Rattle.rdb_cells.specs.declared.pairs.Pair.{Pair}
use Rattle.rdb_cells.specs.Images.{Image, SameImage, Writes}
use Rattle.rdb_cells.specs.Places.{AreDifferent}
use Rattle.rdb_cells.specs.Records.{names, numbers_of, content, replaced, with_put, first_of, planned}

-- a replaced list gives the new content for its cell, and what it gave for the others
content-replaced_same : (ps : List Pair) (n : ℕ) (cell : Cell) → names ps n ≡ true → content (replaced ps n cell) n ≡ Some cell
content-replaced_same [] n cell e = cc
content-replaced_same (p ∷ ps) n cell e = elim (which p.at.number n) [
  | inl same ↦ rw (eq-eqb p.at.number n same) (rw (eq-eqb p.at.number n same) refl)
  | inr different ↦
      let off = ne_eqb p.at.number n different in
      rw off (rw off (content-replaced_same ps n cell (sym (ap (λ (b : Bool). b || names ps n) off) ∙ e)))
]

content-replaced_other : (ps : List Pair) (n m : ℕ) (cell : Cell) → m ≢ n → content (replaced ps n cell) m ≡ content ps m
content-replaced_other [] n m cell ne = refl
content-replaced_other (p ∷ ps) n m cell ne = elim (which p.at.number n) [
  | inl same ↦
      let off = ne_eqb p.at.number m (λ e. ne (sym e ∙ same)) in
      rw (eq-eqb p.at.number n same) (rw off (content-replaced_other ps n m cell ne))
  | inr different ↦
      rw (ne_eqb p.at.number n different)
      (elim (p.at.number == m) as (λ (b : Bool). option_map (λ (q : Pair). q.cell) (cond b (Some p) (find (λ (q : Pair). q.at.number == m) (replaced ps n cell))) ≡ option_map (λ (q : Pair). q.cell) (cond b (Some p) (find (λ (q : Pair). q.at.number == m) ps))) [
        | true ↦ refl
        | false ↦ content-replaced_other ps n m cell ne
      ])
]

pub content-append_same : (ps : List Pair) (p : Pair) (n : ℕ) → names ps n ≡ false → p.at.number ≡ n → content (ps ++ p ∷ []) n ≡ Some p.cell
content-append_same [] p n e same = rw (eq-eqb p.at.number n same) refl
content-append_same (q ∷ ps) p n e same =
    (elim (q.at.number == n) as (λ (b : Bool). (b || names ps n) ≡ false → option_map (λ (r : Pair). r.cell) (cond b (Some q) (find (λ (r : Pair). r.at.number == n) (ps ++ p ∷ []))) ≡ Some p.cell) [
      | true ↦ λ h. cc
      | false ↦ λ h. content-append_same ps p n h same
    ]) e

pub content-append_other : (ps : List Pair) (p : Pair) (n : ℕ) → n ≢ p.at.number → content (ps ++ p ∷ []) n ≡ content ps n
content-append_other [] p n ne = rw (ne_eqb p.at.number n (λ e. ne (sym e))) refl
content-append_other (q ∷ ps) p n ne =
    elim (q.at.number == n) as (λ (b : Bool). option_map (λ (r : Pair). r.cell) (cond b (Some q) (find (λ (r : Pair). r.at.number == n) (ps ++ p ∷ []))) ≡ option_map (λ (r : Pair). r.cell) (cond b (Some q) (find (λ (r : Pair). r.at.number == n) ps))) [
      | true ↦ refl
      | false ↦ content-append_other ps p n ne
    ]

-- a put changes one cell of the plan's reading
pub put_writes : (ps : List Pair) (p : Pair) (image : Image) → Writes (planned ps image) (planned (with_put ps p) image) p.at.number p.cell
put_writes ps p image =
    (elim (names ps p.at.number) as (λ (b : Bool). names ps p.at.number ≡ b → Writes (planned ps image) (planned (cond b (replaced ps p.at.number p.cell) (ps ++ p ∷ [])) image) p.at.number p.cell) [
      | true ↦ λ named. record {
        here = ap (λ (o : Option Cell). first_of o (image p.at.number)) (content-replaced_same ps p.at.number p.cell named);
        elsewhere = λ other ne. ap (λ (o : Option Cell). first_of o (image other)) (content-replaced_other ps p.at.number other p.cell ne);
      }
      | false ↦ λ unnamed. record {
        here = ap (λ (o : Option Cell). first_of o (image p.at.number)) (content-append_same ps p p.at.number unnamed refl);
        elsewhere = λ other ne. ap (λ (o : Option Cell). first_of o (image other)) (content-append_other ps p other ne);
      }
    ]) refl

pub any_right : (b c : Bool) → c ≡ true → (b || c) ≡ true
any_right true c e = refl
any_right false c e = e

neither : (a b : Bool) → (a || b) ≡ false → (a ≡ false) × (b ≡ false)
neither true b e = cc
neither false b e = (refl, e)

pub different-tail : (x : ℕ) (xs : List ℕ) → AreDifferent (x ∷ xs) → AreDifferent xs
different-tail x xs d i j hi hj e = let s = d (suc i) (suc j) (omega arith) (omega arith) e in omega arith

pub different-head : (x : ℕ) (xs : List ℕ) (i : ℕ) → AreDifferent (x ∷ xs) → i < length xs → get_or xs i 0 ≢ x
different-head x xs i d h e = let s = d 0 (suc i) (omega arith) (omega arith) (sym e) in absurd (omega arith)

pub names_at : (ps : List Pair) (i n : ℕ) → i < length (numbers_of ps) → get_or (numbers_of ps) i 0 ≡ n → names ps n ≡ true
names_at [] i n h e = absurd (omega arith)
names_at (p ∷ ps) zero n h e = rw (eq-eqb p.at.number n e) refl
names_at (p ∷ ps) (suc i) n h e = any_right (p.at.number == n) (names ps n) (names_at ps i n (omega arith) e)

pub names_none : (ps : List Pair) (n : ℕ) → ((i : ℕ) → i < length (numbers_of ps) → get_or (numbers_of ps) i 0 ≢ n) → names ps n ≡ false
names_none [] n none = refl
names_none (p ∷ ps) n none = rw (ne_eqb p.at.number n (none 0 (omega arith))) (names_none ps n (λ i h. none (suc i) (omega arith)))

pub unnamed_fresh : (ps : List Pair) (n : ℕ) → names ps n ≡ false → (i : ℕ) → i < length (numbers_of ps) → get_or (numbers_of ps) i 0 ≢ n
unnamed_fresh [] n e i h same = absurd (omega arith)
unnamed_fresh (p ∷ ps) n e zero h same = let off = (neither (p.at.number == n) (names ps n) e).0 in let on = eq-eqb p.at.number n same in cc
unnamed_fresh (p ∷ ps) n e (suc i) h same = unnamed_fresh ps n (neither (p.at.number == n) (names ps n) e).1 i (omega arith) same

pub content_at : (ps : List Pair) (i n : ℕ) (d : Pair) → AreDifferent (numbers_of ps) → i < length (numbers_of ps) → get_or (numbers_of ps) i 0 ≡ n → content ps n ≡ Some (get_or ps i d).cell
content_at [] i n d apart h e = absurd (omega arith)
content_at (p ∷ ps) zero n d apart h e = rw (eq-eqb p.at.number n e) refl
content_at (p ∷ ps) (suc i) n d apart h e =
    let different : p.at.number ≢ n = λ same. different-head p.at.number (numbers_of ps) i apart (omega arith) (e ∙ sym same) in
    rw (ne_eqb p.at.number n different) (content_at ps i n d (different-tail p.at.number (numbers_of ps) apart) (omega arith) e)

pub content_unnamed : (ps : List Pair) (n : ℕ) → names ps n ≡ false → content ps n ≡ None
content_unnamed [] n e = refl
content_unnamed (p ∷ ps) n e =
    let both = neither (p.at.number == n) (names ps n) e in
    rw both.0 (content_unnamed ps n both.1)

pub content_named : (ps : List Pair) (n : ℕ) → names ps n ≡ true → IsSome (content ps n)
content_named [] n e = cc
content_named (p ∷ ps) n e =
    (elim (p.at.number == n) as (λ (b : Bool). (b || names ps n) ≡ true → IsSome (option_map (λ (q : Pair). q.cell) (cond b (Some p) (find (λ (q : Pair). q.at.number == n) ps)))) [
      | true ↦ λ h. search rules
      | false ↦ λ h. content_named ps n h
    ]) e

pub replaced_unnamed : (ps : List Pair) (n : ℕ) (cell : Cell) → names ps n ≡ false → replaced ps n cell ≡ ps
replaced_unnamed [] n cell e = refl
replaced_unnamed (p ∷ ps) n cell e =
    let both = neither (p.at.number == n) (names ps n) e in
    rw both.0 (ap (λ (qs : List Pair). p ∷ qs) (replaced_unnamed ps n cell both.1))

pub replaced_at : (ps : List Pair) (i : ℕ) (q : Pair) → AreDifferent (numbers_of ps) → i < length (numbers_of ps) → get_or (numbers_of ps) i 0 ≡ q.at.number → set ps i q ≡ replaced ps q.at.number q.cell
replaced_at [] i q apart h e = absurd (omega arith)
replaced_at (p ∷ ps) zero q apart h e =
    let rest = replaced_unnamed ps q.at.number q.cell (names_none ps q.at.number (λ i below same. different-head p.at.number (numbers_of ps) i apart below (same ∙ sym e))) in
    rw (eq-eqb p.at.number q.at.number e)
    (ap (λ (k : ℕ). record { at = record { number = k }; cell = q.cell } ∷ ps) (sym e) ∙ ap (λ (qs : List Pair). record { at = p.at; cell = q.cell } ∷ qs) (sym rest))
replaced_at (p ∷ ps) (suc i) q apart h e =
    let different : p.at.number ≢ q.at.number = λ same. different-head p.at.number (numbers_of ps) i apart (omega arith) (e ∙ sym same) in
    rw (ne_eqb p.at.number q.at.number different) (ap (λ (qs : List Pair). p ∷ qs) (replaced_at ps i q (different-tail p.at.number (numbers_of ps) apart) (omega arith) e))

pub numbers-append : (ps : List Pair) (p : Pair) → numbers_of (ps ++ p ∷ []) ≡ numbers_of ps ++ p.at.number ∷ []
numbers-append [] p = refl
numbers-append (q ∷ ps) p = ap (λ (ns : List ℕ). q.at.number ∷ ns) (numbers-append ps p)

-- a replaced pair keeps its cell
pub numbers-replaced : (ps : List Pair) (n : ℕ) (cell : Cell) → numbers_of (replaced ps n cell) ≡ numbers_of ps
numbers-replaced [] n cell = refl
numbers-replaced (p ∷ ps) n cell =
    (elim (p.at.number == n) as (λ (b : Bool). (cond b (record p { cell = cell }) p).at.number ∷ numbers_of (replaced ps n cell) ≡ p.at.number ∷ numbers_of ps) [
      | true ↦ ap (λ (ns : List ℕ). p.at.number ∷ ns) (numbers-replaced ps n cell)
      | false ↦ ap (λ (ns : List ℕ). p.at.number ∷ ns) (numbers-replaced ps n cell)
    ])

-- a look-up by the table
pub is_named : (r : Option ℕ) (ps : List Pair) (ns : List ℕ) (n : ℕ) → ns ≡ numbers_of ps → IfSome r (λ i. (i < length ns) × (get_or ns i 0 ≡ n)) → IfNone r ((i : ℕ) → i < length ns → get_or ns i 0 ≢ n) → is_some r ≡ names ps n
is_named None ps ns n e found none = sym (names_none ps n (subst (λ (ks : List ℕ). (i : ℕ) → i < length ks → get_or ks i 0 ≢ n) e none))
is_named (Some i) ps ns n e found none =
    let at = subst (λ (ks : List ℕ). (i < length ks) × (get_or ks i 0 ≡ n)) e found in
    sym (names_at ps i n at.0 at.1)

-- a cell with a content has a pair
pub named_when_content : (ps : List Pair) (n : ℕ) (cell : Cell) → content ps n ≡ Some cell → names ps n ≡ true
named_when_content [] n cell e = cc
named_when_content (p ∷ ps) n cell e =
    (elim (p.at.number == n) as (λ (b : Bool). option_map (λ (q : Pair). q.cell) (cond b (Some p) (find (λ (q : Pair). q.at.number == n) ps)) ≡ Some cell → (b || names ps n) ≡ true) [
      | true ↦ λ h. refl
      | false ↦ λ h. named_when_content ps n cell h
    ]) e

-- a put names its own cell, and no other anew
pub either : (b c : Bool) → (b || c) ≡ true → (b ≡ true) ⊎ (c ≡ true)
either true c e = inl refl
either false c e = inr e

pub named_when_appended : (ps : List Pair) (p : Pair) (n : ℕ) → names (ps ++ p ∷ []) n ≡ true → (names ps n ≡ true) ⊎ (p.at.number ≡ n)
named_when_appended [] p n e = elim (either (p.at.number == n) false e) [ inl here ↦ inr (eqb-true p.at.number n here) | inr never ↦ absurd (false≢true never) ]
named_when_appended (q ∷ ps) p n e = elim (either (q.at.number == n) (names (ps ++ p ∷ []) n) e) [
  | inl here ↦ inl (rw here refl)
  | inr later ↦ elim (named_when_appended ps p n later) [ inl before ↦ inl (any_right (q.at.number == n) (names ps n) before) | inr here ↦ inr here ]
]

named_when_replaced : (ps : List Pair) (at n : ℕ) (cell : Cell) → names (replaced ps at cell) n ≡ true → names ps n ≡ true
named_when_replaced [] at n cell e = e
named_when_replaced (p ∷ ps) at n cell e =
    (elim (p.at.number == at) as (λ (b : Bool). ((cond b (record p { cell = cell }) p).at.number == n || names (replaced ps at cell) n) ≡ true → (p.at.number == n || names ps n) ≡ true) [
      | true ↦ λ h. elim (either (p.at.number == n) (names (replaced ps at cell) n) h) [ inl here ↦ rw here refl | inr later ↦ any_right (p.at.number == n) (names ps n) (named_when_replaced ps at n cell later) ]
      | false ↦ λ h. elim (either (p.at.number == n) (names (replaced ps at cell) n) h) [ inl here ↦ rw here refl | inr later ↦ any_right (p.at.number == n) (names ps n) (named_when_replaced ps at n cell later) ]
    ]) e

pub named_with_put : (ps : List Pair) (p : Pair) (n : ℕ) → names (with_put ps p) n ≡ true → (names ps n ≡ true) ⊎ (p.at.number ≡ n)
named_with_put ps p n e =
    (elim (names ps p.at.number) as (λ (b : Bool). names (cond b (replaced ps p.at.number p.cell) (ps ++ p ∷ [])) n ≡ true → (names ps n ≡ true) ⊎ (p.at.number ≡ n)) [
      | true ↦ λ h. inl (named_when_replaced ps p.at.number n p.cell h)
      | false ↦ λ h. named_when_appended ps p n h
    ]) e

pub with_put_named : (ps : List Pair) (p : Pair) → names ps p.at.number ≡ true → with_put ps p ≡ replaced ps p.at.number p.cell
with_put_named ps p named = rw named refl

pub with_put_fresh : (ps : List Pair) (p : Pair) → names ps p.at.number ≡ false → with_put ps p ≡ ps ++ p ∷ []
with_put_fresh ps p unnamed = rw unnamed refl

-- the last of different cells has no other pair
last_number : (ps : List Pair) (p : Pair) → get_or (numbers_of (ps ++ p ∷ [])) (length ps) 0 ≡ p.at.number
last_number [] p = refl
last_number (q ∷ ps) p = last_number ps p

one_longer : (ps : List Pair) (p : Pair) → length (numbers_of (ps ++ p ∷ [])) ≡ suc (length ps)
one_longer [] p = refl
one_longer (q ∷ ps) p = ap suc (one_longer ps p)

last_unnamed : (ps : List Pair) (p : Pair) → AreDifferent (numbers_of (ps ++ p ∷ [])) → names ps p.at.number ≡ false
last_unnamed [] p apart = refl
last_unnamed (q ∷ ps) p apart =
    let longer = one_longer ps p in
    let different : q.at.number ≢ p.at.number = λ same. different-head q.at.number (numbers_of (ps ++ p ∷ [])) (length ps) apart (omega arith) (last_number ps p ∙ sym same) in
    rw (ne_eqb q.at.number p.at.number different) (last_unnamed ps p (different-tail q.at.number (numbers_of (ps ++ p ∷ [])) apart))

-- once the newest pair is written, the others read as all did
pub written_next : (ps : List Pair) (p : Pair) (before after : Image) → AreDifferent (numbers_of (ps ++ p ∷ [])) → Writes before after p.at.number p.cell → SameImage (planned ps after) (planned (ps ++ p ∷ []) before)
written_next ps p before after apart writes n = elim (which n p.at.number) [
  | inl same ↦
      let unnamed : names ps n ≡ false = ap (names ps) same ∙ last_unnamed ps p apart in
      ap (λ (o : Option Cell). first_of o (after n)) (content_unnamed ps n unnamed)
      ∙ ap after same ∙ writes.here
      ∙ sym (ap (λ (o : Option Cell). first_of o (before n)) (content-append_same ps p n unnamed (sym same)))
  | inr other ↦
      ap (first_of (content ps n)) (writes.elsewhere n other)
      ∙ sym (ap (λ (o : Option Cell). first_of o (before n)) (content-append_other ps p n other))
]
