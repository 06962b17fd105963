-- Boxes and the least that covers them.
use Rattle.std.proofs.Common.{◌≡◌, ◌+◌, ◌<◌, ℕ, ℤ, List, [], ◌∷◌, ◌++◌, length, take, map, get_or, sym, ap₂, subst, ◌∙◌, arith}
use Rattle.std.proofs.lemmas.Int.{ints, clamps, to_z-of_z}
use Rattle.std.proofs.lemmas.List.{map_more}
use Rattle.std.specs.Int.{w32, cast_signed, cast_unsigned, int_min, int_max}
use Rattle.std.specs.Prelude.{FitsSigned}
use Rattle.rdb_base.specs.declared.value.Rect.{Rect}
use Rattle.rdb_rtree.specs.Boxes.{LiesIn, Covers, IsLeastCover}

pub lies_further : (a b c : Rect) → LiesIn a b → LiesIn b c → LiesIn a c
lies_further a b c first second =
    let l1 = first.left in
    let l2 = second.left in
    let d1 = first.low in
    let d2 = second.low in
    let r1 = first.right in
    let r2 = second.right in
    let h1 = first.high in
    let h2 = second.high in
    record { left = omega (arith, ints); low = omega (arith, ints); right = omega (arith, ints); high = omega (arith, ints) }

pub lies_itself : (a : Rect) → LiesIn a a
lies_itself a = record { left = omega (arith, ints); low = omega (arith, ints); right = omega (arith, ints); high = omega (arith, ints) }

-- more boxes are covered by what covers more
pub covers_further : (boxes : List Rect) (a b : Rect) → Covers a boxes → LiesIn a b → Covers b boxes
covers_further [] a b covers within = tt
covers_further (x ∷ xs) a b covers within = (lies_further x a b covers.0 within, covers_further xs a b covers.1 within)

pub covers_push : (boxes : List Rect) (x a : Rect) → Covers a boxes → LiesIn x a → Covers a (boxes ++ x ∷ [])
covers_push [] x a covers within = (within, tt)
covers_push (y ∷ ys) x a covers within = (covers.0, covers_push ys x a covers.1 within)

pub covers_front : (boxes : List Rect) (x a : Rect) → Covers a (boxes ++ x ∷ []) → Covers a boxes × LiesIn x a
covers_front [] x a covers = (tt, covers.0)
covers_front (y ∷ ys) x a covers = let rest = covers_front ys x a covers.1 in ((covers.0, rest.0), rest.1)

pub joined_covers : (a b : Rect) → IsLeastCover (a ∷ b ∷ []) (record { x1 = int_min a.x1 b.x1; y1 = int_min a.y1 b.y1; x2 = int_max a.x2 b.x2; y2 = int_max a.y2 b.y2 })
joined_covers a b = record {
  covers = (
    record { left = omega (arith, ints, clamps); low = omega (arith, ints, clamps); right = omega (arith, ints, clamps); high = omega (arith, ints, clamps) },
    (record { left = omega (arith, ints, clamps); low = omega (arith, ints, clamps); right = omega (arith, ints, clamps); high = omega (arith, ints, clamps) }, tt),
  );
  least = λ other covers.
      let l1 = covers.0.left in
      let l2 = covers.1.0.left in
      let d1 = covers.0.low in
      let d2 = covers.1.0.low in
      let r1 = covers.0.right in
      let r2 = covers.1.0.right in
      let h1 = covers.0.high in
      let h2 = covers.1.0.high in
      record { left = omega (arith, ints, clamps); low = omega (arith, ints, clamps); right = omega (arith, ints, clamps); high = omega (arith, ints, clamps) };
}

pub covers_one : (a : Rect) → IsLeastCover (a ∷ []) a
covers_one a = record { covers = (lies_itself a, tt); least = λ other covers. covers.0 }

-- the least and the greatest of two numbers, as they are read
pub min_read : (a b r : ℤ) → FitsSigned w32 a → FitsSigned w32 b → FitsSigned w32 r → r ≡ int_min (cast_signed w32 (cast_unsigned w32 a)) (cast_signed w32 (cast_unsigned w32 b)) → int_min a b ≡ cast_signed w32 (cast_unsigned w32 r)
min_read a b r fa fb fr e = ap₂ int_min (sym (to_z-of_z w32 a fa)) (sym (to_z-of_z w32 b fb)) ∙ sym e ∙ sym (to_z-of_z w32 r fr)

pub max_read : (a b r : ℤ) → FitsSigned w32 a → FitsSigned w32 b → FitsSigned w32 r → r ≡ int_max (cast_signed w32 (cast_unsigned w32 a)) (cast_signed w32 (cast_unsigned w32 b)) → int_max a b ≡ cast_signed w32 (cast_unsigned w32 r)
max_read a b r fa fb fr e = ap₂ int_max (sym (to_z-of_z w32 a fa)) (sym (to_z-of_z w32 b fb)) ∙ sym e ∙ sym (to_z-of_z w32 r fr)

-- a cover joined with one more box
pub covers_more : (boxes : List Rect) (a x b : Rect) → IsLeastCover boxes a → IsLeastCover (a ∷ x ∷ []) b → IsLeastCover (boxes ++ x ∷ []) b
covers_more boxes a x b first joined = record {
  covers = covers_push boxes x b (covers_further boxes a b first.covers joined.covers.0) joined.covers.1.0;
  least = λ other covers.
      let parts = covers_front boxes x other covers in
      joined.least other (first.least other parts.0, (parts.1, tt));
}

-- the step of a loop over what has boxes
pub covers_step : {X : Type 0} (f : X → Rect) (a : Rect) (xs : List X) (i : ℕ) (d : X) (c b : Rect) → i < length xs → IsLeastCover (a ∷ map f (take i xs)) c → IsLeastCover (c ∷ f (get_or xs i d) ∷ []) b → IsLeastCover (a ∷ map f (take (i + 1) xs)) b
covers_step f a xs i d c b below first joined =
    subst (λ (boxes : List Rect). IsLeastCover (a ∷ boxes) b) (sym (map_more f xs i d below)) (covers_more (a ∷ map f (take i xs)) c (f (get_or xs i d)) b first joined)
