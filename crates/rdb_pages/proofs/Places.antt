-- One place is taken out of a row of places and put back, or seen; room for an array is a row of empty places. Assumes `Logic`.
--     place_out, place_in      the place at an index, and the others
--     place_seen               what a `&` to the row shows of it
--     of_room, to_room         new memory is empty places, and any places are memory that can go back
--     value_in                 a stored value, with what it owns, fills a place
use mathlib.Core.Path.{◌≡◌, refl, sym}
use Prim.Native.Nat.{ℕ, zero, suc, ◌+◌, ◌*◌, ◌<◌}
use native.Mathlib.Omega.{arith}
use mathlib.Core.List.{List, [], ◌∷◌}
use lib.ListN.{length, set, replicate}
use seplogic.Ra.Ura.{Ura}
use base.Fraction.{full_share}
use mir.Syntax.{ty_array}
use mir.Val.{Val}
use base.Logic.{ent, sep, id⊢}
use base.Fml.{Lft, Fml, ftrue, fsep, fat, froom}
use types.Logic.{Logic, sem}
use types.Kit.{‵, ◌⊛◌, some, given, ◌$◌, ◌∵◌, !, qed, by, move, keep, drop, use1, use2, split, pick, learn, rewrite, fsplit, frame, done}
use denote.Index.{place, place_is}
use denote.Memory.{part_at}
use Rattle.std.specs.Prelude.{Option, Some, None, slice_get}
use Rattle.std.proofs.ptr.Rows.{El, R, el_x, elτ, sz, Good, el_out, el_in}
use Rattle.rdb_pages.specs.Block.{place_owns, places_own, place_lends, places_lend}

module _ (E : El) where
  -- the places but for the i-th
  abbrev pub others : ℕ → ℕ → List (Option (el_x E)) → ℕ → Fml
  others b o [] i = ftrue
  others b o (c ∷ cs) zero = places_own (R E) b (o + sz E) cs
  others b o (c ∷ cs) (suc i) = fsep (place_owns (R E) b o c) (others b (o + sz E) cs i)

module _ (E : El) {M : Type 1} {𝓤 : Ura M} (𝓛 : Logic 𝓤) (b : ℕ) where
  open 𝓛 use {H}

  abbrev Held : Type 0
  Held = List (Option (el_x E))

  abbrev one : ℕ → Option (el_x E) → Fml
  one = place_owns (R E) b

  abbrev all : ℕ → Held → Fml
  all = places_own (R E) b

  out : (cs : Held) (i : ℕ) (c : Option (el_x E)) (o : ℕ) → slice_get cs i ≡ Some c → ent 𝓤 (sem 𝓛 (all o cs)) (sep 𝓤 (sem 𝓛 (one (place (sz E) o i) c)) (sem 𝓛 (others E b o cs i)))
  out [] i c o e = absurd cc
  out (x ∷ cs) zero c o e = let same : x ≡ c = cc in qed 𝓛 (‵ (all o (x ∷ cs)) ∷ []) ∵ fsplit ! $ rewrite ! 0 (λ (d : Option (el_x E)). ‵ (one o d)) same refl $ done !
  out (x ∷ cs) (suc i) c o e = let next = o + sz E in qed 𝓛 (‵ (all o (x ∷ cs)) ∷ []) ∵ fsplit ! $ move ! (1 ∷ []) $
      use1 𝓛 (‵ (one (place (sz E) next i) c) ⊛ ‵ (others E b next cs i)) (out cs i c next e) $ split ! $ frame ! $ move ! (1 ∷ 0 ∷ []) $ done !

  in_ : (cs : Held) (i : ℕ) (d : Option (el_x E)) (o : ℕ) → i < length cs → ent 𝓤 (sep 𝓤 (sem 𝓛 (one (place (sz E) o i) d)) (sem 𝓛 (others E b o cs i))) (sem 𝓛 (all o (set cs i d)))
  in_ [] i d o l = absurd (omega arith)
  in_ (x ∷ cs) zero d o l = id⊢ 𝓤 _
  in_ (x ∷ cs) (suc i) d o l = let next = o + sz E in qed 𝓛 (‵ (one (place (sz E) next i) d) ∷ ‵ (others E b o (x ∷ cs) (suc i)) ∷ []) ∵ move ! (1 ∷ []) $ fsplit ! $ move ! (2 ∷ 1 ∷ []) $
      use2 𝓛 (‵ (all next (set cs i d))) (in_ cs i d next (omega arith)) $ move ! (1 ∷ 0 ∷ []) $ done !

  module _ (o : ℕ) (cs : Held) (i : ℕ) where
    pub place_out : (c : Option (el_x E)) → slice_get cs i ≡ Some c → ent 𝓤 (sem 𝓛 (all o cs)) (sep 𝓤 (sem 𝓛 (one (i * sz E + o) c)) (sem 𝓛 (others E b o cs i)))
    place_out c e = qed 𝓛 (‵ (all o cs) ∷ []) ∵ use1 𝓛 (‵ (one (place (sz E) o i) c) ⊛ ‵ (others E b o cs i)) (out cs i c o e) $ split ! $
        rewrite ! 0 (λ (k : ℕ). ‵ (one k c)) (place_is (sz E) o i) refl $ done !

    pub place_in : (d : Option (el_x E)) → i < length cs → ent 𝓤 (sep 𝓤 (sem 𝓛 (one (i * sz E + o) d)) (sem 𝓛 (others E b o cs i))) (sem 𝓛 (all o (set cs i d)))
    place_in d l = qed 𝓛 (‵ (one (i * sz E + o) d) ∷ ‵ (others E b o cs i) ∷ []) ∵ rewrite ! 0 (λ (k : ℕ). ‵ (one k d)) (sym (place_is (sz E) o i)) refl $ by ! (in_ cs i d o l)

  pub value_in : (x : el_x E) (o : ℕ) (v : Val) → ent 𝓤 (sep 𝓤 (H.at full_share (elτ E) b o v) (sem 𝓛 (E.row.own_val x (v ∷ [])))) (sem 𝓛 (one o (Some x)))
  value_in x o v = el_in E 𝓛 full_share x b o v

  -- the memory of a place, whatever it holds
  emptied : (c : Option (el_x E)) (o : ℕ) → ent 𝓤 (sem 𝓛 (one o c)) (H.room (elτ E) b o)
  emptied None o = 𝓛.laws.raw-room (elτ E) b o
  emptied (Some x) o = qed 𝓛 (‵ (part_at (R E) full_share x b o) ∷ []) ∵
      use1 𝓛 (some (λ (v : Val). given (Good E v) (‵ (fat full_share (elτ E) b o v) ⊛ ‵ (E.row.own_val x (v ∷ []))))) (el_out E 𝓛 full_share x b o) $ pick ! (λ v. learn ! (λ good. split ! $
      keep ! (0 ∷ []) $ by ! (𝓛.laws.at_room (elτ E) b o v)))

  pub of_room : (n o : ℕ) → ent 𝓤 (H.room (ty_array (elτ E) n) b o) (sem 𝓛 (all o (replicate n None)))
  of_room zero o = qed 𝓛 (‵ (froom (ty_array (elτ E) 0) b o) ∷ []) ∵ keep ! [] $ done !
  of_room (suc n) o = let next = o + sz E in qed 𝓛 (‵ (froom (ty_array (elτ E) (suc n)) b o) ∷ []) ∵
      use1 𝓛 (‵ (froom (elτ E) b o) ⊛ ‵ (froom (ty_array (elτ E) n) b next)) (𝓛.laws.room_uncons (elτ E) n b o) $ split ! $
      use1 𝓛 (‵ (one o None)) (𝓛.laws.room-raw (elτ E) b o) $ frame ! $ by ! (of_room n next)

  pub to_room : (cs : Held) (o : ℕ) → ent 𝓤 (sem 𝓛 (all o cs)) (H.room (ty_array (elτ E) (length cs)) b o)
  to_room [] o = 𝓛.laws.room_nil (elτ E) b o
  to_room (c ∷ cs) o = let next = o + sz E in qed 𝓛 (‵ (one o c) ∷ ‵ (all next cs) ∷ []) ∵
      use1 𝓛 (‵ (froom (elτ E) b o)) (emptied c o) $ move ! (1 ∷ []) $
      use1 𝓛 (‵ (froom (ty_array (elτ E) (length cs)) b next)) (to_room cs next) $ move ! (1 ∷ []) $ by ! (𝓛.laws.room_cons (elτ E) (length cs) b o)

  module _ (κ : Lft) where
    seen : (cs : Held) (i : ℕ) (c : Option (el_x E)) (o : ℕ) → slice_get cs i ≡ Some c → ent 𝓤 (sem 𝓛 (places_lend (R E) b o cs κ)) (sem 𝓛 (place_lends (R E) b (place (sz E) o i) c κ))
    seen [] i c o e = absurd cc
    seen (x ∷ cs) zero c o e = let same : x ≡ c = cc in qed 𝓛 (‵ (places_lend (R E) b o (x ∷ cs) κ) ∷ []) ∵ fsplit ! $ keep ! (0 ∷ []) $ rewrite ! 0 (λ (d : Option (el_x E)). ‵ (place_lends (R E) b o d κ)) same refl $ done !
    seen (x ∷ cs) (suc i) c o e = qed 𝓛 (‵ (places_lend (R E) b o (x ∷ cs) κ) ∷ []) ∵ fsplit ! $ drop ! $ by ! (seen cs i c (o + sz E) e)

    pub place_seen : (o : ℕ) (cs : Held) (i : ℕ) (c : Option (el_x E)) → slice_get cs i ≡ Some c → ent 𝓤 (sem 𝓛 (places_lend (R E) b o cs κ)) (sem 𝓛 (place_lends (R E) b (i * sz E + o) c κ))
    place_seen o cs i c e = qed 𝓛 (‵ (places_lend (R E) b o cs κ) ∷ []) ∵ use1 𝓛 (‵ (place_lends (R E) b (place (sz E) o i) c κ)) (seen cs i c o e) $
        rewrite ! 0 (λ (k : ℕ). ‵ (place_lends (R E) b k c κ)) (place_is (sz E) o i) refl $ done !
