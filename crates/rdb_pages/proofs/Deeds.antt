-- The right to free a block of places, and the size of such a block. Assumes `Logic`.
--     block_ty, block_size, block_align    what the allocator is asked for
--     deed_had, deed_made                  a deed is taken apart, and made
--     pair_of                              two values make a pair
use mathlib.Core.Path.{◌≡◌, refl, sym, ap, ◌∙◌}
use Prim.Native.Nat.{ℕ, zero, suc, ◌*◌, ◌<◌, ◌^◌}
use native.Mathlib.Nat.{zero-mul, suc-mul}
use native.Mathlib.Omega.{arith}
use mathlib.Core.List.{List, [], ◌∷◌, ◌++◌}
use seplogic.Ra.Ura.{Ura}
use base.Logic.{ent, sep}
use mir.Raw.{raw as bare}
use mir.Syntax.{Args, Ty, a_type, ty_array, dcons, dnil}
use mir.Val.{Val, vstruct, vcons, vnil, of_list}
use prog.Capped.{capped_is}
use prog.Memory.{size, align, capped}
use prog.RawLaws.{size-raw, align-raw}
use types.Logic.{Logic, sem}
use types.Kit.{Goal, Item, Seq, Step, step, ‵, ◌$◌, ◌∵◌, !, qed, move, drop, fsplit, fjoin, fpick, fpack, feq_i, feq_l, done}
use denote.Param.{bounded, param}
use denote.RattleType.{RattleType, Valss}
use denote.RawPtr.{Ptr}
use denote.Shadow.{pure_i}
use denote.Steps.{nothing}
use denote.Struct.Declared as Declared
use denote.Struct.Owning.{shape}
use denote.Struct.Struct.{Struct, within}
use denote.Struct.Tuple.{Tuple, tuple_type}
use Rattle.std.proofs.alloc.Calls.{Al, token}
use Rattle.std.proofs.ptr.Rows.{El, R, elτ, sz}
use Rattle.rdb_pages.specs.contracts.block.Deed as D

module _ (E : El) where
  -- memory for n places
  abbrev pub block_ty : ℕ → Ty
  block_ty n = bare (ty_array (elτ E) n)

  pub block_size : (n : ℕ) → n * sz E < 2 ^ 64 → capped (size (block_ty n)) ≡ n * sz E
  block_size n fits = ap capped (size-raw (ty_array (elτ E) n)) ∙ capped_is (n * sz E) fits

  pub block_align : (n : ℕ) → capped (align (block_ty n)) ≡ capped (align (elτ E))
  block_align n = ap capped (align-raw (ty_array (elτ E) n))

-- the machine's product is the plain one, where that fits a word
pub product : (n s : ℕ) → n * s < 2 ^ 64 → n * capped s ≡ n * s
product zero s fits = zero-mul (capped s) ∙ sym (zero-mul s)
product (suc n) s fits = let more = suc-mul n s in ap (λ (k : ℕ). suc n * k) (capped_is s (omega arith))

-- the machine value of a deed
abbrev pub mark : Val
mark = vstruct (vcons (vstruct vnil) vnil)

module _ (E : El) (Z : Al) where
  abbrev pub both_args : Args
  both_args = bounded (a_type ∷ a_type ∷ []) (E.row, (Z.row, tt)) (dcons Z.d (dcons Z.drops dnil))

  abbrev pub P : RattleType
  P = param 1 Z.row

  abbrev pub Dr : RattleType
  Dr = D.the_row (R E) P Z.g

  abbrev pub deed : Ptr → ℕ → Z.row.Denot → Dr.Denot
  deed p n a = record { marker = record {}; start = p; len = n; alloc = a }

module _ (E : El) (Z : Al) {M : Type 1} {𝓤 : Ura M} {𝓛 : Logic 𝓤} {K : Type 0} {Γ : List (Item 𝓤)} {G : Goal 𝓤 𝓛.H} where
  pub deed_had : K → (d : (Dr E Z).Denot) (vs : List Val)
      → (vs ≡ mark ∷ [] → Seq K 𝓛 (‵ (token Z d.alloc (block_ty E d.len) d.start) ∷ Γ) G) → Seq K 𝓛 (‵ ((Dr E Z).own_val d vs) ∷ Γ) G
  deed_had t d vs k = fsplit t $ fpick t (λ vss. fsplit t $ feq_l t (λ all. fsplit t $ fpick t (λ none. fsplit t $ feq_l t (λ e. drop t $ drop t $
      k (all ∙ ap (λ (ws : List Val). vstruct (of_list (ws ++ [])) ∷ []) e)))))

  pub deed_made : K → (p : Ptr) (n : ℕ) (a : Z.row.Denot) → Step K 𝓛 (‵ ((Dr E Z).own_val (deed E Z p n a) (mark ∷ [])) ∷ Γ) G (‵ (token Z a (block_ty E n) p) ∷ Γ) G
  deed_made t p n a = step (λ s.
      pure_i t ((Struct (shape (D.the_type (R E) (P E Z) Z.g))).own_val (tt, tt) (mark ∷ [])) (λ vss. (tt, ((λ uss. (tt, tt)), tt))) ((vstruct vnil ∷ [], tt), (refl, ((tt, (refl, tt)), tt))) $ fjoin t $ s)

-- the machine value of a pair
abbrev pub pair : Val → Val → Val
pair u v = vstruct (vcons u (vcons v vnil))

pub pair_of : {M : Type 1} {𝓤 : Ura M} (𝓛 : Logic 𝓤) (S T : RattleType) (x : S.Denot) (y : T.Denot) (u v : Val)
    → ent 𝓤 (sep 𝓤 (sem 𝓛 (S.own_val x (u ∷ []))) (sem 𝓛 (T.own_val y (v ∷ [])))) (sem 𝓛 ((Tuple (S ∷ T ∷ [])).own_val (x, y) (pair u v ∷ [])))
pair_of 𝓛 S T x y u v =
    qed 𝓛 (‵ (S.own_val x (u ∷ [])) ∷ ‵ (T.own_val y (v ∷ [])) ∷ []) ∵ nothing ! $ move ! (2 ∷ 0 ∷ []) $ fjoin ! $ move ! (1 ∷ 0 ∷ []) $ fjoin ! $
    feq_i ! (List Val) (pair u v ∷ []) (pair u v ∷ []) refl $ fjoin ! $
    fpack ! (Valss (S ∷ T ∷ [])) (within (Declared.shape (tuple_type (S ∷ T ∷ []))) (x, (y, tt)) (pair u v ∷ [])) (u ∷ [], (v ∷ [], tt)) $ done !
