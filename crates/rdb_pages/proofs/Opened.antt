-- The owner of a block of places is opened to its pointer and its places, and closed again. Assumes `Logic`.
--     block_had, block_made        a block by value
--     block_opens, block_closes    one behind a `&mut`
--     block_shown                  one behind a `&`
--     start_in, start_out          its pointer is looked at there, and given back
--     alone                        a value of any type is one machine value, of its type
use mathlib.Core.Path.{◌≡◌, refl, sym, ap, ◌∙◌}
use Prim.Native.Nat.{ℕ, ◌+◌, ◌*◌, ◌<◌, ◌^◌}
use mathlib.Core.List.{List, [], ◌∷◌, ◌++◌}
use lib.ListN.{length}
use seplogic.Ra.Ura.{Ura}
use base.Fraction.{full_share}
use base.Stored.{Gv}
use base.Logic.{ent, sep, id⊢, never}
use base.Fml.{Lft, GName, Share, fat, fsep, fhide, flft, fobs, fauth, fbor, fobor}
use mir.Syntax.{Args, a_type, ty_ptr}
use mir.Val.{Val, vptr, vstruct, vcons, vnil, of_list}
use types.Logic.{Logic, sem}
use types.Kit.{Goal, Soaks, Step, step, Seq, Item, ‵, ◌⊛◌, ◌$◌, ◌∵◌, !, qed, move, keep, drop, use1, split, rewrite, fsplit, fjoin, fpick, fpack, feq_l, feq_i, flt_l, flt_i, done}
use types.SemTy.{Body}
use denote.RattleType.{RattleType, Valss}
use denote.Copied.{plain_Copied}
use denote.Laws.{Typed, Is}
use denote.Memory.{cell_at, mem, part_at, hidden_shr}
use denote.Opens.{Shut, unhide}
use denote.Param.{layouts}
use denote.Param.Laws.{param_laws}
use denote.RawPtr.{Ptr, RawPtr, block_ptr, coded_ptr, ptr_own, ptr_val, rawptr_pure, in_a_block}
use denote.Steps.{opens, closes, looks, shuts, nothing}
use denote.Struct.Laws.{RawPtr-laws}
use denote.Struct.Lending.{lent_out}
use denote.Struct.Owning.{Owning, shape}
use denote.Struct.Struct.{Struct, within}
use Rattle.std.proofs.ptr.Rows.{El, R, el_x, elτ, sz, Good}
use Rattle.rdb_pages.specs.Block.{places_own, block_owns, block_lends}
use Rattle.rdb_pages.specs.declared.block.Block.{Block}
use Rattle.rdb_pages.specs.contracts.block.Block as B

-- the machine value of a block's owner
abbrev pub word : Ptr → Val
word p = vstruct (vcons (ptr_val p) vnil)

module _ (E : El) where
  abbrev pub args : Args
  args = layouts (a_type ∷ []) (E.row, tt)

  abbrev pub owning : Owning
  owning = B.the_type (R E)

  abbrev pub Br : RattleType
  Br = B.the_row (R E)

  abbrev pub Blk : Type 0
  Blk = Block (el_x E)

  -- its one field, as a plain struct
  abbrev pub Start : RattleType
  Start = Struct (shape owning)

module _ (E : El) {M : Type 1} {𝓤 : Ura M} {𝓛 : Logic 𝓤} {K : Type 0} {Γ : List (Item 𝓤)} {G : Goal 𝓤 𝓛.H} where
  pub block_had : K → (d : Blk E) (vs : List Val)
      → ((b o : ℕ) → d.start ≡ block_ptr b o → vs ≡ word (block_ptr b o) ∷ [] → length d.held * sz E < 2 ^ 63 → Seq K 𝓛 (‵ (places_own (R E) b o d.held) ∷ Γ) G)
      → Seq K 𝓛 (‵ ((Br E).own_val d vs) ∷ Γ) G
  block_had t d vs k =
      fsplit t $ fpick t (λ vss. fsplit t $ feq_l t (λ all. fsplit t $ feq_l t (λ e₀. drop t $
      in_a_block t d.start (λ p. block_owns (R E) p d.held) (id⊢ 𝓤 (never 𝓤)) (λ b o e. fsplit t $ flt_l t (λ fit.
      k b o e (all ∙ (ap (λ (ws : List Val). vstruct (of_list (ws ++ [])) ∷ []) e₀ ∙ ap (λ (p : Ptr). word p ∷ []) e)) fit)))))

  pub block_made : K → (d : Blk E) (b o : ℕ) → d.start ≡ block_ptr b o → length d.held * sz E < 2 ^ 63
      → Step K 𝓛 (‵ ((Br E).own_val d (word (block_ptr b o) ∷ [])) ∷ Γ) G (‵ (places_own (R E) b o d.held) ∷ Γ) G
  block_made t d b o at fit = step (λ s.
      flt_i t (length d.held * sz E) (2 ^ 63) fit $ fjoin t $
      nothing t $ feq_i t (List Val) (vptr b o ∷ []) (vptr b o ∷ []) refl $ fjoin t $ feq_i t (List Val) (word (block_ptr b o) ∷ []) (word (block_ptr b o) ∷ []) refl $ fjoin t $
      fpack t (Valss (shape (owning E)).fields) (within (shape (owning E)) (block_ptr b o, tt) (word (block_ptr b o) ∷ [])) (vptr b o ∷ [], tt) $ fjoin t $
      rewrite t 0 (λ (p : Ptr). ‵ (fsep ((Start E).own_val (p, tt) (word (block_ptr b o) ∷ [])) (block_owns (R E) p d.held))) (sym at) refl $ s)

module _ (E : El) {M : Type 1} {𝓤 : Ura M} {𝓛 : Logic 𝓤} {K : Type 0} {Γ : List (Item 𝓤)} {G : Goal 𝓤 𝓛.H} where
  -- [the places; the pointer; the open borrow, in three entries]
  pub block_opens : K → Soaks G → {κ : Lft} {q : Share} {γ : GName} (d : Blk E) (rb ro : ℕ)
      → ((b o : ℕ) → d.start ≡ block_ptr b o → length d.held * sz E < 2 ^ 63
      → Seq K 𝓛 (‵ (places_own (R E) b o d.held) ∷ ‵ (cell_at full_share (Br E).mir (word (block_ptr b o) ∷ []) rb ro) ∷ ‵ (fobor κ q (Body (mem (Br E)) rb ro γ)) ∷ ‵ (fobs γ ((Br E).coded.code d)) ∷ ‵ (fauth γ ((Br E).coded.code d)) ∷ Γ) G)
      → Seq K 𝓛 (‵ (fobs γ ((Br E).coded.code d)) ∷ ‵ (fbor κ (Body (mem (Br E)) rb ro γ)) ∷ ‵ (flft κ q) ∷ Γ) G
  block_opens t z d rb ro k =
      opens t z (Br E) {h = d} rb ro (λ vs. move t (1 ∷ []) $ block_had E t d vs (λ b o e is fit.
      rewrite t 1 (λ (ws : List Val). ‵ (cell_at full_share (Br E).mir ws rb ro)) is refl $ k b o e fit))

  pub block_closes : K → Soaks G → {κ : Lft} {q : Share} {u v : Gv} {γ : GName} (d : Blk E) (b o rb ro : ℕ) → d.start ≡ block_ptr b o → length d.held * sz E < 2 ^ 63
      → Step K 𝓛 (‵ (fobs γ ((Br E).coded.code d)) ∷ ‵ (fbor κ (Body (mem (Br E)) rb ro γ)) ∷ ‵ (flft κ q) ∷ Γ) G
      (‵ (places_own (R E) b o d.held) ∷ ‵ (cell_at full_share (Br E).mir (word (block_ptr b o) ∷ []) rb ro) ∷ ‵ (fobor κ q (Body (mem (Br E)) rb ro γ)) ∷ ‵ (fobs γ u) ∷ ‵ (fauth γ v) ∷ Γ) G
  block_closes t z d b o rb ro at fit = step (λ s. block_made E t d b o at fit $ move t (1 ∷ 0 ∷ []) $ closes t z (Br E) d (word (block_ptr b o) ∷ []) rb ro $ s)

module _ (E : El) {M : Type 1} {𝓤 : Ura M} (𝓛 : Logic 𝓤) (κ : Lft) where
  pub block_shown : (d : Blk E) (rb ro : ℕ) → ent 𝓤 (sem 𝓛 (hidden_shr (Br E) κ d rb ro)) (sep 𝓤 (sem 𝓛 (hidden_shr RawPtr κ d.start rb (ro + 0))) (sem 𝓛 (block_lends (R E) d.start d.held κ)))
  block_shown d rb ro = qed 𝓛 (‵ (hidden_shr (Br E) κ d rb ro) ∷ []) ∵
      use1 𝓛 (‵ (hidden_shr (Start E) κ (d.start, tt) rb ro) ⊛ ‵ (fhide (B.the_lent (R E) d d.start κ))) (lent_out 𝓛 (B.struct (R E)) (B.the_codes (el_x E) (R E).coded) (B.the_heap (R E)) (B.the_lent (R E)) κ d rb ro) $ split ! $
      unhide ! $ fsplit ! $ fsplit ! $ keep ! (0 ∷ 3 ∷ []) $ done !

module _ {M : Type 1} {𝓤 : Ura M} {𝓛 : Logic 𝓤} {K : Type 0} {Γ : List (Item 𝓤)} {G : Goal 𝓤 𝓛.H} where
  -- [the pointer; the way back]
  pub start_in : K → Soaks G → {κ : Lft} {q : Share} (p : Ptr) (b o : ℕ) → p ≡ block_ptr b o → (rb ro : ℕ)
      → ((q' : Share) → Seq K 𝓛 (‵ (fat q' ty_ptr rb ro (vptr b o)) ∷ Shut 𝓛 κ q (part_at RawPtr q' p rb ro) ∷ Γ) G) → Seq K 𝓛 (‵ (hidden_shr RawPtr κ p rb ro) ∷ ‵ (flft κ q) ∷ Γ) G
  start_in t z p b o at rb ro k =
      looks t z RawPtr (plain_Copied 𝓛 Ptr coded_ptr (ty_ptr ∷ []) ptr_own rawptr_pure ptr_val RawPtr-laws.tells).opens p rb ro (λ q' vs. move t (1 ∷ []) $ feq_l t (λ e.
      rewrite t 0 (λ (us : List Val). ‵ (cell_at q' RawPtr.mir us rb ro)) (e ∙ ap (λ (r : Ptr). ptr_val r ∷ []) at) refl $ move t (2 ∷ []) $ drop t $ k q'))

  pub start_out : K → Soaks G → {κ : Lft} {q q' : Share} (p : Ptr) (b o : ℕ) → p ≡ block_ptr b o → (rb ro : ℕ)
      → Step K 𝓛 (‵ (flft κ q) ∷ Γ) G (‵ (fat q' ty_ptr rb ro (vptr b o)) ∷ Shut 𝓛 κ q (part_at RawPtr q' p rb ro) ∷ Γ) G
  start_out t z {q' = q'} p b o at rb ro = step (λ s.
      feq_i t (List Val) (vptr b o ∷ []) (ptr_val p ∷ []) (ap (λ (r : Ptr). ptr_val r ∷ []) (sym at)) $ move t (1 ∷ 0 ∷ []) $ shuts t z RawPtr q' p (vptr b o ∷ []) rb ro $ s)

one_val : (E : El) (vs : List Val) → Typed (elτ E ∷ []) vs → (v : Val) × (vs ≡ v ∷ []) × Good E v
one_val E [] t = absurd t
one_val E (v ∷ []) t = (v, refl, t.0)
one_val E (v ∷ w ∷ vs) t = absurd t.1

pub alone : (E : El) {M : Type 1} {𝓤 : Ura M} (𝓛 : Logic 𝓤) (x : el_x E) (vs : List Val) → Is (R E) x vs → (v : Val) × (vs ≡ v ∷ []) × Good E v
alone E 𝓛 x vs is = one_val E vs (((param_laws 0 E.row E.laws).lawful 𝓛).typed x vs is)
