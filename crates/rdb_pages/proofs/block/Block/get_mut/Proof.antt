-- `get_mut` lends what a place holds, and the block follows it, at any type of value. Assumes `Logic`.
use mathlib.Core.Path.{◌≡◌, refl, sym, subst}
use Prim.Native.Nat.{ℕ, ◌+◌, ◌*◌, ◌<◌, ◌^◌}
use native.Mathlib.Omega.{arith}
use mathlib.Core.List.{List, [], ◌∷◌, ◌++◌}
use lib.ListN.{length, set, length-set}
use seplogic.Ra.Ura.{Ura}
use base.Fraction.{full_share}
use mir.MapTy.{inst_fn}
use mir.Syntax.{Fn, w64, named}
use mir.Val.{Val, vint, vptr}
use base.Logic.{SProp, ent, sep, id⊢}
use base.Fml.{Fml, GName, ftrue, fsep, flft}
use prog.Wp.{Env, WpFn}
use types.Logic.{Logic, sem}
use types.Kit.{‵, raw, prop, ◌⊛◌, some, later, await, pick, at_ret, ◌$◌, ◌∵◌, !, qed, move, keep, use1, use2, drop, split, split3, join, group, frame, suffices, regoal, fsplit, fsplit3, fjoin, fpack, done}
use types.Part.{whole, sub, look_in}
use types.Run.{stop, fld, load, addr, size_lit, of_opd, bin, first, blocks, exec, returns, enter}
use types.ByLocal.{alloc_all, pass_all, free_all, look_at, get, through, sets, sets_last, env}
use contract.BorrowLft.{◌⊑◌}
use contract.Monad.{fact}
use contract.Running.{tables}
use denote.Builtin.{usize}
use denote.Exit.{yes, no}
use denote.Follow.{follows, Part, lends_Part}
use denote.Memory.{mem, cell_at, part_of}
use denote.RattleType.{owns}
use denote.RawPtr.{block_ptr}
use denote.Ref.{MutRef}
use denote.Signature.{plain, types_at, mut_ref_to}
use denote.Steps.{heard, nothing}
use denote.Triple.Walked.{says, Stays, stay_dropped, walk_of, ends_at, Goes-dropped, Goes-spent_ref}
use Rattle.std.specs.Prelude.{Some, slice_get}
use Rattle.std.proofs.alloc.Shapes.{after}
use Rattle.std.proofs.lemmas.Option.{slice_get_within}
use Rattle.std.proofs.ptr.Rows.{El, R, el_x, sz, times_below, one_below}
use Rattle.std.proofs.raw_atomic.Walks.{proved_at}
use Rattle.rdb_pages.specs.Block.{place_owns, places_own}
use Rattle.rdb_pages.specs.BlockLends.{with_held}
use Rattle.rdb_pages.proofs.Opened.{Br, Blk, args, word, block_opens, block_made}
use Rattle.rdb_pages.proofs.Places.{others, place_out, place_in}
use Rattle.rdb_pages.specs.contracts.block.Block.get_mut as F
use Rattle.rdb_pages.specs.contracts.block.Block.get_mut.Key.{name as #self}
use Rattle.rdb_pages.proofs.block.Block.get_mut.Statement.{statement}
use Rattle.rdb_pages.proofs.block.Block.get_mut.Code as code

-- the block d, with the value of the place i lent
module _ (E : El) {M : Type 1} {𝓤 : Ura M} (𝓛 : Logic 𝓤) (d : Blk E) (i b o rb ro : ℕ) where
  -- what the lender keeps
  abbrev Kept : Fml
  Kept = fsep (others E b o d.held i) (cell_at full_share (Br E).mir (word (block_ptr b o) ∷ []) rb ro)

  abbrev new : el_x E → Blk E
  new w = with_held d (set d.held i (Some w))

  back : d.start ≡ block_ptr b o → i < length d.held → length d.held * sz E < 2 ^ 63
      → (w : el_x E) → ent 𝓤 (sep 𝓤 (sem 𝓛 ((mem (R E)).own_at w b (i * sz E + o))) (sem 𝓛 Kept)) (sem 𝓛 ((mem (Br E)).own_at (new w) rb ro))
  unfolding part_of
  back at within fit w =
      qed 𝓛 (‵ (place_owns (R E) b (i * sz E + o) (Some w)) ∷ ‵ Kept ∷ []) ∵ move ! (1 ∷ []) $ fsplit ! $ move ! (2 ∷ 0 ∷ []) $
      use2 𝓛 (‵ (places_own (R E) b o (new w).held)) (place_in E 𝓛 b o d.held i (Some w) within) $
      block_made E ! (new w) b o at (subst (λ (n : ℕ). n * sz E < 2 ^ 63) (sym (length-set d.held i (Some w))) fit) $ move ! (1 ∷ 0 ∷ []) $ fjoin ! $
      fpack ! (List Val) (λ us. fsep (cell_at full_share (Br E).mir us rb ro) ((Br E).own_val (new w) us)) (word (block_ptr b o) ∷ []) $ done !

pub get_mut_spec : {M : Type 1} → statement M
get_mut_spec 𝓤 𝓛 𝓜 𝓡 wired X L =
    let E : El = record { row = X; laws = L } in
    let fn : Fn = inst_fn (args E) code.function in
    let T = F.ended X in
    let c = F.clauses X 𝓛 𝓜.mem 𝓡.returns in
    let 𝓣 = tables 𝓤 𝓛.H 𝓜 𝓡 𝓡.env in
    let stays : Stays T.signature.params T.kept = (stay_dropped (mut_ref_to (0 ∷ []) tt (plain (λ _. Br E))) no, (stay_dropped (plain (λ _. usize)) yes, tt)) in
    proved_at 𝓛 T stays c 𝓜 𝓡 (Goes-spent_ref 𝓛 2 (0 ∷ []) tt (plain (λ _. Br E)), (Goes-dropped 𝓛 2 (plain (λ _. usize)) yes (λ κs x f. refl), tt))
    (#self (args E)) fn (code.unfolded 𝓤 𝓛.H 𝓜 𝓡 wired (X, tt)) (λ z are.
    let κ = z.0.0.0 in let κ₁ = z.0.0.1.0 in let q = z.0.1.0 in let q₁ = z.0.1.1.0 in
    let rb : ℕ = z.0.3.0.ref_ptr.0 in let ro : ℕ = z.0.3.0.ref_ptr.1 in let γ : GName = z.0.3.0.ghost_name in let d : Blk E = z.0.3.0.now in let i : ℕ = z.0.3.1.0 in
    let vss = z.0.4 in let fi : i < 2 ^ 64 = are.1.0.1 in
    let Post : Val → SProp 𝓤 = (walk_of 𝓛 T stays c).post z in
    let Holds : Type 0 = (x : el_x E) × (slice_get d.held i ≡ Some (Some x)) in
    let s : ℕ = sz E in let u = (Br E).coded.code d in
    qed 𝓛 (((‵ (flft κ q) ⊛ ‵ (flft κ₁ q₁) ⊛ ‵ ftrue) ⊛ ‵ (owns (types_at T.signature.params z.0.0) z.0.3 vss)) ∷ (raw (fact 𝓤 (κ₁ ⊑ X.lives)) ⊛ raw (fact 𝓤 Holds)) ∷ []) ∵
    move ! (1 ∷ []) $ split ! $ drop ! $ heard ! Holds (λ holds. let x : el_x E = holds.0 in let within : i < length d.held = slice_get_within d.held i (Some x) holds.1 in
    split ! $ split ! $ move ! (2 ∷ []) $ fsplit ! $ fsplit3 ! $ keep ! (1 ∷ 2 ∷ 4 ∷ 5 ∷ []) $
    regoal ! (λ (us : List Val). prop (WpFn 𝓤 𝓛.H 𝓣.C 𝓣.Λ fn us Post)) (λ k. are.0.0 k ++ (are.1.0.0 k ++ [])) refl $
    enter ! 𝓣.C 𝓣.Λ fn (vptr rb ro ∷ vint w64 i ∷ []) Post $ alloc_all ! (λ l. pass_all ! refl ((tt, tt), ((tt, record { fits = fi }), tt)) $
    let En : Env 𝓤 𝓛.H = env fn.locals l in
    block_opens E ! tt d rb ro (λ b o at fit.
    let tiny : s < 2 ^ 64 = omega (arith, one_below (length d.held) s (2 ^ 63) (omega arith) fit) in
    let far : i * s < 2 ^ 64 = omega (arith, times_below i (length d.held) s (2 ^ 63) (omega arith) fit) in
    let there : ℕ = i * s + o in
    use1 𝓛 (‵ (place_owns (R E) b there (Some x)) ⊛ ‵ (others E b o d.held i)) (place_out E 𝓛 b o d.held i (Some x) holds.1) $ split ! $
    -- [the value; the other places; the pointer; the open borrow, in three entries; the other token]
    first ! $ blocks ! $
    sets ! (of_opd ! (load ! (through ! refl (fld ! refl (stop !))) (look_in ! 2 (sub ! 0 refl (whole !))))) refl (tt, tt) $
    sets ! (bin ! (get ! refl) (size_lit ! (record { fits = tiny })) (record { fits = far })) refl (tt, record { fits = far }) $
    sets ! (bin ! (get ! refl) (get ! refl) tt) refl (tt, tt) $
    sets_last ! (addr ! (through ! refl (stop !))) refl (tt, tt) $
    exec ! 𝓣.C 𝓣.Λ En (after 1 fn.body) (at_ret En Post) $ sets ! (of_opd ! (get ! refl)) refl (tt, tt) $
    let way = back E 𝓛 d i b o rb ro at within fit in let kept : SProp 𝓤 = sem 𝓛 (Kept E 𝓛 d i b o rb ro) in let F = new E 𝓛 d i b o rb ro in
    move ! (1 ∷ 2 ∷ []) $ fjoin ! $ move ! (2 ∷ 3 ∷ 4 ∷ 1 ∷ 0 ∷ []) $ group ! 5 $
    use1 𝓛 (later (some (λ (δ : GName). raw (Part 𝓛 (Br E) (R E) F (named 0) κ q rb ro b there γ kept way x δ)))) (lends_Part 𝓛 (Br E) (R E) F (named 0) κ q rb ro b there γ kept way u u x) $
    await ! tt $ pick ! (λ δ. returns ! (look_at ! 0 refl) $ free_all ! refl $
    suffices ! _ (ends_at 𝓛 T stays c z (vptr b there) (record { ref_ptr = (b, there); ghost_name = δ; now = x }) (tt, (tt, tt)) (tt, (tt, tt))) $
    use1 𝓛 (‵ ((MutRef (named 0) κ (R E)).own_val (record { ref_ptr = (b, there); ghost_name = δ; now = x }) (vptr b there ∷ [])) ⊛ ‵ (flft κ q) ⊛ ‵ (follows (Br E) (R E) γ δ F)) (id⊢ 𝓤 _) $ split3 ! $
    nothing ! $ nothing ! $ fjoin ! $ nothing ! $ fjoin ! $ join ! $ move ! (1 ∷ 3 ∷ []) $ join ! $ join ! $ frame ! $ says ! holds.1 $ done !)))))
