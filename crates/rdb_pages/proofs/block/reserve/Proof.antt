-- `reserve` cuts new memory into empty places, and keeps the right to free it. Assumes `Logic`.
use mathlib.Core.Path.{refl, sym, ap, subst}
use mathlib.Core.Bool.{true, false}
use Prim.Native.Nat.{ℕ, ◌*◌, ◌<◌, ◌^◌}
use native.Mathlib.Omega.{arith}
use mathlib.Core.List.{List, [], ◌∷◌, ◌++◌}
use lib.Dec.{lit<}
use lib.ListN.{replicate, length-replicate}
use mir.MapTy.{inst_fn}
use mir.Syntax.{Fn, Body, w64, ty_array}
use mir.Val.{Val, vptr, vint, vstruct, vcons, vnil}
use base.Logic.{SProp}
use base.Fml.{Incl-trans, ftrue, flft}
use prog.Capped.{capped_fits}
use prog.Memory.{align, capped}
use prog.Wp.{Env, Wp, WpFn, after_seq, at_return}
use types.Kit.{Post as After, any_q, ‵, raw, prop, ◌⊛◌, later, await, at_ret, ◌$◌, ◌∵◌, !, qed, move, keep, drop, use1, use2, split, join, suffices, frame, regoal, fsplit, fjoin, done}
use types.Match.{live, vrt, in_variant}
use types.Part.{whole, agg}
use types.Run.{stop, fld, lit, of_opd, bin, and_then, no_more, size_word, align_word, first, switches_on, exec, returns, enter}
use types.ByLocal.{alloc_all, pass_all, free_all, look_at, get, get_in, get_tag, sets, sets_last, lands_as, is, env}
use contract.BorrowLft.{◌⊑◌}
use contract.Monad.{fact}
use contract.Running.{tables}
use denote.Builtin.{usize, RefOf}
use denote.Exit.{yes}
use denote.Laws.{Is}
use denote.Param.{layout}
use denote.RattleType.{RattleType, owns}
use denote.RawPtr.{Ptr, block_ptr}
use denote.Signature.{plain, types_at}
use denote.Steps.{heard, nothing, owned}
use denote.Struct.Declared as Declared
use denote.Struct.Struct.{Struct, Struct-Makes}
use denote.Struct.Tuple.{Tuple}
use denote.Triple.Call.{calls_at}
use denote.Triple.Table.{framed}
use denote.Triple.Walked.{says, Stays, stay_dropped, walk_of, ends_at, Goes-dropped}
use Rattle.std.specs.Prelude.{None, Ok, Err}
use Rattle.std.specs.Vec.Ownership.{FitsInBlock}
use Rattle.std.specs.contracts.result.Result as RS
use Rattle.std.specs.contracts.alloc.AllocError as AE
use Rattle.std.proofs.alloc.Calls.{Al, Answer-typed, Takes, at_takes, Answered, Takes-goes, Takes-gives, answers}
use Rattle.std.proofs.alloc.Shapes.{after, head, arm_body}
use Rattle.std.proofs.ptr.Rows.{El, R, elτ, sz}
use Rattle.std.proofs.RawLayout.{as_written}
use Rattle.std.proofs.RcSteps.{Good, first_Good}
use Rattle.std.proofs.ResultValues.{ok_of, err_of}
use Rattle.std.proofs.raw_atomic.Walks.{proved_at}
use Rattle.rdb_pages.specs.Block.{places_own}
use Rattle.rdb_pages.proofs.Deeds.{both_args, P, Dr, block_ty, block_size, block_align, product, mark, deed, deed_made, pair, pair_of}
use Rattle.rdb_pages.proofs.Opened.{Br, Blk, word, block_made}
use Rattle.rdb_pages.proofs.Places.{of_room}
use Rattle.rdb_pages.specs.contracts.block.reserve as F
use Rattle.rdb_pages.specs.contracts.block.reserve.Key.{name as #self}
use Rattle.rdb_pages.proofs.block.reserve.Statement.{statement}
use Rattle.rdb_pages.proofs.block.reserve.Code as code

module _ (E : El) (Z : Al) where
  abbrev Two : RattleType
  Two = Tuple (Br E ∷ Dr E Z ∷ [])

  abbrev Out : RattleType
  Out = RS.the_row Two AE.the_row

pub reserve_spec : {M : Type 1} → statement M
reserve_spec 𝓤 𝓛 𝓜 𝓡 wired X W LX LW g d dd met md =
    let E : El = record { row = X; laws = LX } in
    let Z : Al = record { row = W; laws = LW; g = g; d = d; drops = dd } in
    let fn : Fn = inst_fn (both_args E Z) code.function in
    let T = F.ended X W g d dd in
    let c = F.clauses X W g d dd 𝓛 𝓜.mem 𝓡.returns in
    let 𝓣 = tables 𝓤 𝓛.H 𝓜 𝓡 𝓡.env in
    let heap = RefOf (0 ∷ []) tt (plain {n = 3} (λ _. P E Z)) (λ _. tt) in
    let stays : Stays T.signature.params T.kept = (stay_dropped heap yes, (stay_dropped (plain (λ _. usize)) yes, tt)) in
    proved_at 𝓛 T stays c 𝓜 𝓡 (Goes-dropped 𝓛 3 heap yes (λ κs x f. refl), (Goes-dropped 𝓛 3 (plain (λ _. usize)) yes (λ κs x f. refl), tt))
    (#self (both_args E Z)) fn (code.unfolded 𝓤 𝓛.H 𝓜 𝓡 wired (X, (W, tt)) d dd) (λ z are.
    let κ = z.0.0.0 in let κ₁ = z.0.0.1.0 in let κ₂ = z.0.0.1.1.0 in let q = z.0.1.0 in let q₁ = z.0.1.1.0 in let q₂ = z.0.1.1.1.0 in
    let hb : ℕ = z.0.3.0.ref_ptr.0 in let ho : ℕ = z.0.3.0.ref_ptr.1 in let a : W.Denot = z.0.3.0.now in let n : ℕ = z.0.3.1.0 in
    let vss = z.0.4 in let fn_ : n < 2 ^ 64 = are.1.0.1 in
    let Post : Val → SProp 𝓤 = (walk_of 𝓛 T stays c).post z in
    qed 𝓛 (((‵ (flft κ q) ⊛ ‵ (flft κ₁ q₁) ⊛ ‵ (flft κ₂ q₂) ⊛ ‵ ftrue) ⊛ ‵ (owns (types_at T.signature.params z.0.0) z.0.3 vss)) ∷ (raw (fact 𝓤 (κ₁ ⊑ X.lives)) ⊛ raw (fact 𝓤 (κ₂ ⊑ W.lives)) ⊛ raw (fact 𝓤 (FitsInBlock (R E) n))) ∷ []) ∵
    move ! (1 ∷ []) $ split ! $ drop ! $ split ! $ heard ! (κ₂ ⊑ W.lives) (λ lives. heard ! (FitsInBlock (R E) n) (λ asked. split ! $ split ! $ move ! (2 ∷ []) $ fsplit ! $ fsplit ! $ drop ! $ keep ! (0 ∷ 2 ∷ 3 ∷ []) $
    -- [what the `&` to the allocator shows; its token; the other tokens]
    let s : ℕ = sz E in let bytes : n * s < 2 ^ 64 = omega (arith, asked.0) in let al : ℕ = capped (align (elτ E)) in
    regoal ! (λ (us : List Val). prop (WpFn 𝓤 𝓛.H 𝓣.C 𝓣.Λ fn us Post)) (λ k. are.0.0 k ++ (are.1.0.0 k ++ [])) refl $
    enter ! 𝓣.C 𝓣.Λ fn (vptr hb ho ∷ vint w64 n ∷ []) Post $ alloc_all ! (λ l. pass_all ! refl ((tt, tt), ((tt, record { fits = fn_ }), tt)) $
    let En : Env 𝓤 𝓛.H = env fn.locals l in
    let both : Body = head (after 2 fn.body) in
    let Then : After 𝓤 𝓛.H = any_q (after_seq 𝓤 𝓛.H (Wp 𝓤 𝓛.H 𝓣.C 𝓣.Λ En (after 3 fn.body) (at_return 𝓤 𝓛.H En Post)) (at_return 𝓤 𝓛.H En Post)) in
    let y : (Takes Z 𝓛 𝓜.mem 𝓡.returns).Ghost = at_takes Z 𝓛 𝓜.mem 𝓡.returns κ q (hb, ho) a (n * s) al (block_ty E n) in
    sets ! (is ! (bin ! (get ! refl) (size_word !) (record { fits = subst (λ (k : ℕ). k < 2 ^ 64) (sym (product n s bytes)) bytes })) (ap (vint w64) (product n s bytes))) refl (tt, record { fits = bytes }) $
    use2 𝓛 (raw ((Takes Z 𝓛 𝓜.mem 𝓡.returns).pre y))
    (Takes-goes Z 𝓛 𝓜.mem 𝓡.returns κ q (hb, ho) a (Incl-trans z.0.2.0 lives) (n * s) al (block_ty E n) (block_size E n bytes) (block_align E n) bytes (capped_fits (align (elτ E)))) $
    calls_at ! (framed 𝓤 𝓛.H 𝓜 𝓣) (Takes Z 𝓛 𝓜.mem 𝓡.returns) (met.allocate dd) y (and_then ! (get ! refl) (and_then ! (get ! refl) (and_then ! (align_word !) (no_more !)))) (λ v.
    use1 𝓛 (later (raw (Answered Z 𝓛 𝓜.mem 𝓡.returns a (block_ty E n) v) ⊛ ‵ (flft κ q))) (Takes-gives Z 𝓛 𝓜.mem 𝓡.returns κ q (hb, ho) a (n * s) al (block_ty E n) v) $ await ! tt $ split ! $
    answers Z ! 𝓜.mem 𝓡.returns a (block_ty E n) v
    (λ b o e.
    let start : Ptr = block_ptr b o in
    let block : Blk E = record { start = start; held = replicate n None } in
    let made : Val = pair (word start) mark in
    let good : Good (layout (Two E Z)) made = (tt, ((tt, tt), ((tt, tt), tt))) in
    let ok = first_Good (layout (Two E Z)) made good in
    lands_as ! e refl (Answer-typed true b o) $ first ! $ switches_on ! (get_tag ! (vrt ! refl (fld ! refl (stop !))) (whole !)) $ exec ! 𝓣.C 𝓣.Λ En (arm_body 0 both) Then $
    sets ! (of_opd ! (get_in ! (vrt ! refl (fld ! refl (stop !))) (in_variant ! 0 0 refl refl (whole !)))) refl (tt, tt) $ sets ! (of_opd ! (get ! refl)) refl (tt, tt) $
    sets ! (agg ! (and_then ! (get ! refl) (no_more !))) refl (tt, (tt, tt)) $
    sets ! (agg ! (no_more !)) refl (tt, tt) $ sets ! (agg ! (and_then ! (get ! refl) (no_more !))) refl (tt, (tt, tt)) $
    sets ! (agg ! (and_then ! (get ! refl) (and_then ! (get ! refl) (no_more !)))) refl good $
    sets_last ! (agg ! (and_then ! (lit ! tt) (and_then ! (get ! refl) (no_more !)))) refl ok $
    exec ! 𝓣.C 𝓣.Λ En (after 3 fn.body) (at_ret En Post) $ sets ! (of_opd ! (get ! refl)) refl ok $
    -- [the room; the right to free it; the token; the other tokens]
    as_written ! (ty_array (elτ E) n) b o $ use1 𝓛 (‵ (places_own (R E) b o block.held)) (of_room E 𝓛 b n o) $
    block_made E ! block b o refl (subst (λ (k : ℕ). k * s < 2 ^ 63) (sym (length-replicate n None)) asked.0) $
    move ! (1 ∷ []) $ deed_made E Z ! start n a $ move ! (1 ∷ 0 ∷ []) $
    use2 𝓛 (‵ ((Two E Z).own_val (block, deed E Z start n a) (made ∷ []))) (pair_of 𝓛 (Br E) (Dr E Z) block (deed E Z start n a) (word start) mark) $
    use1 𝓛 (‵ ((Out E Z).own_val (Ok (block, deed E Z start n a)) (live 0 (vcons made vnil) ∷ []))) (ok_of 𝓛 (Two E Z) AE.the_row (block, deed E Z start n a) made) $
    returns ! (look_at ! 0 refl) $ free_all ! refl $
    suffices ! _ (ends_at 𝓛 T stays c z (live 0 (vcons made vnil)) (Ok (block, deed E Z start n a)) (tt, (tt, tt)) (tt, (tt, tt))) $ says ! (refl, refl, refl, refl) $
    move ! (1 ∷ 2 ∷ []) $ join ! $ frame ! $ nothing ! $ nothing ! $ fjoin ! $ nothing ! $ fjoin ! $ done !)
    (λ e.
    let Refusal : RattleType = Struct (Declared.shape AE.the_type) in
    let none : Val = live 1 (vcons (vstruct vnil) vnil) in
    lands_as ! e refl (Answer-typed false 0 0) $ first ! $ switches_on ! (get_tag ! (vrt ! refl (fld ! refl (stop !))) (whole !)) $ exec ! 𝓣.C 𝓣.Λ En (arm_body 1 both) Then $
    sets ! (of_opd ! (get_in ! (vrt ! refl (fld ! refl (stop !))) (in_variant ! 1 0 refl refl (whole !)))) refl (tt, tt) $
    sets_last ! (agg ! (and_then ! (lit ! tt) (and_then ! (get ! refl) (no_more !)))) refl (tt, (record { fits = lit< tt }, (tt, tt))) $
    exec ! 𝓣.C 𝓣.Λ En (after 3 fn.body) (at_ret En Post) $ sets ! (of_opd ! (get ! refl)) refl (tt, (record { fits = lit< tt }, (tt, tt))) $
    owned ! Refusal (Is Refusal) (Struct-Makes 𝓛 (Declared.shape AE.the_type) tt) tt (vstruct vnil ∷ []) (tt, (refl, tt)) $
    use1 𝓛 (‵ ((Out E Z).own_val (Err (record {})) (none ∷ []))) (err_of 𝓛 (Two E Z) AE.the_row (record {}) (vstruct vnil)) $
    returns ! (look_at ! 0 refl) $ free_all ! refl $ keep ! (0 ∷ 1 ∷ 2 ∷ []) $
    suffices ! _ (ends_at 𝓛 T stays c z none (Err (record {})) (tt, (tt, tt)) (tt, (tt, tt))) $ says ! tt $
    move ! (1 ∷ 2 ∷ []) $ join ! $ frame ! $ nothing ! $ nothing ! $ fjoin ! $ nothing ! $ fjoin ! $ done !))))))
