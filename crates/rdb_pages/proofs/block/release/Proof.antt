-- `release` makes memory of the places, and hands it back with the allocator's token. Assumes `Logic`.
use mathlib.Core.Path.{◌≡◌, refl, sym, ap, subst, ◌∙◌}
use Prim.Native.Nat.{ℕ, ◌*◌, ◌<◌, ◌^◌}
use native.Mathlib.Omega.{arith}
use mathlib.Core.List.{List, [], ◌∷◌, ◌++◌}
use lib.Dec.{T as Holds}
use lib.ListN.{length}
use mir.MapTy.{inst_fn}
use mir.Syntax.{Fn, w64, ty_array, ty_unit}
use mir.Val.{Val, vptr, vint, vunit, has_ty, WT}
use base.Logic.{SProp}
use base.Fml.{Incl-trans, ftrue, froom, flft}
use prog.Capped.{capped_fits}
use prog.Memory.{align, capped}
use prog.Wp.{Env, WpFn}
use types.Kit.{‵, raw, prop, ◌⊛◌, given, later, await, learn, at_ret, ◌$◌, ◌∵◌, !, qed, move, keep, drop, use1, split, join, group, suffices, regoal, rewrite, fsplit, fsplit3, fjoin, feq_i, done}
use types.Part.{whole, sub}
use types.Run.{stop, fld, unit_lit, of_opd, bin, and_then, no_more, size_word, align_word, first, blocks, exec, returns, enter}
use types.ByLocal.{alloc_all, pass_all, free_all, look_at, get, get_in, sets, is, lands_last, env}
use contract.BorrowLft.{◌⊑◌}
use contract.Monad.{fact}
use contract.Running.{tables}
use denote.Builtin.{usize, RefOf}
use denote.Exit.{yes, no}
use denote.RattleType.{owns}
use denote.RawPtr.{Ptr, block_ptr}
use denote.Signature.{plain, types_at}
use denote.Steps.{heard, nothing}
use denote.Triple.Call.{calls_at_last}
use denote.Triple.Table.{framed}
use denote.Triple.Walked.{Stays, stay_dropped, walk_of, ends_at, Goes-dropped}
use Rattle.std.proofs.alloc.Calls.{Al, token, Gives, at_gives, Gives-goes, Gives-Gives, Goes-blank}
use Rattle.std.proofs.alloc.Shapes.{after}
use Rattle.std.proofs.ptr.Rows.{El, elτ, sz}
use Rattle.std.proofs.RawLayout.{as_raw}
use Rattle.std.proofs.raw_atomic.Walks.{proved_at}
use Rattle.rdb_pages.proofs.Deeds.{both_args, P, Dr, block_ty, block_size, block_align, product, mark, deed_had}
use Rattle.rdb_pages.proofs.Opened.{Br, Blk, word, block_had}
use Rattle.rdb_pages.proofs.Places.{to_room}
use Rattle.rdb_pages.specs.contracts.block.release as F
use Rattle.rdb_pages.specs.contracts.block.release.Key.{name as #self}
use Rattle.rdb_pages.proofs.block.release.Statement.{statement}
use Rattle.rdb_pages.proofs.block.release.Code as code

pub release_spec : {M : Type 1} → statement M
release_spec 𝓤 𝓛 𝓜 𝓡 wired X W LX LW g d dd met md =
    let E : El = record { row = X; laws = LX } in
    let Z : Al = record { row = W; laws = LW; g = g; d = d; drops = dd } in
    let fn : Fn = inst_fn (both_args E Z) code.function in
    let T = F.ended X W g d dd in
    let c = F.clauses X W g d dd 𝓛 𝓜.mem 𝓡.returns in
    let 𝓣 = tables 𝓤 𝓛.H 𝓜 𝓡 𝓡.env in
    let heap = RefOf (0 ∷ []) tt (plain {n = 3} (λ _. P E Z)) (λ _. tt) in
    let stays : Stays T.signature.params T.kept = (stay_dropped heap yes, (stay_dropped (plain (λ _. Br E)) no, (stay_dropped (plain (λ _. usize)) yes, (stay_dropped (plain (λ _. Dr E Z)) no, tt)))) in
    proved_at 𝓛 T stays c 𝓜 𝓡 (Goes-dropped 𝓛 3 heap yes (λ κs x f. refl), (Goes-blank 𝓛 3 (plain (λ _. Br E)) no (λ κs x f. tt), (Goes-dropped 𝓛 3 (plain (λ _. usize)) yes (λ κs x f. refl), (Goes-blank 𝓛 3 (plain (λ _. Dr E Z)) no (λ κs x f. tt), tt))))
    (#self (both_args E Z)) fn (code.unfolded 𝓤 𝓛.H 𝓜 𝓡 wired (X, (W, tt)) d dd) (λ z are.
    let κ = z.0.0.0 in let κ₁ = z.0.0.1.0 in let κ₂ = z.0.0.1.1.0 in let q = z.0.1.0 in let q₁ = z.0.1.1.0 in let q₂ = z.0.1.1.1.0 in
    let hb : ℕ = z.0.3.0.ref_ptr.0 in let ho : ℕ = z.0.3.0.ref_ptr.1 in let a : W.Denot = z.0.3.0.now in let block : Blk E = z.0.3.1.0 in let n : ℕ = z.0.3.1.1.0 in let right : (Dr E Z).Denot = z.0.3.1.1.1.0 in
    let vss = z.0.4 in let fits : n < 2 ^ 64 = are.1.1.0.1 in
    let Post : Val → SProp 𝓤 = (walk_of 𝓛 T stays c).post z in
    let Asks : Type 0 = (n ≡ length block.held) × (right.start ≡ block.start) × (right.len ≡ n) × (right.alloc ≡ a) in
    qed 𝓛 (((‵ (flft κ q) ⊛ ‵ (flft κ₁ q₁) ⊛ ‵ (flft κ₂ q₂) ⊛ ‵ ftrue) ⊛ ‵ (owns (types_at T.signature.params z.0.0) z.0.3 vss)) ∷ (raw (fact 𝓤 (κ₁ ⊑ X.lives)) ⊛ raw (fact 𝓤 (κ₂ ⊑ W.lives)) ⊛ raw (fact 𝓤 Asks)) ∷ []) ∵
    move ! (1 ∷ []) $ split ! $ drop ! $ split ! $ heard ! (κ₂ ⊑ W.lives) (λ lives. heard ! Asks (λ asked. split ! $ split ! $ move ! (2 ∷ []) $
    fsplit3 ! $ fsplit ! $ drop ! $ move ! (1 ∷ []) $ block_had E ! block vss.1.0 (λ b o at e1 fit. move ! (2 ∷ []) $ fsplit3 ! $ drop ! $ deed_had E Z ! right vss.1.1.1.0 (λ e3. keep ! (2 ∷ 0 ∷ 3 ∷ 4 ∷ 5 ∷ []) $
    -- [the places; the right to free them; what the `&` to the allocator shows; its token; the other tokens]
    let s : ℕ = sz E in let al : ℕ = capped (align (elτ E)) in
    let bytes : n * s < 2 ^ 64 = omega (arith, subst (λ (k : ℕ). k * s < 2 ^ 63) (sym asked.0) fit) in
    rewrite ! 1 (λ (t : W.Denot × ℕ × Ptr). ‵ (token Z t.0 (block_ty E t.1) t.2)) (λ k. (asked.3 k, asked.2 k, (asked.1 ∙ at) k)) refl $
    use1 𝓛 (‵ (froom (ty_array (elτ E) (length block.held)) b o)) (to_room E 𝓛 b block.held o) $
    rewrite ! 0 (λ (k : ℕ). ‵ (froom (ty_array (elτ E) k) b o)) (sym asked.0) refl $ as_raw ! (ty_array (elτ E) n) b o $
    regoal ! (λ (us : List Val). prop (WpFn 𝓤 𝓛.H 𝓣.C 𝓣.Λ fn us Post)) (λ k. are.0.0 k ++ (e1 k ++ (are.1.1.0.0 k ++ (e3 k ++ [])))) refl $
    enter ! 𝓣.C 𝓣.Λ fn (vptr hb ho ∷ word (block_ptr b o) ∷ vint w64 n ∷ mark ∷ []) Post $
    alloc_all ! (λ l. pass_all ! refl ((tt, tt), ((tt, (tt, tt)), ((tt, record { fits = fits }), ((tt, (tt, tt)), tt)))) $
    let En : Env 𝓤 𝓛.H = env fn.locals l in
    let y : (Gives Z 𝓛 𝓜.mem 𝓡.returns).Ghost = at_gives Z 𝓛 𝓜.mem 𝓡.returns κ q (hb, ho) a b o (n * s) al (block_ty E n) in
    sets ! (of_opd ! (get_in ! (fld ! refl (stop !)) (sub ! 0 refl (whole !)))) refl (tt, tt) $ first ! $ blocks ! $ sets ! (of_opd ! (get ! refl)) refl (tt, tt) $
    sets ! (is ! (bin ! (get ! refl) (size_word !) (record { fits = subst (λ (k : ℕ). k < 2 ^ 64) (sym (product n s bytes)) bytes })) (ap (vint w64) (product n s bytes))) refl (tt, record { fits = bytes }) $
    group ! 4 $ use1 𝓛 (raw ((Gives Z 𝓛 𝓜.mem 𝓡.returns).pre y))
    (Gives-goes Z 𝓛 𝓜.mem 𝓡.returns κ q (hb, ho) a (Incl-trans z.0.2.0 lives) b o (n * s) al (block_ty E n) (block_size E n bytes) (block_align E n) bytes (capped_fits (align (elτ E)))) $
    calls_at_last ! (framed 𝓤 𝓛.H 𝓜 𝓣) (Gives Z 𝓛 𝓜.mem 𝓡.returns) (met.deallocate dd) y (and_then ! (get ! refl) (and_then ! (get ! refl) (and_then ! (get ! refl) (and_then ! (align_word !) (no_more !))))) (λ v.
    use1 𝓛 (later (given (v ≡ vunit) (‵ (flft κ q)))) (Gives-Gives Z 𝓛 𝓜.mem 𝓡.returns κ q (hb, ho) a b o (n * s) al (block_ty E n) v) $ await ! tt $ learn ! (λ freed.
    lands_last ! refl (subst (λ (u : Val). Holds (has_ty ty_unit u) × WT u) (sym freed) (tt, tt)) $ exec ! 𝓣.C 𝓣.Λ En (after 2 fn.body) (at_ret En Post) $
    sets ! (of_opd ! (unit_lit !)) refl (tt, tt) $ returns ! (look_at ! 0 refl) $ free_all ! refl $
    suffices ! _ (ends_at 𝓛 T stays c z vunit tt (tt, (tt, (tt, (tt, tt)))) (tt, (tt, (tt, (tt, tt))))) $
    -- [the token; the other tokens]
    join ! $ feq_i ! (List Val) (vunit ∷ []) (vunit ∷ []) refl $ nothing ! $ nothing ! $ fjoin ! $ nothing ! $ fjoin ! $ nothing ! $ fjoin ! $ nothing ! $ fjoin ! $
    join ! $ move ! (1 ∷ 0 ∷ []) $ join ! $ nothing ! $ move ! (1 ∷ 0 ∷ []) $ done !))))))))
