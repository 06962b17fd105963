-- `put` fills an empty place, at any type of value. Assumes `Logic`.
use mathlib.Core.Path.{◌≡◌, refl, sym, subst}
use Prim.Native.Nat.{ℕ, ◌+◌, ◌*◌, ◌<◌, ◌^◌}
use native.Mathlib.Omega.{arith}
use mathlib.Core.List.{List, [], ◌∷◌, ◌++◌}
use lib.ListN.{length, set, length-set}
use mir.MapTy.{inst_fn}
use mir.Syntax.{Fn, w64}
use mir.Val.{Val, vunit, vint, vptr}
use base.Logic.{SProp}
use base.Fml.{ftrue, flft}
use prog.Wp.{Env, WpFn}
use types.Kit.{‵, raw, prop, ◌⊛◌, at_ret, ◌$◌, ◌∵◌, !, qed, move, keep, use1, use2, drop, split, join, suffices, regoal, rewrite, fsplit, fsplit3, fjoin, fjoin3, feq_i, done}
use types.Part.{whole, sub, look_in}
use types.Run.{init, stop, fld, load, size_lit, unit_lit, of_opd, bin, assigns_last, first, blocks, exec, returns, enter}
use types.ByLocal.{alloc_all, pass_all, free_all, look_at, get, through, sets, env}
use contract.BorrowLft.{◌⊑◌}
use contract.Monad.{fact}
use contract.Running.{tables}
use denote.Builtin.{usize}
use denote.Exit.{yes, no}
use denote.RattleType.{owns}
use denote.Signature.{plain, types_at}
use denote.Steps.{heard, nothing}
use denote.Triple.Walked.{says, Stays, stay_dropped, stay_ref, walk_of, ends_at, Goes-dropped, Goes-ref}
use Rattle.std.specs.Prelude.{Some, None, slice_get}
use Rattle.std.proofs.alloc.Shapes.{after}
use Rattle.std.proofs.lemmas.Option.{slice_get_within}
use Rattle.std.proofs.ptr.Rows.{El, R, el_x, elτ, sz, times_below, one_below}
use Rattle.std.proofs.RawLayout.{as_written}
use Rattle.std.proofs.raw_atomic.Walks.{proved_at}
use Rattle.rdb_pages.specs.Block.{place_owns, places_own}
use Rattle.rdb_pages.proofs.Opened.{Br, Blk, args, alone, block_opens, block_closes}
use Rattle.rdb_pages.proofs.Places.{others, place_out, place_in, value_in}
use Rattle.rdb_pages.specs.contracts.block.Block.put as F
use Rattle.rdb_pages.specs.contracts.block.Block.put.Key.{name as #self}
use Rattle.rdb_pages.proofs.block.Block.put.Statement.{statement}
use Rattle.rdb_pages.proofs.block.Block.put.Code as code

pub put_spec : {M : Type 1} → statement M
put_spec 𝓤 𝓛 𝓜 𝓡 wired X L =
    let E : El = record { row = X; laws = L } in
    let fn : Fn = inst_fn (args E) code.function in
    let T = F.ended X in
    let c = F.clauses X 𝓛 𝓜.mem 𝓡.returns in
    let 𝓣 = tables 𝓤 𝓛.H 𝓜 𝓡 𝓡.env in
    let stays : Stays T.signature.params T.kept = (stay_ref (0 ∷ []) tt (plain (λ _. Br E)), (stay_dropped (plain (λ _. usize)) yes, (stay_dropped (plain (λ _. R E)) no, tt))) in
    proved_at 𝓛 T stays c 𝓜 𝓡 (Goes-ref 𝓛 2 0 tt (plain (λ _. Br E)), (Goes-dropped 𝓛 2 (plain (λ _. usize)) yes (λ κs x f. refl), (Goes-dropped 𝓛 2 (plain (λ _. R E)) no (λ κs x f. refl), tt)))
    (#self (args E)) fn (code.unfolded 𝓤 𝓛.H 𝓜 𝓡 wired (X, tt)) (λ z are.
    let κ = z.0.0.0 in let κ₁ = z.0.0.1.0 in let q = z.0.1.0 in let q₁ = z.0.1.1.0 in
    let rb : ℕ = z.0.3.0.ref_ptr.0 in let ro : ℕ = z.0.3.0.ref_ptr.1 in let d : Blk E = z.0.3.0.now in let i : ℕ = z.0.3.1.0 in let x : el_x E = z.0.3.1.1.0 in
    let vss = z.0.4 in let passed = are.0.0 in let fi : i < 2 ^ 64 = are.1.0.1 in let item = alone E 𝓛 x vss.1.1.0 are.1.1.0 in let v = item.0 in let good = item.2 in
    let Post : Val → SProp 𝓤 = (walk_of 𝓛 T stays c).post z in
    let Free : Type 0 = slice_get d.held i ≡ Some None in
    let new : Blk E = record { start = d.start; held = set d.held i (Some x) } in let s : ℕ = sz E in
    qed 𝓛 (((‵ (flft κ q) ⊛ ‵ (flft κ₁ q₁) ⊛ ‵ ftrue) ⊛ ‵ (owns (types_at T.signature.params z.0.0) z.0.3 vss)) ∷ (raw (fact 𝓤 (κ₁ ⊑ X.lives)) ⊛ raw (fact 𝓤 Free)) ∷ []) ∵
    move ! (1 ∷ []) $ split ! $ drop ! $ heard ! Free (λ free. let within : i < length d.held = slice_get_within d.held i None free in
    split ! $ split ! $ move ! (2 ∷ []) $ fsplit3 ! $ fsplit3 ! $ move ! (4 ∷ []) $ fsplit ! $ keep ! (3 ∷ 4 ∷ 6 ∷ 0 ∷ 7 ∷ []) $
    rewrite ! 3 (λ (us : List Val). ‵ (X.own_val x us)) item.1 refl $
    regoal ! (λ (us : List Val). prop (WpFn 𝓤 𝓛.H 𝓣.C 𝓣.Λ fn us Post)) (λ k. passed k ++ (are.1.0.0 k ++ (item.1 k ++ []))) refl $
    enter ! 𝓣.C 𝓣.Λ fn (vptr rb ro ∷ vint w64 i ∷ v ∷ []) Post $ alloc_all ! (λ l. pass_all ! refl ((tt, tt), ((tt, record { fits = fi }), (good, tt))) $
    let En : Env 𝓤 𝓛.H = env fn.locals l in
    block_opens E ! tt d rb ro (λ b o at fit.
    let tiny : s < 2 ^ 64 = omega (arith, one_below (length d.held) s (2 ^ 63) (omega arith) fit) in
    let far : i * s < 2 ^ 64 = omega (arith, times_below i (length d.held) s (2 ^ 63) (omega arith) fit) in
    use1 𝓛 (‵ (place_owns (R E) b (i * s + o) None) ⊛ ‵ (others E b o d.held i)) (place_out E 𝓛 b o d.held i None free) $ split ! $ as_written ! (elτ E) b (i * s + o) $
    -- [the room; the other places; the pointer; the open borrow, in three entries; what the value owns; the other token]
    first ! $ blocks ! $
    sets ! (of_opd ! (load ! (through ! refl (fld ! refl (stop !))) (look_in ! 2 (sub ! 0 refl (whole !))))) refl (tt, tt) $
    sets ! (bin ! (get ! refl) (size_lit ! (record { fits = tiny })) (record { fits = far })) refl (tt, record { fits = far }) $
    sets ! (bin ! (get ! refl) (get ! refl) tt) refl (tt, tt) $ sets ! (of_opd ! (get ! refl)) refl good $
    assigns_last ! (of_opd ! (get ! refl)) (through ! refl (stop !)) (init ! 0 refl good) $
    exec ! 𝓣.C 𝓣.Λ En (after 1 fn.body) (at_ret En Post) $ sets ! (of_opd ! (unit_lit !)) refl (tt, tt) $
    move ! (0 ∷ 6 ∷ []) $ use2 𝓛 (‵ (place_owns (R E) b (i * s + o) (Some x))) (value_in E 𝓛 b x (i * s + o) v) $
    use2 𝓛 (‵ (places_own (R E) b o new.held)) (place_in E 𝓛 b o d.held i (Some x) within) $
    block_closes E ! tt new b o rb ro at (subst (λ (n : ℕ). n * s < 2 ^ 63) (sym (length-set d.held i (Some x))) fit) $
    returns ! (look_at ! 0 refl) $ free_all ! refl $
    suffices ! _ (ends_at 𝓛 T stays c z vunit tt (new, (tt, (tt, tt))) (tt, (tt, (tt, tt)))) $ says ! (refl, refl) $
    feq_i ! (List Val) vss.0 (vptr rb ro ∷ []) passed $ fjoin3 ! $ nothing ! $ nothing ! $ fjoin ! $ nothing ! $ fjoin ! $ move ! (1 ∷ 0 ∷ []) $ fjoin ! $
    move ! (1 ∷ 2 ∷ []) $ join ! $ feq_i ! (List Val) (vunit ∷ []) (vunit ∷ []) refl $ keep ! (1 ∷ 2 ∷ 0 ∷ []) $ done !))))
