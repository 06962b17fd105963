-- `get` lends what a place holds, at any type of value. Assumes `Logic`.
use mathlib.Core.Path.{◌≡◌, refl}
use Prim.Native.Nat.{ℕ, ◌+◌, ◌*◌, ◌<◌, ◌^◌}
use native.Mathlib.Omega.{arith}
use mathlib.Core.List.{List, [], ◌∷◌, ◌++◌}
use lib.ListN.{length}
use mir.MapTy.{inst_fn}
use mir.Syntax.{Fn, w64}
use mir.Val.{Val, vint, vptr}
use base.Logic.{SProp, id⊢, never}
use base.Fml.{ftrue, flft}
use prog.Wp.{Env, WpFn}
use types.Kit.{‵, raw, prop, ◌⊛◌, at_ret, ◌$◌, ◌∵◌, !, qed, move, keep, use1, drop, split, join, suffices, regoal, fsplit, fjoin, feq_i, flt_l, done}
use types.Run.{look, stop, fld, load, addr, size_lit, of_opd, bin, first, blocks, exec, returns, enter}
use types.ByLocal.{alloc_all, pass_all, free_all, look_at, get, through, sets, sets_last, env}
use contract.BorrowLft.{◌⊑◌}
use contract.Monad.{fact}
use contract.Running.{tables}
use denote.Builtin.{usize, RefOf}
use denote.Exit.{yes}
use denote.Memory.{hidden_shr}
use denote.Opens.{hide}
use denote.RattleType.{owns}
use denote.RawPtr.{Ptr, RawPtr, in_a_block}
use denote.Signature.{plain, types_at}
use denote.Steps.{heard, nothing}
use denote.Triple.Walked.{says, Stays, stay_dropped, walk_of, ends_at, Goes-dropped}
use Rattle.std.specs.Prelude.{Some, slice_get}
use Rattle.std.proofs.alloc.Shapes.{after}
use Rattle.std.proofs.lemmas.Option.{slice_get_within}
use Rattle.std.proofs.ptr.Rows.{El, R, el_x, sz, times_below, one_below}
use Rattle.std.proofs.raw_atomic.Walks.{proved_at}
use Rattle.rdb_pages.specs.Block.{place_lends, block_lends}
use Rattle.rdb_pages.proofs.Opened.{Br, Blk, args, block_shown, start_in, start_out}
use Rattle.rdb_pages.proofs.Places.{place_seen}
use Rattle.rdb_pages.specs.contracts.block.Block.get as F
use Rattle.rdb_pages.specs.contracts.block.Block.get.Key.{name as #self}
use Rattle.rdb_pages.proofs.block.Block.get.Statement.{statement}
use Rattle.rdb_pages.proofs.block.Block.get.Code as code

pub get_spec : {M : Type 1} → statement M
get_spec 𝓤 𝓛 𝓜 𝓡 wired X L =
    let E : El = record { row = X; laws = L } in
    let fn : Fn = inst_fn (args E) code.function in
    let T = F.ended X in
    let c = F.clauses X 𝓛 𝓜.mem 𝓡.returns in
    let 𝓣 = tables 𝓤 𝓛.H 𝓜 𝓡 𝓡.env in
    let stays : Stays T.signature.params T.kept = (stay_dropped (RefOf (0 ∷ []) tt (plain (λ _. Br E)) (λ _. tt)) yes, (stay_dropped (plain (λ _. usize)) yes, tt)) in
    proved_at 𝓛 T stays c 𝓜 𝓡 (Goes-dropped 𝓛 2 (RefOf (0 ∷ []) tt (plain (λ _. Br E)) (λ _. tt)) yes (λ κs x f. refl), (Goes-dropped 𝓛 2 (plain (λ _. usize)) yes (λ κs x f. refl), tt))
    (#self (args E)) fn (code.unfolded 𝓤 𝓛.H 𝓜 𝓡 wired (X, tt)) (λ z are.
    let κ = z.0.0.0 in let κ₁ = z.0.0.1.0 in let q = z.0.1.0 in let q₁ = z.0.1.1.0 in
    let rb : ℕ = z.0.3.0.ref_ptr.0 in let ro : ℕ = z.0.3.0.ref_ptr.1 in let d : Blk E = z.0.3.0.now in let i : ℕ = z.0.3.1.0 in
    let vss = z.0.4 in let fi : i < 2 ^ 64 = are.1.0.1 in
    let Post : Val → SProp 𝓤 = (walk_of 𝓛 T stays c).post z in
    let Holds : Type 0 = (x : el_x E) × (slice_get d.held i ≡ Some (Some x)) in
    let s : ℕ = sz E in
    qed 𝓛 (((‵ (flft κ q) ⊛ ‵ (flft κ₁ q₁) ⊛ ‵ ftrue) ⊛ ‵ (owns (types_at T.signature.params z.0.0) z.0.3 vss)) ∷ (raw (fact 𝓤 (κ₁ ⊑ X.lives)) ⊛ raw (fact 𝓤 Holds)) ∷ []) ∵
    move ! (1 ∷ []) $ split ! $ drop ! $ heard ! Holds (λ holds. let x : el_x E = holds.0 in let within : i < length d.held = slice_get_within d.held i (Some x) holds.1 in
    split ! $ split ! $ move ! (2 ∷ []) $ fsplit ! $ fsplit ! $ drop ! $
    use1 𝓛 (‵ (hidden_shr RawPtr κ d.start rb (ro + 0)) ⊛ ‵ (block_lends (R E) d.start d.held κ)) (block_shown E 𝓛 κ d rb ro) $ split ! $ move ! (1 ∷ []) $
    in_a_block ! d.start (λ (p : Ptr). block_lends (R E) p d.held κ) (id⊢ 𝓤 (never 𝓤)) (λ b o at. fsplit ! $ flt_l ! (λ fit.
    let tiny : s < 2 ^ 64 = omega (arith, one_below (length d.held) s (2 ^ 63) (omega arith) fit) in
    let far : i * s < 2 ^ 64 = omega (arith, times_below i (length d.held) s (2 ^ 63) (omega arith) fit) in
    use1 𝓛 (‵ (place_lends (R E) b (i * s + o) (Some x) κ)) (place_seen E 𝓛 b κ o d.held i (Some x) holds.1) $ hide ! $ keep ! (1 ∷ 3 ∷ 4 ∷ 0 ∷ []) $
    -- [the pointer; its token; the other token; what is shown of the value]
    regoal ! (λ (us : List Val). prop (WpFn 𝓤 𝓛.H 𝓣.C 𝓣.Λ fn us Post)) (λ k. are.0.0 k ++ (are.1.0.0 k ++ [])) refl $
    enter ! 𝓣.C 𝓣.Λ fn (vptr rb ro ∷ vint w64 i ∷ []) Post $ alloc_all ! (λ l. pass_all ! refl ((tt, tt), ((tt, record { fits = fi }), tt)) $
    let En : Env 𝓤 𝓛.H = env fn.locals l in
    first ! $ blocks ! $ start_in ! tt d.start b o at rb (ro + 0) (λ q'.
    sets ! (of_opd ! (load ! (through ! refl (fld ! refl (stop !))) (look ! 0 refl))) refl (tt, tt) $
    start_out ! tt d.start b o at rb (ro + 0) $
    sets ! (bin ! (get ! refl) (size_lit ! (record { fits = tiny })) (record { fits = far })) refl (tt, record { fits = far }) $
    sets ! (bin ! (get ! refl) (get ! refl) tt) refl (tt, tt) $
    sets_last ! (addr ! (through ! refl (stop !))) refl (tt, tt) $
    exec ! 𝓣.C 𝓣.Λ En (after 1 fn.body) (at_ret En Post) $ sets ! (of_opd ! (get ! refl)) refl (tt, tt) $
    returns ! (look_at ! 0 refl) $ free_all ! refl $
    suffices ! _ (ends_at 𝓛 T stays c z (vptr b (i * s + o)) (record { ref_ptr = (b, i * s + o); now = x }) (tt, (tt, tt)) (tt, (tt, tt))) $ says ! holds.1 $
    join ! $ move ! (1 ∷ []) $ feq_i ! (List Val) (vptr b (i * s + o) ∷ []) (vptr b (i * s + o) ∷ []) refl $ fjoin ! $
    nothing ! $ nothing ! $ fjoin ! $ nothing ! $ fjoin ! $ keep ! (2 ∷ 0 ∷ 1 ∷ []) $ done !))))))
