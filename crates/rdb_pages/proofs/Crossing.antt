-- A block may move between threads as its values may, and a deed as its allocator's blocks may be freed by any thread.
use Rattle.std.specs.Prelude.{ℕ, ◌+◌, List, [], ◌∷◌, Option, Some, None}
use Rattle.std.specs.Mem.{type_size}
use base.Fraction.{full_share}
use base.Shift.{Keyless}
use denote.Exit.{Exit, unchanged, leaves, hidden, under}
use denote.Param.Send.{IsSend, Frees, Quiet, AllSend, part_keyless, owning_send, struct_send, sendable}
use denote.RattleType.{RattleType}
use denote.RawPtr.{Ptr, block_ptr, null_ptr}
use denote.Struct.Owning.{shape, fields, to}
use denote.Struct.Struct.{exits_of}
use Rattle.std.specs.declared.alloc.Allocator.{Ghosts}
use Rattle.rdb_pages.specs.Block.{places_own, block_owns}
use Rattle.rdb_pages.specs.contracts.block.Block as B
use Rattle.rdb_pages.specs.contracts.block.Deed as D

still : {X Y : Type 0} (f : X → Y) (e : Exit Y) → Quiet e → Quiet (hidden (under f e))
still f unchanged q = λ x w. tt
still f (leaves L l S s r₀) q = λ d. q (f d)

module _ (R : RattleType) (s : IsSend R) where
  places_keyless : (b o : ℕ) (cs : List (Option R.Denot)) → Keyless (places_own R b o cs)
  places_keyless b o [] = tt
  places_keyless b o (None ∷ cs) = (tt, places_keyless b (o + type_size R) cs)
  places_keyless b o (Some x ∷ cs) = (part_keyless R s full_share x b o, places_keyless b (o + type_size R) cs)

  block_keyless : (p : Ptr) (cs : List (Option R.Denot)) → Keyless (block_owns R p cs)
  block_keyless null_ptr cs = tt
  block_keyless (block_ptr b o) cs = (tt, places_keyless b o cs)

  pub block_send : IsSend (B.the_row R)
  block_send =
      let O = B.the_type R in let all : AllSend (fields O) = (search sendable, tt) in
      owning_send O all (λ d. block_keyless d.start d.held) (λ k. still (to O) (exits_of k (fields O)) ((struct_send (shape O) all).leaving k))

module _ (R A : RattleType) (g : Ghosts A.Denot) where
  pub deed_send : Frees g g.dealloc_token → IsSend (D.the_row R A g)
  deed_send f =
      let O = D.the_type R A g in let all : AllSend (fields O) = (search sendable, tt) in
      owning_send O all (λ d. f.frees d.alloc _ d.start) (λ k. still (to O) (exits_of k (fields O)) ((struct_send (shape O) all).leaving k))
