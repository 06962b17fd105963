use Rattle.std.proofs.Common.{◌≡◌, ◌<◌, ℕ, length, subst, arith}
use Rattle.std.proofs.lemmas.List.{length-set}
use Rattle.rdb_cells.specs.Places.{bucket_of}
use Rattle.rdb_cells.proofs.PlaceLemmas.{popped_chain}
use Rattle.rdb_cells.proofs.places.Places.pop.Goals as goal

pub invariant_of-self : goal.invariant_of-self
invariant_of-self c =
    let s = c.self.inside in
    let hs = s.heads.items in
    let old = c.self.invariant in
    let count : c.len.result ≡ length hs = omega arith in
    let within : c.bucket-head.result < length hs = omega arith in
    let at : c.bucket-head.result ≡ bucket_of (length hs) c.in-Some-Some.number = subst (λ (k : ℕ). c.bucket-head.result ≡ bucket_of k c.in-Some-Some.number) count c.bucket-head.ensures.bucket in
    (omega (arith, length-set hs c.bucket-head.result c.in-Some-Some.link), omega (arith, length-set hs c.bucket-head.result c.in-Some-Some.link), omega (arith, length-set hs c.bucket-head.result c.in-Some-Some.link), popped_chain c.pop.new.self.items c.pop-2.new.self.items hs s.numbers.items s.links.items c.in-Some-Some.number c.bucket-head.result c.in-Some-Some.link old.3 at within c.in-Some-Some.ensures.items c.in-Some-Some.ensures'.items)
