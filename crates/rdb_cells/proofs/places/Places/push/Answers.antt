use Rattle.std.proofs.Common.{◌≡◌, ◌≢◌, ◌<◌, ◌+◌, ℕ, [], ◌∷◌, ◌++◌, length, get_or, ap, sym, subst, arith}
use Rattle.std.proofs.lemmas.List.{length_push, length-set, get_or_read}
use Rattle.rdb_cells.specs.Places.{Numbers, bucket_of}
use Rattle.rdb_cells.proofs.PlaceLemmas.{pushed_chain, has_pushed}
use Rattle.rdb_cells.proofs.places.Places.push.Goals as goal

pub invariant_of-self : goal.invariant_of-self
invariant_of-self c =
    let s = c.self.inside in
    let xs = s.numbers.items in
    let ls = s.links.items in
    let hs = s.heads.items in
    let old = c.self.invariant in
    let count : c.len.result ≡ length hs = omega arith in
    let within : c.bucket-head.result < length hs = omega arith in
    let at : c.bucket-head.result ≡ bucket_of (length hs) c.args.number = subst (λ (k : ℕ). c.bucket-head.result ≡ bucket_of k c.args.number) count c.bucket-head.ensures.bucket in
    let short : length xs < length hs = subst (λ (v : Numbers). length v.numbers < v.room) (sym c.self.view_is) c.requires.room in
    let fresh : (i : ℕ) → i < length xs → get_or xs i 0 ≢ c.args.number = subst (λ (v : Numbers). (i : ℕ) → i < length v.numbers → get_or v.numbers i 0 ≢ c.args.number) (sym c.self.view_is) c.requires.fresh in
    let even = old.3.same in
    let more : c.push-kept.new.self.items ≡ xs ++ c.args.number ∷ [] = has_pushed c.push-kept.result xs c.push-kept.new.self.items c.args.number _ _ c.push-kept.ensures.items c.push-kept.ensures.full (omega arith) in
    let more_links : c.push-linked.new.self.items ≡ ls ++ c.index.result.now ∷ [] = has_pushed c.push-linked.result ls c.push-linked.new.self.items c.index.result.now _ _ c.push-linked.ensures.items c.push-linked.ensures.full (omega arith) in
    let len = length_push xs c.args.number in
    let longer : length c.push-kept.new.self.items ≡ length (xs ++ c.args.number ∷ []) = ap length more in
    let top : c.len-2.result ≡ length xs + 1 = omega arith in
    let head = get_or_read hs _ _ within c.index.ensures 0 in
    (omega (arith, length-set hs c.bucket-head.result c.len-2.result), omega (arith, length-set hs c.bucket-head.result c.len-2.result), omega (arith, length-set hs c.bucket-head.result c.len-2.result), pushed_chain xs ls hs c.push-kept.new.self.items c.push-linked.new.self.items c.args.number c.bucket-head.result c.index.result.now c.len-2.result old.3 at within fresh head more more_links top)
