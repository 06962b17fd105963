-- The order of versions: it is total, and calls Equal only what is equal.
use Rattle.std.proofs.Common.{◌≡◌, ◌<◌, ℕ, refl, subst}
use Rattle.std.specs.Cmp.{IsTotalOrder}
use Rattle.std.specs.declared.cmp.Ordering.{Ordering}
use Rattle.std.specs.declared.cmp.Ordering.TheVariants.{Less, Equal, Greater}
use Rattle.std.specs.Ordering.{ordering_then, nat_cmp, MatchOrdering}
use Rattle.std.proofs.lemmas.Cmp.{ranked, nat_cmp_total, on_total, then_total}
use Rattle.rdb_base.specs.Order.{row_order}
use Rattle.rdb_base.proofs.OrderLemmas.{row_order_total, row_level}
use Rattle.rdb_cells.specs.Keys.{Version, version_order}

pub version_order_total : IsTotalOrder version_order
version_order_total =
    then_total (on_total (λ (v : Version). v.key) row_order_total)
    (then_total (on_total (λ (v : Version). v.id) nat_cmp_total) (on_total (λ (v : Version). v.serial) nat_cmp_total))

-- where two orders in turn say Equal, each does
first_level : (r s : Ordering) → ordering_then r s ≡ Equal → r ≡ Equal
first_level Less s e = e
first_level Equal s e = (cc)
first_level Greater s e = e

second_level : (r s : Ordering) → ordering_then r s ≡ Equal → s ≡ Equal
second_level Less s e = (cc)
second_level Equal s e = e
second_level Greater s e = (cc)

nat_level : (x y : ℕ) → nat_cmp x y ≡ Equal → x ≡ y
nat_level x y e = subst (λ o. MatchOrdering o (x < y) (x ≡ y) (y < x)) e (ranked x y (nat_cmp x y) refl)

pub version_level : (v w : Version) → version_order v w ≡ Equal → v ≡ w
version_level v w e =
    let keys = row_level v.key w.key (first_level (row_order v.key w.key) _ e) in
    let later = second_level (row_order v.key w.key) _ e in
    let ids = nat_level v.id w.id (first_level (nat_cmp v.id w.id) _ later) in
    let serials = nat_level v.serial w.serial (second_level (nat_cmp v.id w.id) _ later) in
    λ i. record { key = keys i; id = ids i; serial = serials i }
