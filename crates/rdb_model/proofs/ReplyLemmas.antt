-- Replies that count as one are equal, case by case.
use Rattle.std.proofs.Common.{◌≡◌, ℕ, Bool, true, false, ◌&&◌, ◌==◌, refl, ap, ◌∙◌}
use Rattle.std.specs.Ordering.{is_eq}
use Rattle.std.specs.declared.cmp.Ordering.{Ordering}
use Rattle.std.specs.declared.cmp.Ordering.TheVariants.{Less, Equal, Greater}
use Rattle.std.specs.Cmp.Lexicographic.{bytes_decides}
use Rattle.std.proofs.lemmas.Bool.Decides.{Decides-eqb}
use Rattle.std.proofs.lemmas.Cmp.{tied_itself}
use Rattle.rdb_base.specs.declared.operation.Reply.{Reply}
use Rattle.rdb_base.specs.declared.operation.Reply.TheVariants as reply
use Rattle.rdb_base.specs.Order.{row_order}
use Rattle.rdb_base.proofs.OrderLemmas.{row_order_total, row_level}
use Rattle.rdb_model.specs.Database.{Row}
use Rattle.rdb_model.specs.Story.{same_reply}
use Rattle.rdb_model.proofs.FitsLemmas.{first_of, second_of}

equal_is : (o : Ordering) → is_eq o ≡ true → o ≡ Equal
equal_is Less e = (cc)
equal_is Equal e = refl
equal_is Greater e = (cc)

row_same : (a b : Row) → is_eq (row_order a b) ≡ true → a ≡ b
row_same a b e = row_level a b (equal_is (row_order a b) e)

row_itself : (a : Row) → is_eq (row_order a a) ≡ true
row_itself a = ap is_eq (tied_itself row_order_total a)

number_same : (a b : ℕ) → (a == b) ≡ true → a ≡ b
number_same a b = (Decides-eqb a b).0

number_itself : (a : ℕ) → (a == a) ≡ true
number_itself a = (Decides-eqb a a).1 refl

both : (a b : Bool) → a ≡ true → b ≡ true → (a && b) ≡ true
both true b e f = f
both false b e f = e

-- replies that count as one are equal
pub same_reply_is : (a b : Reply) → same_reply a b ≡ true → a ≡ b
same_reply_is (reply.Made a) (reply.Made b) e = ap reply.Made (number_same a b e)
same_reply_is (reply.Row a) (reply.Row b) e = ap reply.Row (row_same a b e)
same_reply_is reply.Done reply.Done e = refl
same_reply_is reply.NotFound reply.NotFound e = refl
same_reply_is (reply.Duplicate i a) (reply.Duplicate j b) e =
    ap (λ n. reply.Duplicate n a) (number_same i j (first_of (i == j) (a == b) e)) ∙ ap (reply.Duplicate j) (number_same a b (second_of (i == j) (a == b) e))
same_reply_is (reply.Ids xs) (reply.Ids ys) e = ap reply.Ids ((bytes_decides xs ys).0 e)
same_reply_is (reply.At k a) (reply.At l b) e =
    ap (λ n. reply.At n a) (row_same k l (first_of (is_eq (row_order k l)) (a == b) e)) ∙ ap (reply.At l) (number_same a b (second_of (is_eq (row_order k l)) (a == b) e))
same_reply_is reply.End reply.End e = refl
same_reply_is (reply.Count a) (reply.Count b) e = ap reply.Count (number_same a b e)
same_reply_is _ _ e = (cc)

-- a reply counts as itself
pub reply_itself : (a : Reply) → same_reply a a ≡ true
reply_itself (reply.Made a) = number_itself a
reply_itself (reply.Row a) = row_itself a
reply_itself reply.Done = refl
reply_itself reply.NotFound = refl
reply_itself (reply.Duplicate i a) = both (i == i) (a == a) (number_itself i) (number_itself a)
reply_itself (reply.Ids xs) = (bytes_decides xs xs).1 refl
reply_itself (reply.At k a) = both (is_eq (row_order k k)) (a == a) (row_itself k) (number_itself a)
reply_itself reply.End = refl
reply_itself (reply.Count a) = number_itself a
