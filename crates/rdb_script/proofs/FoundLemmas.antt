-- What was found by a function of a word.
use Rattle.std.proofs.Common.{◌≡◌, ℕ, List, Option, Some, None, refl, sym, ap, ◌∙◌, subst}

-- one word has one meaning
pub same_found : {X : Type 0} (f : List ℕ → Option X) (w v : List ℕ) (x y : X) → w ≡ v → Some x ≡ f w → f v ≡ Some y → x ≡ y
same_found f w v x y e found meant = let s : Some x ≡ Some y = found ∙ ap f e ∙ meant in cc

pub none_found : {X : Type 0} (f : List ℕ → Option X) (w v : List ℕ) (y : X) → w ≡ v → None ≡ f w → f v ≡ Some y → ⊥
none_found f w v y e found meant = let s : None ≡ Some y = found ∙ ap f e ∙ meant in cc

pub is_found : {X : Type 0} (f : List ℕ → Option X) (w v : List ℕ) (x : X) → w ≡ v → Some x ≡ f w → f v ≡ Some x
is_found f w v x e found = sym (found ∙ ap f e)

-- a fact of two things at their equals
pub moved : {X Y : Type 0} (P : X → Y → Type 0) (x z : X) (y w : Y) → x ≡ z → y ≡ w → P x y → P z w
moved P x z y w e f h = subst (λ a. P a w) e (subst (λ b. P x b) f h)

pub some_is : {X : Type 0} (x y : X) → Some x ≡ Some y → x ≡ y
some_is x y e = cc
