-- Blanks before a text that begins with none.
use Rattle.std.proofs.Common.{◌≡◌, ℕ, ◌⊎◌, List, [], ◌∷◌, ◌++◌, sym, ap, ◌∙◌, subst, inl, inr, append_assoc}
use Rattle.rdb_literals.specs.SpelledValues.{AreBlanks, BeginsNoBlank, BeginsValue}

-- no blank begins a text that begins with none
no_blank : (byte : ℕ) (rest text : List ℕ) → (byte ≡ 32) ⊎ (byte ≡ 9) → BeginsNoBlank text → text ≡ byte ∷ rest → ⊥
no_blank byte rest text blank none e = let here : BeginsNoBlank (byte ∷ rest) = subst BeginsNoBlank e none in elim blank [ inl b ↦ here.0 b | inr b ↦ here.1 b ]

-- blanks that stand in front of texts that begin with none are the same, and so are the texts
pub after_same : (a b x y : List ℕ) → AreBlanks a → AreBlanks b → BeginsNoBlank x → BeginsNoBlank y → a ++ x ≡ b ++ y → x ≡ y
after_same [] [] x y ha hb hx hy e = e
after_same [] (k ∷ b) x y ha hb hx hy e = absurd (no_blank k (b ++ y) x hb.0 hx e)
after_same (k ∷ a) [] x y ha hb hx hy e = absurd (no_blank k (a ++ x) y ha.0 hy (sym e))
after_same (h ∷ a) (k ∷ b) x y ha hb hx hy e = let rest : a ++ x ≡ b ++ y = cc in after_same a b x y ha.1 hb.1 hx hy rest

pub blanks_append : (a b : List ℕ) → AreBlanks a → AreBlanks b → AreBlanks (a ++ b)
blanks_append [] b ha hb = hb
blanks_append (k ∷ a) b ha hb = (ha.0, blanks_append a b ha.1 hb)

-- a text that begins a value begins with no blank
pub value_no_blank : (text rest : List ℕ) → BeginsValue text → BeginsNoBlank (text ++ rest)
value_no_blank [] rest h = absurd h
value_no_blank (b ∷ text) rest h = (h.0, h.1)

pub one_more_blank : (text blanks rest behind : List ℕ) (byte : ℕ) → AreBlanks blanks → text ≡ blanks ++ rest → (byte ≡ 32) ⊎ (byte ≡ 9) → rest ≡ byte ∷ behind → AreBlanks (blanks ++ byte ∷ []) × (text ≡ (blanks ++ byte ∷ []) ++ behind)
one_more_blank text blanks rest behind byte are e blank r = (blanks_append blanks (byte ∷ []) are (blank, tt), e ∙ ap (λ (t : List ℕ). blanks ++ t) r ∙ sym (append_assoc blanks (byte ∷ []) behind))
