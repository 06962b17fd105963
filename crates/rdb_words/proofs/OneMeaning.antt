-- Words give one thing only.
use Rattle.std.proofs.Common.{◌≡◌, Bool, true, false, List, [], ◌∷◌, ◌++◌, length, Option, Some, None, codes, refl, sym, ap, ◌∙◌, inl, inr, subst, arith}
use Rattle.std.specs.List.{flat_map}
use Rattle.std.specs.Option.{option_to_list}
use Rattle.rdb_words.specs.Grammar.{Word, Part, Given, Gives, BeginsWithAll, IsEnd, manager_in, pages_in, threads_in, name_in, flag_to_list}
use Rattle.rdb_words.proofs.Parts.{one_part, no_part, marked, same_head, same_tail}

same_end : (words ns ms : List Word) → IsEnd words ns → IsEnd words ms → ns ≡ ms
same_end words ns ms (inl (_, a)) (inl (_, b)) = a ∙ sym b
same_end words ns ms (inl (e, _)) (inr f) = let h : [] ≡ codes "--" ∷ ms = sym e ∙ f in absurd (omega (arith, ap length h))
same_end words ns ms (inr e) (inl (f, _)) = let h : codes "--" ∷ ns ≡ [] = sym e ∙ f in absurd (omega (arith, ap length h))
same_end words ns ms (inr e) (inr f) = same_tail (sym e ∙ f)

-- words are cut into parts in one way
one_split : (ps qs : List Part) (words r s ns ms : List Word)
    → BeginsWithAll ps words r → IsEnd r ns → BeginsWithAll qs words s → IsEnd s ms → (ps ≡ qs) × (ns ≡ ms)
one_split [] [] words r s ns ms a e b f =
    (refl, same_end s ns ms (let P : List Word → Type 0 = λ ws. IsEnd ws ns in subst P (sym a ∙ b) e) f)
one_split [] (q ∷ qs) words r s ns ms a e (between, b, _) f =
    absurd (no_part q words between ns b (let P : List Word → Type 0 = λ ws. IsEnd ws ns in subst P (sym a) e))
one_split (p ∷ ps) [] words r s ns ms (between, a, _) e b f =
    absurd (no_part p words between ms a (let P : List Word → Type 0 = λ ws. IsEnd ws ms in subst P (sym b) f))
one_split (p ∷ ps) (q ∷ qs) words r s ns ms (x, a, as') e (y, b, bs) f =
    let same : (p ≡ q) × (x ≡ y) = one_part p q words x y a b (sym (marked p words x a) ∙ marked q words y b) in
    let P : List Word → Type 0 = λ ws. BeginsWithAll ps ws r in
    let others : (ps ≡ qs) × (ns ≡ ms) = one_split ps qs y r s ns ms (subst P same.1 as') e bs f in
    (cc, others.1)

same_option : (o p : Option Word) → option_to_list o ≡ option_to_list p → o ≡ p
same_option None None e = refl
same_option None (Some w) e = absurd (omega (arith, ap length e))
same_option (Some v) None e = absurd (omega (arith, ap length e))
same_option (Some v) (Some w) e = ap Some (same_head e)

same_flag : (o p : Bool) → flag_to_list o ≡ flag_to_list p → o ≡ p
same_flag true true e = refl
same_flag false false e = refl
same_flag true false e = absurd (omega (arith, ap length e))
same_flag false true e = absurd (omega (arith, ap length e))

-- a `Given` of its four parts
given_from : Option Word → Option Word → Bool → List Word → Given
given_from m p t n = record { manager_value = m; pages_value = p; with_threads = t; names = n }

same_given : (g h : Given) → g.manager_value ≡ h.manager_value → g.pages_value ≡ h.pages_value
    → g.with_threads ≡ h.with_threads → g.names ≡ h.names → g ≡ h
unfolding given_from
same_given g h a b c d =
    ap (λ x. given_from x g.pages_value g.with_threads g.names) a
    ∙ ap (λ x. given_from h.manager_value x g.with_threads g.names) b
    ∙ ap (λ x. given_from h.manager_value h.pages_value x g.names) c
    ∙ ap (λ x. given_from h.manager_value h.pages_value h.with_threads x) d

-- words give one thing only
pub one_given : (words : List Word) (g h : Given) → Gives words g → Gives words h → g ≡ h
one_given words g h a b =
    let same : (a.parts ≡ b.parts) × (a.last_names ≡ b.last_names) =
    one_split a.parts b.parts words a.rest b.rest a.last_names b.last_names a.split a.end b.split b.end in
    same_given g h
    (same_option _ _ (sym a.manager_once ∙ ap (flat_map manager_in) same.0 ∙ b.manager_once))
    (same_option _ _ (sym a.pages_once ∙ ap (flat_map pages_in) same.0 ∙ b.pages_once))
    (same_flag _ _ (sym a.threads_once ∙ ap (flat_map threads_in) same.0 ∙ b.threads_once))
    (sym a.all_names ∙ ap (λ ps. flat_map name_in ps ++ a.last_names) same.0
    ∙ ap (λ ns. flat_map name_in b.parts ++ ns) same.1 ∙ b.all_names)
