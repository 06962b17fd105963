-- How a list of elements is read from the front of a text: element by element, each behind a comma.
use Rattle.std.proofs.Common.{◌≡◌, ℕ, false, List, [], ◌∷◌, ◌++◌, refl, sym, ap, ◌∙◌, subst, inl, inr, arith, append_assoc, Option, Some, None, Result, Ok, Err, IfOk, IfSome, IsSomeAnd, Bor}
use Rattle.std.proofs.lemmas.List.{append-nil}
use Rattle.std.specs.Char.{is_ascii_digit}
use Rattle.rdb_literals.specs.Spelling.{BeginsNoDigit}
use Rattle.rdb_literals.specs.SpelledValues.{AreBlanks, BeginsNoBlank, BeginsValue, IsClosing, IsListEnd, IsListText}
use Rattle.rdb_literals.proofs.BlankLemmas.{after_same, blanks_append, value_no_blank}

closing_no_blank : (close : ℕ) (rest : List ℕ) → IsClosing close → BeginsNoBlank (close ∷ rest)
closing_no_blank close rest is = elim is [ inl e ↦ (λ b. omega arith, λ b. omega arith) | inr e ↦ elim e [ inl f ↦ (λ b. omega arith, λ b. omega arith) | inr f ↦ (λ b. omega arith, λ b. omega arith) ] ]

comma_no_blank : (rest : List ℕ) → BeginsNoBlank (44 ∷ rest)
comma_no_blank rest = (λ b. omega arith, λ b. omega arith)

closing_no_comma : (close : ℕ) → IsClosing close → close ≡ 44 → ⊥
closing_no_comma close is e = elim is [ inl c ↦ omega arith | inr c ↦ elim c [ inl d ↦ omega arith | inr d ↦ omega arith ] ]

closing_no_digit : (close : ℕ) → IsClosing close → is_ascii_digit close ≡ false
closing_no_digit close is = elim is [ inl e ↦ ap is_ascii_digit e | inr e ↦ elim e [ inl f ↦ ap is_ascii_digit f | inr f ↦ ap is_ascii_digit f ] ]

-- a closing sign behind blanks is no comma behind blanks
pub end_no_comma : (close : ℕ) (a b x y : List ℕ) → IsClosing close → AreBlanks a → AreBlanks b → a ++ close ∷ x ≡ b ++ 44 ∷ y → ⊥
end_no_comma close a b x y is ha hb e =
    let same : close ∷ x ≡ 44 ∷ y = after_same a b (close ∷ x) (44 ∷ y) ha hb (closing_no_blank close x is) (comma_no_blank y) e in
    let head : close ≡ 44 = cc in
    closing_no_comma close is head

-- blanks, and a sign that is no digit
no_digit : (a x : List ℕ) (sign : ℕ) → AreBlanks a → is_ascii_digit sign ≡ false → BeginsNoDigit (a ++ sign ∷ x)
no_digit [] x sign ha none = none
no_digit (b ∷ a) x sign ha none = elim ha.0 [ inl e ↦ ap is_ascii_digit e | inr e ↦ ap is_ascii_digit e ]

-- a value begins with no closing sign, behind blanks or not
value_no_end : (first y a x : List ℕ) (close : ℕ) → IsClosing close → BeginsValue first → AreBlanks a → first ++ y ≡ a ++ close ∷ x → ⊥
value_no_end [] y a x close closing begins blanks e = begins
value_no_end (b ∷ first) y [] x close closing begins blanks e = let same : b ≡ close = cc in elim closing [ inl c ↦ begins.3 (same ∙ c) | inr c ↦ elim c [ inl d ↦ begins.4 (same ∙ d) | inr d ↦ begins.5 (same ∙ d) ] ]
value_no_end (b ∷ first) y (k ∷ a) x close closing begins blanks e = let same : b ≡ k = cc in elim blanks.0 [ inl c ↦ begins.0 (same ∙ c) | inr c ↦ begins.1 (same ∙ c) ]

-- an element behind a comma, with blanks round the comma
pub element_split : (before behind first more after : List ℕ) → (before ++ 44 ∷ (behind ++ (first ++ more))) ++ after ≡ before ++ 44 ∷ (behind ++ (first ++ (more ++ after)))
element_split before behind first more after =
    append_assoc before (44 ∷ (behind ++ (first ++ more))) after
    ∙ ap (λ (t : List ℕ). before ++ 44 ∷ t) (append_assoc behind (first ++ more) after ∙ ap (λ (t : List ℕ). behind ++ t) (append_assoc first more after))

module _ {X : Type 0} (R : List ℕ → X → Type 0) (close : ℕ) where
  -- what follows an element begins with no digit
  pub end_no_digit : (xs : List X) (text rest : List ℕ) → IsClosing close → IsListEnd R close text xs → BeginsNoDigit (text ++ rest)
  end_no_digit [] text rest closing is =
      subst (λ (t : List ℕ). BeginsNoDigit (t ++ rest)) (sym is.2) (subst BeginsNoDigit (sym (append_assoc is.0 (close ∷ []) rest)) (no_digit is.0 rest close is.1 (closing_no_digit close closing)))
  end_no_digit (x ∷ xs) text rest closing is =
      subst (λ (t : List ℕ). BeginsNoDigit (t ++ rest)) (sym is.8) (subst BeginsNoDigit (sym (append_assoc is.0 (44 ∷ (is.1 ++ (is.2 ++ is.3))) rest)) (no_digit is.0 ((is.1 ++ (is.2 ++ is.3)) ++ rest) 44 is.4 refl))

  -- the text so far may be completed: an end of the list that stands in the rest makes one of the whole
  abbrev pub Completes : List X → List X → List ℕ → List ℕ → Type 0
  Completes front elements text rest =
      (tail : List X) (spelled after : List ℕ) → IsListEnd R close spelled tail → rest ≡ spelled ++ after
      → (more : List X) × (whole : List ℕ) × IsListEnd R close whole more × (elements ++ tail ≡ front ++ more) × (text ≡ whole ++ after)

  pub completes_start : (front : List X) (text : List ℕ) → Completes front front text text
  completes_start front text tail spelled after is e = (tail, spelled, is, refl, e)

  pub completes_more : (front elements : List X) (x : X) (text rest before behind next first later : List ℕ) → Completes front elements text rest → AreBlanks before → AreBlanks behind → rest ≡ before ++ 44 ∷ (behind ++ next)
      → R first x → next ≡ first ++ later → Completes front (elements ++ x ∷ []) text later
  completes_more front elements x text rest before behind next first later so_far hb ha comma is_x e tail spelled after is l =
      let whole = so_far (x ∷ tail) (before ++ 44 ∷ (behind ++ (first ++ spelled))) after (before, behind, first, spelled, hb, ha, is_x, is, refl)
      (comma ∙ ap (λ (t : List ℕ). before ++ 44 ∷ (behind ++ t)) (e ∙ ap (λ (t : List ℕ). first ++ t) l) ∙ sym (element_split before behind first spelled after)) in
      (whole.0, whole.1, whole.2, append_assoc elements (x ∷ []) tail ∙ whole.3, whole.4)

  -- an end of the list stands in the rest, and these elements and its own are the whole
  pub record Left (whole elements : List X) (rest after : List ℕ) : Type 0 where
    pub tail : List X
    pub spelled : List ℕ
    pub is : IsListEnd R close spelled tail
    pub joined : whole ≡ elements ++ tail
    pub left : rest ≡ spelled ++ after

  -- an element, and an end of the list, stand behind the comma
  pub record Next (whole elements : List X) (next after : List ℕ) : Type 0 where
    pub element : X
    pub tail : List X
    pub first : List ℕ
    pub spelled : List ℕ
    pub is_first : R first element
    pub is : IsListEnd R close spelled tail
    pub joined : whole ≡ elements ++ element ∷ tail
    pub left : next ≡ first ++ (spelled ++ after)

  pub next_of : (whole elements : List X) (rest next after before behind : List ℕ) → IsClosing close → ((s : List ℕ) (x : X) → R s x → BeginsValue s) → AreBlanks before → rest ≡ before ++ 44 ∷ (behind ++ next)
      → ((b a r : List ℕ) → AreBlanks b → AreBlanks a → BeginsNoBlank r → rest ≡ b ++ 44 ∷ (a ++ r) → next ≡ r) → Left whole elements rest after → Next whole elements next after
  next_of whole elements rest next after before behind closing begins blanks comma exact l = by_tail l.tail l.spelled l.is l.joined l.left
    where
      by_tail : (tail : List X) (spelled : List ℕ) → IsListEnd R close spelled tail → whole ≡ elements ++ tail → rest ≡ spelled ++ after → Next whole elements next after
      by_tail [] spelled is joined left =
          absurd (end_no_comma close is.0 before after (behind ++ next) closing is.1 blanks (sym (append_assoc is.0 (close ∷ []) after) ∙ sym (left ∙ ap (λ (t : List ℕ). t ++ after) is.2) ∙ comma))
      by_tail (x ∷ tail) spelled is joined left = record {
        element = x;
        tail = tail;
        first = is.2;
        spelled = is.3;
        is_first = is.6;
        is = is.7;
        joined = joined;
        left = exact is.0 is.1 (is.2 ++ (is.3 ++ after)) is.4 is.5 (value_no_blank is.2 (is.3 ++ after) (begins is.2 x is.6)) (left ∙ ap (λ (t : List ℕ). t ++ after) is.8 ∙ element_split is.0 is.1 is.2 is.3 after);
      }

  -- the element that was read is the one that stands there
  pub left_more : (whole elements : List X) (x : X) (next later after : List ℕ) → IsClosing close → ((s r : List ℕ) (v : X) → R s v → BeginsNoDigit r → next ≡ s ++ r → (x ≡ v) × (later ≡ r))
      → Next whole elements next after → Left whole (elements ++ x ∷ []) later after
  left_more whole elements x next later after closing exact n =
      let same = exact n.first (n.spelled ++ after) n.element n.is_first (end_no_digit n.tail n.spelled after closing n.is) n.left in
      record {
        tail = n.tail;
        spelled = n.spelled;
        is = n.is;
        joined = n.joined ∙ ap (λ (v : X). elements ++ v ∷ n.tail) (sym same.0) ∙ sym (append_assoc elements (x ∷ []) n.tail);
        left = same.1;
      }

  pub none_there : (whole elements : List X) (next after : List ℕ) → IsClosing close → ((s r : List ℕ) (v : X) → R s v → BeginsNoDigit r → next ≡ s ++ r → ⊥) → Next whole elements next after → ⊥
  none_there whole elements next after closing none n = none n.first (n.spelled ++ after) n.element n.is_first (end_no_digit n.tail n.spelled after closing n.is) n.left

  -- where no comma follows, the elements are the whole, and the closing sign follows
  pub record Ends (whole elements : List X) (rest after : List ℕ) : Type 0 where
    pub blanks : List ℕ
    pub are : AreBlanks blanks
    pub all : elements ≡ whole
    pub left : rest ≡ blanks ++ close ∷ after

  pub ends_of : (whole elements : List X) (rest after : List ℕ) → ((s : List ℕ) (x : X) → R s x → BeginsValue s) → ((b a r : List ℕ) → AreBlanks b → AreBlanks a → BeginsNoBlank r → rest ≡ b ++ 44 ∷ (a ++ r) → ⊥)
      → Left whole elements rest after → Ends whole elements rest after
  ends_of whole elements rest after begins none l = by_tail l.tail l.spelled l.is l.joined l.left
    where
      by_tail : (tail : List X) (spelled : List ℕ) → IsListEnd R close spelled tail → whole ≡ elements ++ tail → rest ≡ spelled ++ after → Ends whole elements rest after
      by_tail [] spelled is joined left = record {
        blanks = is.0;
        are = is.1;
        all = sym (joined ∙ append-nil elements);
        left = left ∙ ap (λ (t : List ℕ). t ++ after) is.2 ∙ append_assoc is.0 (close ∷ []) after;
      }
      by_tail (x ∷ tail) spelled is joined left =
          absurd (none is.0 is.1 (is.2 ++ (is.3 ++ after)) is.4 is.5 (value_no_blank is.2 (is.3 ++ after) (begins is.2 x is.6)) (left ∙ ap (λ (t : List ℕ). t ++ after) is.8 ∙ element_split is.0 is.1 is.2 is.3 after))

  -- a list without elements
  pub empty_text : (sign : ℕ) (text inner rest blanks more : List ℕ) → AreBlanks blanks → AreBlanks more → text ≡ sign ∷ (blanks ++ inner) → inner ≡ more ++ close ∷ rest
      → (spelled : List ℕ) × IsListText R sign close spelled [] × (text ≡ spelled ++ rest)
  empty_text sign text inner rest blanks more ha hb e i = (
    sign ∷ ((blanks ++ more) ++ close ∷ []),
    (blanks ++ more, blanks_append blanks more ha hb, refl),
    e ∙ ap (λ (t : List ℕ). sign ∷ t) (ap (λ (t : List ℕ). blanks ++ t) i ∙ sym (append_assoc blanks more (close ∷ rest)) ∙ sym (append_assoc (blanks ++ more) (close ∷ []) rest)),
  )

  -- a list with elements
  pub filled_text : (sign : ℕ) (text inner rest blanks first spelled : List ℕ) (x : X) (xs all : List X) → AreBlanks blanks → text ≡ sign ∷ (blanks ++ inner) → R first x → IsListEnd R close spelled xs → all ≡ x ∷ xs
      → inner ≡ first ++ (spelled ++ rest) → (whole : List ℕ) × IsListText R sign close whole all × (text ≡ whole ++ rest)
  filled_text sign text inner rest blanks first spelled x xs all ha e is_first is joined i = (
    sign ∷ (blanks ++ (first ++ spelled)),
    subst (IsListText R sign close (sign ∷ (blanks ++ (first ++ spelled)))) (sym joined) (blanks, first, spelled, ha, is_first, is, refl),
    e ∙ ap (λ (t : List ℕ). sign ∷ (blanks ++ t)) (i ∙ sym (append_assoc first spelled rest)) ∙ ap (λ (t : List ℕ). sign ∷ t) (sym (append_assoc blanks (first ++ spelled) rest)),
  )

  -- what stands behind the opening sign of a list, which blanks may follow: a closing sign, or a first element
  abbrev pub Inside : List X → List ℕ → List ℕ → Type 0
  Inside [] inner rest = inner ≡ close ∷ rest
  Inside (x ∷ xs) inner rest = (first : List ℕ) × (spelled : List ℕ) × R first x × IsListEnd R close spelled xs × (inner ≡ first ++ (spelled ++ rest))

  pub inside_of : (sign : ℕ) (text whole rest inner : List ℕ) (xs : List X) → IsClosing close → ((s : List ℕ) (x : X) → R s x → BeginsValue s)
      → ((b r : List ℕ) → AreBlanks b → BeginsNoBlank r → text ≡ sign ∷ (b ++ r) → inner ≡ r) → IsListText R sign close whole xs → text ≡ whole ++ rest → Inside xs inner rest
  inside_of sign text whole rest inner [] closing begins exact is e =
      exact is.0 (close ∷ rest) is.1 (closing_no_blank close rest closing) (e ∙ ap (λ (t : List ℕ). t ++ rest) is.2 ∙ ap (λ (t : List ℕ). sign ∷ t) (append_assoc is.0 (close ∷ []) rest))
  inside_of sign text whole rest inner (x ∷ xs) closing begins exact is e = (
    is.1,
    is.2,
    is.4,
    is.5,
    exact is.0 (is.1 ++ (is.2 ++ rest)) is.3 (value_no_blank is.1 (is.2 ++ rest) (begins is.1 x is.4))
        (e ∙ ap (λ (t : List ℕ). t ++ rest) is.6 ∙ ap (λ (t : List ℕ). sign ∷ t) (append_assoc is.0 (is.1 ++ is.2) rest ∙ ap (λ (t : List ℕ). is.0 ++ t) (append_assoc is.1 is.2 rest))),
  )

  -- where no opening sign is read, no list stands there
  pub no_list : (sign : ℕ) (text whole rest : List ℕ) (xs : List X) → IsClosing close → ((s : List ℕ) (x : X) → R s x → BeginsValue s) → ((b r : List ℕ) → AreBlanks b → BeginsNoBlank r → text ≡ sign ∷ (b ++ r) → ⊥)
      → IsListText R sign close whole xs → text ≡ whole ++ rest → ⊥
  no_list sign text whole rest [] closing begins none is e =
      none is.0 (close ∷ rest) is.1 (closing_no_blank close rest closing) (e ∙ ap (λ (t : List ℕ). t ++ rest) is.2 ∙ ap (λ (t : List ℕ). sign ∷ t) (append_assoc is.0 (close ∷ []) rest))
  no_list sign text whole rest (x ∷ xs) closing begins none is e =
      none is.0 (is.1 ++ (is.2 ++ rest)) is.3 (value_no_blank is.1 (is.2 ++ rest) (begins is.1 x is.4))
      (e ∙ ap (λ (t : List ℕ). t ++ rest) is.6 ∙ ap (λ (t : List ℕ). sign ∷ t) (append_assoc is.0 (is.1 ++ is.2) rest ∙ ap (λ (t : List ℕ). is.0 ++ t) (append_assoc is.1 is.2 rest)))

  -- where the closing sign follows, the list has no element
  pub inside_empty : (xs : List X) (inner rest behind blanks : List ℕ) → IsClosing close → ((s : List ℕ) (x : X) → R s x → BeginsValue s) → AreBlanks blanks → inner ≡ blanks ++ close ∷ behind
      → ((b r : List ℕ) → AreBlanks b → inner ≡ b ++ close ∷ r → behind ≡ r) → Inside xs inner rest → ([] ≡ xs) × (behind ≡ rest)
  inside_empty [] inner rest behind blanks closing begins ha e exact is = (refl, exact [] rest tt is)
  inside_empty (x ∷ xs) inner rest behind blanks closing begins ha e exact is = absurd (value_no_end is.0 (is.1 ++ rest) blanks behind close closing (begins is.0 x is.2) ha (sym is.4 ∙ e))

  -- an end of the list stands in front
  abbrev pub EndAt : List X → List ℕ → List ℕ → Type 0
  EndAt xs text rest = (spelled : List ℕ) × IsListEnd R close spelled xs × (text ≡ spelled ++ rest)

  pub end_close : (text rest blanks : List ℕ) → AreBlanks blanks → text ≡ blanks ++ close ∷ rest → EndAt [] text rest
  end_close text rest blanks are e = (blanks ++ close ∷ [], (blanks, are, refl), e ∙ sym (append_assoc blanks (close ∷ []) rest))

  pub end_step : (x : X) (xs : List X) (text later rest before behind first : List ℕ) → AreBlanks before → AreBlanks behind → R first x → text ≡ before ++ 44 ∷ (behind ++ (first ++ later)) → EndAt xs later rest → EndAt (x ∷ xs) text rest
  end_step x xs text later rest before behind first hb ha is_first e end = (
    before ++ 44 ∷ (behind ++ (first ++ end.0)),
    (before, behind, first, end.0, hb, ha, is_first, end.1, refl),
    e ∙ ap (λ (t : List ℕ). before ++ 44 ∷ (behind ++ (first ++ t))) end.2 ∙ sym (element_split before behind first end.0 rest),
  )

  -- an element stands behind a comma, and another part of the list behind it
  pub record Step (text later : List ℕ) (x : X) : Type 0 where
    pub before : List ℕ
    pub behind : List ℕ
    pub first : List ℕ
    pub left : AreBlanks before
    pub right : AreBlanks behind
    pub is : R first x
    pub digits : BeginsNoDigit later
    pub e : text ≡ before ++ 44 ∷ (behind ++ (first ++ later))

  pub step_of : (x : X) (xs : List X) (text spelled rest : List ℕ) → IsClosing close → (is : IsListEnd R close spelled (x ∷ xs)) → text ≡ spelled ++ rest → Step text (is.3 ++ rest) x
  step_of x xs text spelled rest closing is e = record {
    before = is.0;
    behind = is.1;
    first = is.2;
    left = is.4;
    right = is.5;
    is = is.6;
    digits = end_no_digit xs is.3 rest closing is.7;
    e = e ∙ ap (λ (t : List ℕ). t ++ rest) is.8 ∙ element_split is.0 is.1 is.2 is.3 rest;
  }

  -- what was read behind the opening sign makes a list
  pub filled_found : {E : Type 0} (sign : ℕ) (text inner blanks : List ℕ) (r : Result (Option (List X × Bor (List ℕ))) E) → AreBlanks blanks → text ≡ sign ∷ (blanks ++ inner)
      → IfOk r (λ o. IfSome o (λ p. (x : X) × (more : List X) × (first : List ℕ) × (spelled : List ℕ) × R first x × IsListEnd R close spelled more × (p.0 ≡ x ∷ more) × (inner ≡ first ++ (spelled ++ p.1.now))))
      → IfOk r (λ o. IfSome o (λ p. (whole : List ℕ) × IsListText R sign close whole p.0 × (text ≡ whole ++ p.1.now)))
  filled_found sign text inner blanks (Ok None) are e h = tt
  filled_found sign text inner blanks (Ok (Some p)) are e h = filled_text sign text inner p.1.now blanks h.2 h.3 h.0 h.1 p.0 are e h.4 h.5 h.6 h.7
  filled_found sign text inner blanks (Err f) are e h = tt

  -- where no closing sign follows the opening one, the list has a first element
  pub inside_filled : (P : List X → Type 0) (xs : List X) (inner rest : List ℕ) → ((b r : List ℕ) → AreBlanks b → inner ≡ b ++ close ∷ r → ⊥)
      → ((first spelled : List ℕ) (x : X) (more : List X) → R first x → IsListEnd R close spelled more → inner ≡ first ++ (spelled ++ rest) → P (x ∷ more)) → Inside xs inner rest → P xs
  inside_filled P [] inner rest none filled is = absurd (none [] rest tt is)
  inside_filled P (x ∷ xs) inner rest none filled is = filled is.0 is.1 x xs is.2 is.3 is.4

-- what is said of an answer, at the value that it has
pub at_some : {A : Type 0} (o : Option A) (x : A) (P : A → Type 0) → IsSomeAnd o P → o ≡ Some x → P x
at_some o x P h e = subst (λ q. IsSomeAnd q P) e h

pub if_some : {A : Type 0} (o : Option A) (x : A) (P : A → Type 0) → IfSome o P → o ≡ Some x → P x
if_some o x P h e = subst (λ q. IfSome q P) e h

pub at_none : {A : Type 0} (o : Option A) (P : A → Type 0) → IsSomeAnd o P → o ≡ None → ⊥
at_none o P h e = subst (λ q. IsSomeAnd q P) e h
