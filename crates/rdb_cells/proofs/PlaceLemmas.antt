-- Chains of numbers that share a bucket, as numbers come and go.
use Rattle.std.proofs.Common.{◌≡◌, ◌≢◌, ◌<◌, ◌≤◌, ◌+◌, ◌-◌, ℕ, List, [], ◌∷◌, ◌++◌, length, get_or, set, replicate, refl, sym, ap, subst, ◌∙◌, arith, inl, inr, cond, Result, Ok, Err, is_ok, OnErr}
use Rattle.std.proofs.lemmas.List.{length_push, length-set, get_or_push, get_or_append_left, get_or-set_same, get_or-set_other, get_or-replicate, length-replicate}
use Rattle.std.proofs.Permutation.{which}
use Rattle.std.proofs.lemmas.Bool.{cases_lt}
use Rattle.rdb_cells.specs.Places.{IsLink, IsChained, AreDifferent, bucket_of}

module _ (bucket : ℕ → ℕ) where
  -- what stands behind the place doesn't matter
  link-keep : (xs ys : List ℕ) (b k l : ℕ) → k ≤ length xs → IsLink bucket xs b k l → IsLink bucket (xs ++ ys) b k l
  link-keep xs ys b k l short old = record {
    within = old.within;
    last = λ i low high e. old.last i low high (ap bucket (sym (get_or_append_left xs ys 0 i (omega arith))) ∙ e);
    here = λ pos. let w = old.within in ap bucket (get_or_append_left xs ys 0 (l - 1) (omega arith)) ∙ old.here pos;
  }

  link-cut : (xs ys : List ℕ) (b k l : ℕ) → k ≤ length xs → IsLink bucket (xs ++ ys) b k l → IsLink bucket xs b k l
  link-cut xs ys b k l short old = record {
    within = old.within;
    last = λ i low high e. old.last i low high (ap bucket (get_or_append_left xs ys 0 i (omega arith)) ∙ e);
    here = λ pos. let w = old.within in ap bucket (sym (get_or_append_left xs ys 0 (l - 1) (omega arith))) ∙ old.here pos;
  }

  -- a number of another bucket comes or goes
  link-more : (xs : List ℕ) (n b l : ℕ) → bucket n ≢ b → IsLink bucket xs b (length xs) l → IsLink bucket (xs ++ n ∷ []) b (length xs + 1) l
  link-more xs n b l apart old =
      let w = old.within in
      let kept = link-keep xs (n ∷ []) b (length xs) l (omega arith) old in
      record {
        within = omega arith;
        last = λ i low high. elim (which i (length xs)) [
          | inl same ↦ λ e. apart (ap bucket (sym (get_or_push xs n 0 i (sym same))) ∙ e)
          | inr different ↦ kept.last i low (omega arith)
        ];
        here = kept.here;
      }

  link-fewer : (xs : List ℕ) (n b l : ℕ) → bucket n ≢ b → IsLink bucket (xs ++ n ∷ []) b (length xs + 1) l → IsLink bucket xs b (length xs) l
  link-fewer xs n b l apart old =
      let w = old.within in
      let bound : l ≤ length xs = elim (which l (length xs + 1)) [
        | inl same ↦
            let at : l - 1 ≡ length xs = omega arith in
            absurd (apart (ap bucket (sym (get_or_push xs n 0 (l - 1) (sym at))) ∙ old.here (omega arith)))
        | inr different ↦ omega arith
      ] in
      link-cut xs (n ∷ []) b (length xs) l (omega arith) (record {
        within = bound;
        last = λ i low high. old.last i low (omega arith);
        here = old.here;
      })

  -- the newest number is the last of its bucket
  link-new : (xs : List ℕ) (n : ℕ) → IsLink bucket (xs ++ n ∷ []) (bucket n) (length xs + 1) (length xs + 1)
  link-new xs n = record {
    within = omega arith;
    last = λ i low high. absurd (omega arith);
    here = λ pos. ap bucket (get_or_push xs n 0 (length xs + 1 - 1) (omega arith));
  }

  module _ (xs : List ℕ) (n : ℕ) where
    pub different-more : AreDifferent xs → ((i : ℕ) → i < length xs → get_or xs i 0 ≢ n) → AreDifferent (xs ++ n ∷ [])
    different-more old fresh i j hi hj e =
        let len = length_push xs n in
        elim (which i (length xs)) [
          | inl i_last ↦ elim (which j (length xs)) [
            | inl j_last ↦ i_last ∙ sym j_last
            | inr j_below ↦ absurd (fresh j (omega arith) (sym (get_or_append_left xs (n ∷ []) 0 j (omega arith)) ∙ sym e ∙ get_or_push xs n 0 i (sym i_last)))
          ]
          | inr i_below ↦ elim (which j (length xs)) [
            | inl j_last ↦ absurd (fresh i (omega arith) (sym (get_or_append_left xs (n ∷ []) 0 i (omega arith)) ∙ e ∙ get_or_push xs n 0 j (sym j_last)))
            | inr j_below ↦ old i j (omega arith) (omega arith) (sym (get_or_append_left xs (n ∷ []) 0 i (omega arith)) ∙ e ∙ get_or_append_left xs (n ∷ []) 0 j (omega arith))
          ]
        ]

    different-fewer : AreDifferent (xs ++ n ∷ []) → AreDifferent xs
    different-fewer old i j hi hj e =
        let len = length_push xs n in
        old i j (omega arith) (omega arith) (get_or_append_left xs (n ∷ []) 0 i hi ∙ e ∙ sym (get_or_append_left xs (n ∷ []) 0 j hj))

  pub chained-empty : (k : ℕ) → IsChained bucket [] [] (replicate k 0)
  chained-empty k = record {
    same = refl;
    head = λ b h.
        let at = get_or-replicate k b 0 0 (subst (λ (n : ℕ). b < n) (length-replicate k 0) h) in
        subst (λ (l : ℕ). IsLink bucket [] b 0 l) (sym at) (record {
          within = omega arith;
          last = λ i low high. absurd (omega arith);
          here = λ pos. absurd (omega arith);
        });
    link = λ i h. absurd (omega arith);
    differ = λ i j h. absurd (omega arith);
  }

  pub chained-push : (xs links heads : List ℕ) (n : ℕ) → IsChained bucket xs links heads → bucket n < length heads → ((i : ℕ) → i < length xs → get_or xs i 0 ≢ n) → IsChained bucket (xs ++ n ∷ []) (links ++ get_or heads (bucket n) 0 ∷ []) (set heads (bucket n) (length xs + 1))
  chained-push xs links heads n old within fresh =
      let len = length_push xs n in
      let len_links = length_push links (get_or heads (bucket n) 0) in
      let same = old.same in
      record {
        same = omega arith;
        head = λ b h.
            let inside : b < length heads = subst (λ (k : ℕ). b < k) (length-set heads (bucket n) (length xs + 1)) h in
            subst (λ (k : ℕ). IsLink bucket (xs ++ n ∷ []) b k (get_or (set heads (bucket n) (length xs + 1)) b 0)) (sym len)
            (elim (which b (bucket n)) [
              | inl here ↦
                  subst (λ (c : ℕ). IsLink bucket (xs ++ n ∷ []) c (length xs + 1) (get_or (set heads (bucket n) (length xs + 1)) c 0)) (sym here)
                  (subst (λ (l : ℕ). IsLink bucket (xs ++ n ∷ []) (bucket n) (length xs + 1) l) (sym (get_or-set_same heads (bucket n) (length xs + 1) 0 within)) (link-new xs n))
              | inr other ↦
                  subst (λ (l : ℕ). IsLink bucket (xs ++ n ∷ []) b (length xs + 1) l) (sym (get_or-set_other heads (bucket n) b (length xs + 1) 0 other))
                  (link-more xs n b (get_or heads b 0) (λ e. other (sym e)) (old.head b inside))
            ]);
        link = λ i h. elim (which i (length xs)) [
          | inl newest ↦
              subst (λ (k : ℕ). IsLink bucket (xs ++ n ∷ []) (bucket (get_or (xs ++ n ∷ []) k 0)) k (get_or (links ++ get_or heads (bucket n) 0 ∷ []) k 0)) (sym newest)
              (subst (λ (l : ℕ). IsLink bucket (xs ++ n ∷ []) (bucket (get_or (xs ++ n ∷ []) (length xs) 0)) (length xs) l) (sym (get_or_push links (get_or heads (bucket n) 0) 0 (length xs) same))
              (subst (λ (m : ℕ). IsLink bucket (xs ++ n ∷ []) (bucket m) (length xs) (get_or heads (bucket n) 0)) (sym (get_or_push xs n 0 (length xs) refl))
              (link-keep xs (n ∷ []) (bucket n) (length xs) (get_or heads (bucket n) 0) (omega arith) (old.head (bucket n) within))))
          | inr older ↦
              let below : i < length xs = omega arith in
              subst (λ (l : ℕ). IsLink bucket (xs ++ n ∷ []) (bucket (get_or (xs ++ n ∷ []) i 0)) i l) (sym (get_or_append_left links (get_or heads (bucket n) 0 ∷ []) 0 i (omega arith)))
              (subst (λ (m : ℕ). IsLink bucket (xs ++ n ∷ []) (bucket m) i (get_or links i 0)) (sym (get_or_append_left xs (n ∷ []) 0 i below))
              (link-keep xs (n ∷ []) (bucket (get_or xs i 0)) i (get_or links i 0) (omega arith) (old.link i below)))
        ];
        differ = different-more xs n old.differ fresh;
      }

  pub chained-pop : (xs links heads : List ℕ) (n l : ℕ) → IsChained bucket (xs ++ n ∷ []) (links ++ l ∷ []) heads → bucket n < length heads → IsChained bucket xs links (set heads (bucket n) l)
  chained-pop xs links heads n l old within =
      let len = length_push xs n in
      let len_links = length_push links l in
      let same = old.same in
      let even : length links ≡ length xs = omega arith in
      record {
        same = even;
        head = λ b h.
            let inside : b < length heads = subst (λ (k : ℕ). b < k) (length-set heads (bucket n) l) h in
            elim (which b (bucket n)) [
              | inl here ↦
                  let linked : IsLink bucket (xs ++ n ∷ []) (bucket n) (length xs) l =
                  subst (λ (m : ℕ). IsLink bucket (xs ++ n ∷ []) (bucket m) (length xs) l) (get_or_push xs n 0 (length xs) refl)
                  (subst (λ (k : ℕ). IsLink bucket (xs ++ n ∷ []) (bucket (get_or (xs ++ n ∷ []) (length xs) 0)) (length xs) k) (get_or_push links l 0 (length xs) even)
                  (old.link (length xs) (omega arith))) in
                  subst (λ (c : ℕ). IsLink bucket xs c (length xs) (get_or (set heads (bucket n) l) c 0)) (sym here)
                  (subst (λ (k : ℕ). IsLink bucket xs (bucket n) (length xs) k) (sym (get_or-set_same heads (bucket n) l 0 within))
                  (link-cut xs (n ∷ []) (bucket n) (length xs) l (omega arith) linked))
              | inr other ↦
                  subst (λ (k : ℕ). IsLink bucket xs b (length xs) k) (sym (get_or-set_other heads (bucket n) b l 0 other))
                  (link-fewer xs n b (get_or heads b 0) (λ e. other (sym e)) (subst (λ (k : ℕ). IsLink bucket (xs ++ n ∷ []) b k (get_or heads b 0)) len (old.head b inside)))
            ];
        link = λ i h.
            link-cut xs (n ∷ []) (bucket (get_or xs i 0)) i (get_or links i 0) (omega arith)
            (subst (λ (m : ℕ). IsLink bucket (xs ++ n ∷ []) (bucket m) i (get_or links i 0)) (get_or_append_left xs (n ∷ []) 0 i h)
            (subst (λ (k : ℕ). IsLink bucket (xs ++ n ∷ []) (bucket (get_or (xs ++ n ∷ []) i 0)) i k) (get_or_append_left links (l ∷ []) 0 i (omega arith))
            (old.link i (omega arith))));
        differ = different-fewer xs n old.differ;
      }

  -- how far a search for a number has come: no number from the link's place on is this one, and the link is one of its bucket
  pub record IsSearched (numbers : List ℕ) (n link : ℕ) : Type 0 where
    pub within : link ≤ length numbers
    pub passed : (i : ℕ) → link ≤ i → i < length numbers → get_or numbers i 0 ≢ n
    pub here : 0 < link → bucket (get_or numbers (link - 1) 0) ≡ bucket n

  pub search-init : (numbers links heads : List ℕ) (n : ℕ) → IsChained bucket numbers links heads → bucket n < length heads → IsSearched numbers n (get_or heads (bucket n) 0)
  search-init numbers links heads n chained within =
      let head = chained.head (bucket n) within in
      record {
        within = head.within;
        passed = λ i low high e. head.last i low high (ap bucket e);
        here = head.here;
      }

  pub search-step : (numbers links heads : List ℕ) (n link : ℕ) → IsChained bucket numbers links heads → IsSearched numbers n link → 0 < link → get_or numbers (link - 1) 0 ≢ n → IsSearched numbers n (get_or links (link - 1) 0)
  search-step numbers links heads n link chained so_far positive missed =
      let within = so_far.within in
      let next = chained.link (link - 1) (omega arith) in
      let lower = next.within in
      record {
        within = omega arith;
        passed = λ i low high. elim (which i (link - 1)) [
          | inl at ↦ λ e. missed (subst (λ (k : ℕ). get_or numbers k 0 ≡ n) at e)
          | inr apart ↦ elim (cases_lt i link) [
            | inl below ↦ λ e. next.last i low (omega arith) (ap bucket e ∙ sym (so_far.here positive))
            | inr above ↦ so_far.passed i above high
          ]
        ];
        here = λ pos. next.here pos ∙ so_far.here positive;
      }

-- one number comes
pub pushed_chain : (xs links heads more more_links : List ℕ) (n h l top : ℕ) → IsChained (bucket_of (length heads)) xs links heads → h ≡ bucket_of (length heads) n → h < length heads → ((i : ℕ) → i < length xs → get_or xs i 0 ≢ n) → l ≡ get_or heads h 0 → more ≡ xs ++ n ∷ [] → more_links ≡ links ++ l ∷ [] → top ≡ length xs + 1 → IsChained (bucket_of (length (set heads h top))) more more_links (set heads h top)
pushed_chain xs links heads more more_links n h l top old at within fresh is_l is_more is_links is_top =
    subst (λ (k : ℕ). IsChained (bucket_of k) more more_links (set heads h top)) (sym (length-set heads h top))
    (rw (is_more, is_links, is_l, is_top, at) (chained-push (bucket_of (length heads)) xs links heads n old (subst (λ (k : ℕ). k < length heads) at within) fresh))

-- one number goes
pub popped_chain : (xs links heads old_xs old_links : List ℕ) (n h l : ℕ) → IsChained (bucket_of (length heads)) old_xs old_links heads → h ≡ bucket_of (length heads) n → h < length heads → old_xs ≡ xs ++ n ∷ [] → old_links ≡ links ++ l ∷ [] → IsChained (bucket_of (length (set heads h l))) xs links (set heads h l)
popped_chain xs links heads old_xs old_links n h l old at within is_xs is_links =
    subst (λ (k : ℕ). IsChained (bucket_of k) xs links (set heads h l)) (sym (length-set heads h l))
    (rw at (chained-pop (bucket_of (length heads)) xs links heads n l
    (subst (λ (ls : List ℕ). IsChained (bucket_of (length heads)) (xs ++ n ∷ []) ls heads) is_links (subst (λ (ys : List ℕ). IsChained (bucket_of (length heads)) ys old_links heads) is_xs old))
    (subst (λ (k : ℕ). k < length heads) at within)))

-- a push that has room
pub has_pushed : {X E : Type 0} (r : Result (Unit {0}) E) (xs ys : List X) (y : X) (cap len : ℕ) → ys ≡ cond (is_ok r) (xs ++ y ∷ []) xs → OnErr r (cap ≤ len) → len < cap → ys ≡ xs ++ y ∷ []
has_pushed (Ok u) xs ys y cap len e full room = e
has_pushed (Err x) xs ys y cap len e full room = absurd (omega (arith, full))
