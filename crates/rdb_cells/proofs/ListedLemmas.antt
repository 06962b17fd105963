-- Lists of versions: one more, one less, another order.
use Rattle.std.proofs.Common.{◌≡◌, ◌≢◌, ◌<◌, ◌+◌, ◌⊎◌, ◌==◌, zero, suc, ℕ, List, [], ◌∷◌, IsSome, Bool, cond, inl, inr, refl, sym, ap, subst, ◌∙◌, zero-lt-suc, suc-le-suc, arith, eq-eqb}
use Rattle.std.proofs.lemmas.Bool.{ne_eqb}
use Rattle.std.proofs.lemmas.List.Sums.{sum_by-cons}
use Rattle.std.proofs.lemmas.List.Sorted.{IsPermutation-sym, Contains-permutation, sum_by-IsPermutation}
use Rattle.std.proofs.Permutation.{which}
use Rattle.std.specs.List.{Contains}
use Rattle.std.specs.Prelude.{IsPermutation}
use Rattle.rdb_pages.specs.declared.cell.CellRef.{CellRef}
use Rattle.rdb_cells.specs.Keys.{Sayings, AreTwins, IsUnlisted, times_listed, ListsVersions}

pub contains_first : (x : CellRef) (xs : List CellRef) → Contains (x ∷ xs) x
contains_first x xs = (0, zero-lt-suc _, refl)

pub contains_later : (x r : CellRef) (xs : List CellRef) → Contains xs r → Contains (x ∷ xs) r
contains_later x r xs within = (suc within.0, suc-le-suc within.1, within.2)

pub contains_either : (x : CellRef) (xs : List CellRef) (r : CellRef) → Contains (x ∷ xs) r → (x ≡ r) ⊎ Contains xs r
contains_either x xs r (zero, below, is) = inl is
contains_either x xs r (suc k, below, is) = inr (k, omega arith, is)

same_ref : (q r : CellRef) → q.number ≡ r.number → q ≡ r
same_ref q r same = ap (λ (n : ℕ). record { number = n }) same

one_more : (q r : CellRef) (rs : List CellRef) → q.number ≡ r.number → times_listed (q ∷ rs) r ≡ suc (times_listed rs r)
one_more q r rs same =
    sum_by-cons (λ (x : CellRef). cond (x.number == r.number) 1 0) q rs
    ∙ ap (λ (b : Bool). cond b 1 0 + times_listed rs r) (eq-eqb q.number r.number same)
    ∙ omega arith

as_often : (q r : CellRef) (rs : List CellRef) → q.number ≢ r.number → times_listed (q ∷ rs) r ≡ times_listed rs r
as_often q r rs apart =
    sum_by-cons (λ (x : CellRef). cond (x.number == r.number) 1 0) q rs
    ∙ ap (λ (b : Bool). cond b 1 0 + times_listed rs r) (ne_eqb q.number r.number apart)
    ∙ omega arith

never_listed : (r : CellRef) (rs : List CellRef) → (¬ Contains rs r) → times_listed rs r ≡ 0
never_listed r [] without = refl
never_listed r (q ∷ rs) without = elim (which q.number r.number) [
  | inl same ↦ absurd (without (subst (λ (x : CellRef). Contains (q ∷ rs) x) (same_ref q r same) (contains_first q rs)))
  | inr apart ↦ as_often q r rs apart ∙ never_listed r rs (λ within. without (contains_later q r rs within))
]

at_least_once : (r : CellRef) (rs : List CellRef) → Contains rs r → 0 < times_listed rs r
at_least_once r [] within = let below = within.1 in absurd (omega arith)
at_least_once r (q ∷ rs) within = elim (which q.number r.number) [
  | inl same ↦ (let more = one_more q r rs same in omega arith)
  | inr apart ↦ elim (contains_either q rs r within) [
    | inl same ↦ absurd (apart (ap (λ (x : CellRef). x.number) same))
    | inr later ↦ (let rest = at_least_once r rs later in let same = as_often q r rs apart in omega arith)
  ]
]

-- a version more
pub lists_more : (said : Sayings) (listed : List CellRef) (version : CellRef) → IsUnlisted said listed version → ListsVersions said listed → ListsVersions said (version ∷ listed)
lists_more said listed version unlisted lists = record {
  keyed = λ r within. elim (contains_either version listed r within) [
    | inl same ↦ subst (λ (x : CellRef). IsSome (said.version_of x.number)) same unlisted.keyed
    | inr later ↦ lists.keyed r later
  ];
  once = λ r within. elim (which version.number r.number) [
    | inl same ↦
        let none = never_listed r listed (λ later. unlisted.itself (subst (λ (x : CellRef). Contains listed x) (sym (same_ref version r same)) later)) in
        let more = one_more version r listed same in
        omega arith
    | inr apart ↦ as_often version r listed apart ∙ lists.once r (elim (contains_either version listed r within) [
      | inl same ↦ absurd (apart (ap (λ (x : CellRef). x.number) same))
      | inr later ↦ later
    ])
  ];
  differ = λ q r q_within r_within twins. elim (contains_either version listed q q_within) [
    | inl q_same ↦ elim (contains_either version listed r r_within) [
      | inl r_same ↦ sym q_same ∙ r_same
      | inr r_later ↦ absurd (unlisted.otherwise r r_later (subst (λ (x : CellRef). AreTwins said x r) (sym q_same) twins))
    ]
    | inr q_later ↦ elim (contains_either version listed r r_within) [
      | inl r_same ↦ absurd (unlisted.otherwise q q_later (turned version q (subst (λ (x : CellRef). AreTwins said q x) (sym r_same) twins)))
      | inr r_later ↦ lists.differ q r q_later r_later twins
    ]
  ];
}
  where
    turned : (x y : CellRef) → AreTwins said y x → AreTwins said x y
    turned x y twins = record {
      first = twins.second;
      second = twins.first;
      is_first = twins.is_second;
      is_second = twins.is_first;
      ids = sym twins.ids;
      serials = sym twins.serials;
    }

-- a version less
pub lists_less : (said : Sayings) (listed : List CellRef) (version : CellRef) → ListsVersions said (version ∷ listed) → ListsVersions said listed
lists_less said listed version lists = record {
  keyed = λ r within. lists.keyed r (contains_later version r listed within);
  once = λ r within.
      let all = lists.once r (contains_later version r listed within) in
      let least = at_least_once r listed within in
      elim (which version.number r.number) [
        | inl same ↦ (let more = one_more version r listed same in absurd (omega arith))
        | inr apart ↦ sym (as_often version r listed apart) ∙ all
      ];
  differ = λ q r q_within r_within. lists.differ q r (contains_later version q listed q_within) (contains_later version r listed r_within);
}

-- another order
pub lists_in_order : (said : Sayings) (listed now : List CellRef) → IsPermutation listed now → ListsVersions said listed → ListsVersions said now
lists_in_order said listed now order lists =
    let back : (r : CellRef) → Contains now r → Contains listed r = λ r within. Contains-permutation now listed r (IsPermutation-sym listed now order) within in
    record {
      keyed = λ r within. lists.keyed r (back r within);
      once = λ r within. sum_by-IsPermutation (λ (q : CellRef). cond (q.number == r.number) 1 0) listed now order ∙ lists.once r (back r within);
      differ = λ q r q_within r_within. lists.differ q r (back q q_within) (back r r_within);
    }
