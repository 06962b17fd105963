-- A page that is granted.
use Rattle.std.proofs.Common.{◌≡◌, ◌⊎◌, ◌-◌, ◌/◌, ℕ, zero, suc, List, Option, Some, None, IsSome, refl, ◌∙◌, arith, inl, inr}
use Rattle.std.proofs.lemmas.Bool.{false≢true}
use Rattle.std.proofs.Permutation.{which}
use Rattle.rdb_base.specs.declared.identity.Manager.{Manager}
use Rattle.rdb_schema.specs.declared.schema.Schema.{Schema}
use Rattle.rdb_pages.specs.Pages.{page_cells}
use Rattle.rdb_cells.specs.Images.{AreBounded}
use Rattle.rdb_registry.specs.Registry.{Roll}
use Rattle.rdb_sight.specs.Versions.{Versions}
use Rattle.rdb_space.specs.Memory.{RegionCells, image_of, class_of, IsInPage, GrantsPage}
use Rattle.rdb_writes.specs.Changes.{Grows}
use Rattle.rdb_steps.specs.Invariant.{IsKept}
use Rattle.rdb_steps.specs.Kept.{IsLawful}
use Rattle.rdb_steps.specs.Lists.{ComeZero}
use Rattle.rdb_steps.specs.States.{ground_in}
use Rattle.rdb_steps.proofs.GrantLemmas.{grown_lists}

no_some : {A : Type 0} (o : Option A) → o ≡ None → IsSome o → ⊥
no_some None e some = false≢true some
no_some (Some x) e some = absurd cc

module _ (before after : RegionCells) (roll : Roll) (class page : ℕ) (bounded : AreBounded (image_of before) (class_of before)) (grants : GrantsPage before after class page) where
  pub in_page_or_not : (n : ℕ) → IsInPage page n ⊎ (¬ IsInPage page n)
  in_page_or_not zero = inr (λ within. let some = within.0 in omega arith)
  in_page_or_not (suc n) = elim (which ((suc n - 1) / page_cells) page) [
    | inl same ↦ inl (omega arith, same)
    | inr other ↦ inr (λ within. other within.1)
  ]

  pub outside : (n : ℕ) → IsSome (class_of before n) → ¬ IsInPage page n
  outside n there within = no_some (image_of before n) (grants.was n within) (bounded.cells n there)

  pub page_grows : Grows (ground_in before roll) (ground_in after roll)
  page_grows = record {
    records = refl;
    image = λ n there. grants.cells n (outside n there);
    classes = λ n there. grants.classes n (outside n there);
  }

  pub page_zero : ComeZero (ground_in before roll) (ground_in after roll)
  page_zero n none some = elim (in_page_or_not n) [
    | inl within ↦ grants.zero n within
    | inr beside ↦ absurd (no_some (class_of after n) (grants.classes n beside ∙ none) some)
  ]

  -- and all is kept
  pub page_kept : (schema : Schema) (manager : Manager) (serials : ℕ) (ids : List ℕ) (settled aimed : Versions) → IsLawful schema →
      IsKept schema manager serials ids (ground_in before roll) settled aimed → IsKept schema manager serials ids (ground_in after roll) settled aimed
  page_kept schema manager serials ids settled aimed lawful kept = record {
    agrees = grown_lists schema manager (ground_in before roll) (ground_in after roll) lawful kept.agrees.works page_grows page_zero settled aimed kept.agrees;
    one_holder = kept.one_holder;
    single = kept.single;
    own = kept.own;
    plans = kept.plans;
    drops = kept.drops;
    rests = kept.rests;
    stamped = kept.stamped;
    stamped_aimed = kept.stamped_aimed;
    drawn = kept.drawn;
    drawn_aimed = kept.drawn_aimed;
  }
