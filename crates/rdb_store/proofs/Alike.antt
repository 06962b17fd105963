-- Classes whose indexes are alike hold the same.
use Rattle.std.proofs.Common.{◌≡◌, ◌<◌, ℕ, List, [], ◌∷◌, Option, inl, inr, sym, ap, subst, ◌∙◌}
use Rattle.rdb_schema.specs.declared.types.ValueType.{ValueType}
use Rattle.rdb_cells.specs.Images.{Image}
use Rattle.rdb_sight.specs.Versions.{Version, Object, chain_of}
use Rattle.rdb_store.specs.Classes.{ClassNature, KeyedNature, IsHeadOf, IsLawful, AreLawful, head_at}
use Rattle.rdb_store.specs.Holds.{Agrees, IsPart, Holds}
use Rattle.rdb_store.specs.Layouts.{Part, Slots, OfVersion, OfIndex, Layout}
use Rattle.rdb_store.specs.Stored.{AreStored}

-- a class with so many indexes
abbrev pub with_indexes : ℕ → List ValueType → ℕ → (ℕ → KeyedNature) → ClassNature
with_indexes number types count at = record { number = number; types = types; count = count; at = at }

module _ (number : ℕ) (types : List ValueType) (count : ℕ) (at other : ℕ → KeyedNature) (same : (place : ℕ) → place < count → at place ≡ other place) where
  head_back : (n : ℕ) → IsHeadOf (with_indexes number types count other) n → IsHeadOf (with_indexes number types count at) n
  head_back n is = elim is [
    | inl own ↦ inl own
    | inr index ↦ inr (index.0, index.1, index.2 ∙ ap (λ (k : KeyedNature). k.index.head) (sym (same index.0 index.1)))
  ]

  head_same : (place : ℕ) → place < count → head_at (with_indexes number types count at) place ≡ head_at (with_indexes number types count other) place
  head_same place below = ap (λ (k : KeyedNature). k.index.head) (same place below)

  part_back : (objects : List Object) (p : Part) → IsPart (with_indexes number types count other) objects p → IsPart (with_indexes number types count at) objects p
  part_back objects Slots is = tt
  part_back objects (OfVersion header) is = is
  part_back objects (OfIndex place) is = is

  part_on : (objects : List Object) (p : Part) → IsPart (with_indexes number types count at) objects p → IsPart (with_indexes number types count other) objects p
  part_on objects Slots is = tt
  part_on objects (OfVersion header) is = is
  part_on objects (OfIndex place) is = is

  stored_on : (image : Image) (layout : Layout) (id : ℕ) (chain : List Version) → AreStored (with_indexes number types count at) image layout id chain → AreStored (with_indexes number types count other) image layout id chain
  stored_on image layout id [] are = tt
  stored_on image layout id (v ∷ vs) are = (record { stands = are.0.stands; row = are.0.row }, stored_on image layout id vs are.1)

  pub holds_alike : (image : Image) (class_of : ℕ → Option ℕ) (objects : List Object) → Holds (with_indexes number types count at) image class_of objects → Holds (with_indexes number types count other) image class_of objects
  holds_alike image class_of objects holds = (
    holds.0,
    record {
      ascending = holds.1.ascending;
      slots = holds.1.slots;
      chains = λ id. stored_on image holds.0 id (chain_of objects id) (holds.1.chains id);
      indexes = λ place below. subst (λ (k : KeyedNature). Agrees k.index k.keys image objects (holds.0.of_index place)) (same place below) (holds.1.indexes place below);
      serials = holds.1.serials;
      account = record {
        heads = λ n is. holds.1.account.heads n (head_back n is);
        apart = λ p q is too. holds.1.account.apart p q (part_back objects p is) (part_back objects q too);
        paged = λ n part. holds.1.account.paged n (record { part = part.part; is_part = part_back objects part.part part.is_part; within = part.within });
        rest = λ n page of. elim (holds.1.account.rest n page of) [
          | inl zero ↦ inl zero
          | inr part ↦ inr (record { part = part.part; is_part = part_on objects part.part part.is_part; within = part.within })
        ];
      };
    },
  )

  pub lawful_alike : AreLawful (with_indexes number types count at) → AreLawful (with_indexes number types count other)
  lawful_alike lawful = record {
    each = λ place below. subst (IsLawful number types) (same place below) (lawful.each place below);
    heads = λ n is. lawful.heads n (head_back n is);
    apart = λ place beside below above differ e. lawful.apart place beside below above differ (head_same place below ∙ e ∙ sym (head_same beside above));
    from_class = λ place below e. lawful.from_class place below (head_same place below ∙ e);
  }
