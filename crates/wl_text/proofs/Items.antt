-- The bytes between quotes or brackets, one after another.
use Rattle.std.proofs.Common.{◌≡◌, ℕ, zero, suc, ◌<◌, List, [], ◌∷◌, ◌++◌, Some, None, option_map, refl, sym, ap, ◌∙◌, arith, append-nil, append_assoc}
use Rattle.wl_text.specs.declared.enclosed.Enclosure.{Enclosure}
use Rattle.wl_text.specs.Front.{Read, behind}
use Rattle.wl_text.specs.Enclosed.{closing, with_byte, item_at, items_within}

-- bytes before those that follow
abbrev pub with_front : List ℕ → Read (List ℕ) → Read (List ℕ)
with_front front more = option_map (λ it. (front ++ it.0, it.1)) more

pub with_front_nil : (more : Read (List ℕ)) → with_front [] more ≡ more
with_front_nil (Some it) = refl
with_front_nil None = refl

pub with_front_byte : (front : List ℕ) (byte : ℕ) (more : Read (List ℕ)) → with_front front (with_byte byte more) ≡ with_front (front ++ byte ∷ []) more
with_front_byte front byte (Some it) = ap (λ bytes. Some (bytes, it.1)) (sym (append_assoc front (byte ∷ []) it.0))
with_front_byte front byte None = refl

-- so much is left of a text of which these bytes were read
module _ (kind : Enclosure) (whole : Read (List ℕ)) (bytes : List ℕ) where
  pub items_closed : (left : ℕ) (text after : List ℕ) → 0 < left → whole ≡ with_front bytes (items_within kind left text) → Some after ≡ behind (closing kind ∷ []) text → whole ≡ Some (bytes, after)
  unfolding items_within
  items_closed zero text after some so_far closed = absurd (omega arith)
  items_closed (suc most) text after some so_far closed = so_far ∙ rw (← closed, append-nil)

  pub items_none : (left : ℕ) (text : List ℕ) → 0 < left → whole ≡ with_front bytes (items_within kind left text) → None ≡ behind (closing kind ∷ []) text → None ≡ item_at kind text → whole ≡ None
  unfolding items_within
  items_none zero text some so_far not_closed none = absurd (omega arith)
  items_none (suc most) text some so_far not_closed none = so_far ∙ rw (← not_closed, ← none)

  pub items_more : (left : ℕ) (text after : List ℕ) (byte : ℕ) → whole ≡ with_front bytes (items_within kind (suc left) text) → None ≡ behind (closing kind ∷ []) text → Some (byte, after) ≡ item_at kind text → whole ≡ with_front (bytes ++ byte ∷ []) (items_within kind left after)
  unfolding items_within
  items_more left text after byte so_far not_closed one = so_far ∙ rw (← not_closed, ← one) (with_front_byte bytes byte (items_within kind left after))

  pub items_spent : (text : List ℕ) → whole ≡ with_front bytes (items_within kind 0 text) → whole ≡ None
  unfolding items_within
  items_spent text so_far = so_far
