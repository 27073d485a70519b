-- What it comes to that a side takes from its peer's wire: an item that leaves the wire is the one that a run cuts off it.
use Rattle.std.proofs.Common.{◌≡◌, ℕ, zero, suc, ◌+◌, ◌-◌, ◌<◌, ◌≤◌, List, [], ◌∷◌, ◌++◌, take, drop, length, min, false, Option, Some, None, refl, sym, ap, subst, ◌∙◌, arith, length-take-le, length-drop, inl, inr, ◌⊎◌}
use Rattle.std.proofs.lemmas.List.{take_min, drop_min}
use Rattle.std.proofs.lemmas.List.Sums.{sum_by-cons}
use Rattle.std.specs.List.{AllByRecursion}
use Rattle.half_model.specs.declared.items.PeerIn.{PeerIn}
use Rattle.half_model.specs.declared.items.PeerIn.TheVariants as items
use Rattle.pair_runs.specs.Measure.{item_left, wire_left}
use Rattle.pair_runs.specs.Sides.{fed}
use Rattle.pair_runs.specs.Taking.{Cut, behind, piece_size, cut_item, Taker, TakesIn, TakesAll}
use Rattle.pair_runs.specs.Working.{Works, WorksInPart}
use Rattle.receipt_laws.specs.Owning.{Ownership, PutIsOwn}
use Rattle.script_peers.specs.Wires.{Left, piece_of, leaving, next_of, cost_of, IsWithin}
use Rattle.script_peers.specs.declared.item_queue.TheConstants.{LARGEST_PIECE}
use Rattle.script_peers.specs.declared.item_queue.WireItem.{WireItem}
use Rattle.script_sides.specs.Takings.{TakesOne, TakesNothing}
use Rattle.side_model.specs.declared.fault.ProxyFault.{ProxyFault}
use Rattle.side_model.specs.Sound.{MOST_PIECE}
use Rattle.side_model.specs.Sound as sound

-- ---- one item

behind_is : (bytes : List ℕ) (rest : List PeerIn) → piece_of bytes ++ rest ≡ behind bytes rest
behind_is [] rest = refl
behind_is (byte ∷ bytes) rest = refl

-- what leaves is what is cut off
pub record IsCut (most : ℕ) (whole : PeerIn) (wire : List PeerIn) : Type 0 where
  pub item : (leaving (min most LARGEST_PIECE) whole wire).item ≡ (cut_item most whole wire).item
  pub rest : (leaving (min most LARGEST_PIECE) whole wire).rest ≡ (cut_item most whole wire).rest
  pub cost : cost_of (cut_item most whole wire).item ≡ (cut_item most whole wire).cost

size_is : (most : ℕ) (bytes : List ℕ) → piece_size most bytes ≡ min (min most LARGEST_PIECE) (length bytes)
size_is most bytes = omega arith

pub is_cut : (most : ℕ) (item : PeerIn) (rest : List PeerIn) → IsCut most item rest
is_cut most (items.Bytes bytes) rest =
    let size : piece_size most bytes ≡ min (min most LARGEST_PIECE) (length bytes) = size_is most bytes in
    record {
      item = ap (λ (piece : List ℕ). items.Bytes piece) (sym (ap (λ (n : ℕ). take n bytes) size ∙ take_min (min most LARGEST_PIECE) bytes));
      rest =
          behind_is (drop (min most LARGEST_PIECE) bytes) rest
          ∙ ap (λ (piece : List ℕ). behind piece rest) (sym (ap (λ (n : ℕ). drop n bytes) size ∙ drop_min (min most LARGEST_PIECE) bytes));
      cost = length-take-le (piece_size most bytes) bytes (omega arith);
    }
is_cut most (items.Handle handle) rest = record { item = refl; rest = refl; cost = refl }
is_cut most (items.Note note) rest = record { item = refl; rest = refl; cost = refl }
is_cut most (items.Pipe item) rest = record { item = refl; rest = refl; cost = refl }

-- an item that left a wire
pub record Off (most : ℕ) (old new : List PeerIn) (it : WireItem) : Type 0 where
  pub some : 0 < most
  pub item : PeerIn
  pub rest : List PeerIn
  pub front : old ≡ item ∷ rest
  pub is : it.item ≡ (cut_item most item rest).item
  pub cost : it.cost ≡ (cut_item most item rest).cost
  pub wire : new ≡ (cut_item most item rest).rest

pub off : (most : ℕ) (old new : List PeerIn) (it : WireItem) → it.cost ≡ cost_of it.item → next_of most old ≡ Some (record { item = it.item; rest = new }) → Off most old new it
off zero old new it cost e = absurd cc
off (suc most) [] new it cost e = absurd cc
off (suc most) (item ∷ rest) new it cost e =
    let cut : IsCut (suc most) item rest = is_cut (suc most) item rest in
    let left : leaving (min (suc most) LARGEST_PIECE) item rest ≡ record { item = it.item; rest = new } = cc in
    let is : it.item ≡ (cut_item (suc most) item rest).item = sym (ap (λ (l : Left). l.item) left) ∙ cut.item in
    record {
      some = omega arith;
      item = item;
      rest = rest;
      front = refl;
      is = is;
      cost = cost ∙ ap cost_of is ∙ cut.cost;
      wire = sym (ap (λ (l : Left). l.rest) left) ∙ cut.rest;
    }

pub none_off : (most : ℕ) (wire : List PeerIn) → next_of most wire ≡ None → (most ≡ 0) ⊎ (wire ≡ [])
none_off zero wire e = inl refl
none_off (suc most) [] e = inr refl
none_off (suc most) (item ∷ rest) e = absurd cc

-- what leaves may be fed
pub is_item : (most : ℕ) (item : PeerIn) → IsWithin (min most LARGEST_PIECE) item → sound.IsItem item
is_item most (items.Bytes bytes) h = (h.0, omega (arith, h.1))
is_item most (items.Handle handle) h = tt
is_item most (items.Note note) h = tt
is_item most (items.Pipe item) h = h

-- ---- what is own on the wire

module _ (Own : Ownership) where
  behind_own : (bytes : List ℕ) (rest : List PeerIn) → AllByRecursion (PutIsOwn Own) rest → AllByRecursion (PutIsOwn Own) (behind bytes rest)
  behind_own [] rest h = h
  behind_own (byte ∷ bytes) rest h = (tt, h)

  pub cut_own : (most : ℕ) (item : PeerIn) (rest : List PeerIn) → AllByRecursion (PutIsOwn Own) (item ∷ rest) → PutIsOwn Own (cut_item most item rest).item × AllByRecursion (PutIsOwn Own) (cut_item most item rest).rest
  cut_own most (items.Bytes bytes) rest h = (tt, behind_own (drop (piece_size most bytes) bytes) rest h.1)
  cut_own most (items.Handle handle) rest h = (tt, h.1)
  cut_own most (items.Note note) rest h = (h.0, h.1)
  cut_own most (items.Pipe item) rest h = (tt, h.1)

  pub off_own : (most : ℕ) (old new : List PeerIn) (it : WireItem) → Off most old new it → AllByRecursion (PutIsOwn Own) old → PutIsOwn Own it.item × AllByRecursion (PutIsOwn Own) new
  off_own most old new it o h =
      let both = cut_own most o.item o.rest (subst (AllByRecursion (PutIsOwn Own)) o.front h) in
      (subst (PutIsOwn Own) (sym o.is) both.0, subst (AllByRecursion (PutIsOwn Own)) (sym o.wire) both.1)

-- ---- what is left on it

behind_left : (bytes : List ℕ) (wire : List PeerIn) → wire_left (behind bytes wire) ≤ 1 + length bytes + wire_left wire
behind_left [] wire = omega arith
behind_left (byte ∷ bytes) wire = omega (arith, sum_by-cons item_left (items.Bytes (byte ∷ bytes)) wire)

behind_none : (bytes : List ℕ) (wire : List PeerIn) → length bytes ≤ 0 → wire_left (behind bytes wire) ≤ wire_left wire
behind_none [] wire d = omega arith
behind_none (byte ∷ bytes) wire d = absurd (omega (arith, d))

-- bytes left over are fewer, where some may be taken
pub cut_left : (most : ℕ) (item : PeerIn) (wire : List PeerIn) → 0 < most → wire_left (cut_item most item wire).rest < wire_left (item ∷ wire)
cut_left most (items.Bytes []) wire l =
    omega (arith, sum_by-cons item_left (items.Bytes []) wire, behind_none (drop (piece_size most []) []) wire (omega (arith, length-drop (piece_size most []) (none ℕ))))
  where
    none : (X : Type 0) → List X
    none X = []
cut_left most (items.Bytes (byte ∷ bytes)) wire l =
    omega (arith, sum_by-cons item_left (items.Bytes (byte ∷ bytes)) wire, behind_left (drop (piece_size most (byte ∷ bytes)) (byte ∷ bytes)) wire, length-drop (piece_size most (byte ∷ bytes)) (byte ∷ bytes), l)
cut_left most (items.Handle handle) wire l = omega (arith, sum_by-cons item_left (items.Handle handle) wire)
cut_left most (items.Note note) wire l = omega (arith, sum_by-cons item_left (items.Note note) wire)
cut_left most (items.Pipe item) wire l = omega (arith, sum_by-cons item_left (items.Pipe item) wire)

-- ---- one after another

-- what is taken from here on is taken from there on
abbrev pub Onward : ℕ → Taker → ℕ → Taker → Type 0
Onward most a left b = (c : Taker) (stop : Option ProxyFault) → TakesAll left b c stop → TakesAll most a c stop

pub one_more : (most : ℕ) (a b c : Taker) (stop : Option ProxyFault) (cost : ℕ) → TakesOne most a b (λ it. (cost ≡ it.cost) × Works false (fed it.item a.side) b.side) → TakesAll (most - cost) b c stop → TakesAll most a c stop
one_more most a b c stop cost one all =
    let it : Cut = cut_item most one.item one.rest in
    let row : TakesIn all.count (most - it.cost) b.side it.rest c stop =
    subst (λ (wire : List PeerIn). TakesIn all.count (most - it.cost) b.side wire c stop) one.wire
    (subst (λ (n : ℕ). TakesIn all.count (most - n) b.side b.wire c stop) one.behind.0 all.row) in
    record {
      count = suc all.count;
      row =
          subst (λ (wire : List PeerIn). TakesIn (suc all.count) most a.side wire c stop) (sym one.front)
          (one.some, one.wants, inr (record { mid = b.side; works = one.behind.1; more = row }));
    }

pub one_fails : (most : ℕ) (a b : Taker) (fault : ProxyFault) → TakesOne most a b (λ it. WorksInPart false (Some it.item) fault (fed it.item a.side) b.side) → TakesAll most a b (Some fault)
one_fails most a b fault one = record {
  count = 1;
  row =
      subst (λ (wire : List PeerIn). TakesIn 1 most a.side wire b (Some fault)) (sym one.front)
      (one.some, one.wants, inl (record { fault = fault; stops = refl; part = one.behind; wire = one.wire }));
}

pub none_more : (most : ℕ) (a b : Taker) → TakesNothing most a b → TakesAll most a b None
none_more most a b none = record { count = 0; row = (none.same, refl, none.none) }

-- less is left on the wire
pub one_less : (most : ℕ) (a b : Taker) (Behind : Cut → Type 0) → TakesOne most a b Behind → wire_left b.wire < wire_left a.wire
one_less most a b Behind one = omega (arith, ap wire_left one.front, ap wire_left one.wire, cut_left most one.item one.rest one.some)
