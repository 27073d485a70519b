-- Moves that no run has.
use Rattle.std.proofs.Common.{◌≡◌, ◌≢◌, ℕ, zero, suc, ◌+◌, ◌-◌, ◌<◌, ◌≤◌, List, [], ◌∷◌, drop, length, true, false, is_none, ◌&&◌, Option, Some, None, refl, sym, ap, subst, ◌∙◌, arith, length-drop, inl, inr}
use Rattle.std.proofs.lemmas.List.{nil_from_length}
use Rattle.wp_outside.specs.declared.kinds.Direction.TheVariants.{Up}
use Rattle.wp_outside.specs.declared.kinds.Side.TheVariants.{Near}
use Rattle.half_model.specs.declared.items.PeerIn.{PeerIn}
use Rattle.half_model.specs.declared.items.PeerIn.TheVariants as items
use Rattle.pair_model.specs.Quiet.{NoFront}
use Rattle.side_model.specs.declared.fault.ProxyFault.{ProxyFault}
use Rattle.side_model.specs.Books.{weight}
use Rattle.pair_runs.specs.Linking.{new_line, Writes}
use Rattle.pair_runs.specs.Loading.{LoadsIn, Loads}
use Rattle.pair_runs.specs.Moves.{at_side, Taken, Loaded, LoadedThen, ConnectedBy, PushedOn, WritesBy}
use Rattle.pair_runs.specs.Sides.{SideState, TOKEN, rows_of, last_number, link_record, wants, words_left}
use Rattle.pair_runs.specs.States.{State, Lanes, connections}
use Rattle.pair_runs.specs.Taking.{Cut, cut_item, behind, piece_size, Taker, TakesIn, TakesAll}
use Rattle.pair_runs.specs.WrongRuns.{SkipsBreak, ConnectsAgain, SkipsNumber, PushesLess, TakesFree, LoadsWhole, LeavesWaiting, HoldsOutput, OwesLoaded}
use Rattle.pair_runs.proofs.Showing.{last_push}
use Rattle.pair_runs.proofs.Weights.{written_weighs}

pub skips_break : SkipsBreak
skips_break s t lanes m up = let down : t.line ≡ None = ap (λ (u : State). u.line) m.changes.0 in let never : None ≡ Some lanes = sym down ∙ up in cc

pub connects_again : ConnectsAgain
connects_again s t lanes up m other = other (go s.line up m.changes)
  where
    go : (line : Option Lanes) → line ≡ Some lanes → ConnectedBy (is_none line && true) s t None → t ≡ s
    go None e h = absurd cc
    go (Some it) e h = h.0

pub skips_number : SkipsNumber
skips_number s t none m other = other (go s.line none m.changes)
  where
    go : (line : Option Lanes) → line ≡ None → ConnectedBy (is_none line && true) s t None → last_number (rows_of t.near) ≡ suc (connections s)
    go None e h = ap (λ (u : State). last_number (rows_of u.near)) h.1 ∙ last_push (rows_of s.near) (new_line (suc (connections s)))
    go (Some it) e h = absurd cc

pub pushes_less : PushesLess
pushes_less most s t lanes up m some less = go s.line up m.changes
  where
    wrote : (bytes : List ℕ) (b : SideState) → t.near ≡ b → Writes most bytes s.near b → ⊥
    wrote bytes b is w = elim w.all [
      | inl all ↦ absurd (omega (arith, less, all, ap (λ (it : SideState). weight it.book.trail) is, ap (λ (it : SideState). weight it.book.trail) w.is, written_weighs bytes s.near w.up))
      | inr none ↦ some (subst (λ (it : SideState). NoFront TOKEN (last_number (rows_of it)) (link_record it)) (sym is) none)
    ]

    go : (line : Option Lanes) → line ≡ Some lanes → PushedOn line Up most s t None → ⊥
    go None e h = cc
    go (Some it) e (bytes, (b, (fault, writes, is, stop))) = by_fault fault writes stop
      where
        by_fault : (fault : Option ProxyFault) → WritesBy fault most bytes s.near b → None ≡ at_side Near fault → ⊥
        by_fault (Some fault) w d = cc
        by_fault None w d = wrote bytes b (ap (λ (u : State). u.near) is) w

-- of a piece that is taken whole nothing is left on the wire
taken_whole : (bytes : List ℕ) (more : List PeerIn) → length bytes ≤ 65536 → (cut_item (length bytes) (items.Bytes bytes) more).rest ≡ more
taken_whole bytes more l = go (drop (piece_size (length bytes) bytes) bytes) (nil_from_length (drop (piece_size (length bytes) bytes) bytes) (omega (arith, l, length-drop (piece_size (length bytes) bytes) bytes)))
  where
    go : (left : List ℕ) → left ≡ [] → behind left more ≡ more
    go [] e = refl
    go (byte ∷ left) e = absurd cc

takes_nothing : (count : ℕ) (a : SideState) (wire : List PeerIn) (b : Taker) → TakesIn count 0 a wire b None → b.wire ≡ wire
takes_nothing zero a wire b h = ap (λ (it : Taker). it.wire) h.0
takes_nothing (suc count) a [] b h = absurd h
takes_nothing (suc count) a (item ∷ wire) b h = absurd (omega (arith, h.0))

takes_piece : (count : ℕ) (bytes : List ℕ) (item : PeerIn) (wire : List PeerIn) (a : SideState) (b : Taker) → 0 < length bytes → length bytes ≤ 65536 → wants a ≡ true
    → TakesIn count (length bytes) a (items.Bytes bytes ∷ item ∷ wire) b None → b.wire ≡ item ∷ wire
takes_piece zero bytes item wire a b l m w h = elim h.2 [
  | inl none ↦ absurd (omega (arith, none, l))
  | inr (inl none) ↦ absurd cc
  | inr (inr never) ↦ absurd (let both : true ≡ false = sym w ∙ never in cc)
]
takes_piece (suc count) bytes item wire a b l m w h = elim h.2 [
  | inl fails ↦ absurd (let never : None ≡ Some fails.fault = fails.stops in cc)
  | inr goes ↦
      let it : Cut = cut_item (length bytes) (items.Bytes bytes) (item ∷ wire) in
      let none : length bytes - it.cost ≡ 0 = omega (arith, m) in
      takes_nothing count goes.mid it.rest b (subst (λ (most : ℕ). TakesIn count most goes.mid it.rest b None) none goes.more) ∙ taken_whole bytes (item ∷ wire) m
]

pub takes_free : TakesFree
takes_free bytes item wire s t l most w on m other = go m.changes
  where
    go : Taken Near (length bytes) s t None → ⊥
    go (b, (fault, all, is, stop)) = by_fault fault all stop
      where
        by_fault : (fault : Option ProxyFault) → TakesAll (length bytes) (record { side = s.near; wire = s.near_wire }) b fault → None ≡ at_side Near fault → ⊥
        by_fault (Some fault) all d = cc
        by_fault None all d =
            let row : TakesIn all.count (length bytes) s.near (items.Bytes bytes ∷ item ∷ wire) b None = subst (λ (wire : List PeerIn). TakesIn all.count (length bytes) s.near wire b None) on all.row in
            other (ap (λ (u : State). u.near_wire) is ∙ takes_piece all.count bytes item wire s.near b l most w row)

loads_few : (count words over : ℕ) (a b : SideState) → words < words_left a → a.copies ≢ [] → LoadsIn count words a b over None → b.loaded ≡ a.loaded + words
loads_few zero words over a b l some h = elim h.1 [
  | inl none ↦ absurd (some none.0)
  | inr last ↦ ap (λ (it : SideState). it.loaded) last.1
]
loads_few (suc count) words over a b l some h = elim h.2 [
  | inl fails ↦ absurd (let never : None ≡ Some fails.fault = fails.stops in cc)
  | inr goes ↦ absurd (omega (arith, l, goes.0))
]

pub loads_whole : LoadsWhole
loads_whole words s t l some m other = go m.changes
  where
    then_far : (near : SideState) (over : ℕ) (fault : Option ProxyFault) → Loads words s.near near over fault → LoadedThen near over fault s t None → ⊥
    then_far near over (Some fault) loads h = absurd (let never : None ≡ at_side Near (Some fault) = h.1 in cc)
    then_far near over None loads (far, (rest, (fault, more, is, stop))) =
        other (ap (λ (u : State). u.near.loaded) is ∙ loads_few loads.count words over s.near near l some loads.row)

    go : Loaded words s t None → ⊥
    go (near, (over, (fault, loads, others))) = then_far near over fault loads others

pub leaves_waiting : LeavesWaiting
leaves_waiting move s t m w free = let never : true ≡ false = sym free ∙ m.kept.0.treated w in cc

pub holds_output : HoldsOutput
holds_output move s t m l = omega (arith, m.kept.0.gave, l)

pub owes_loaded : OwesLoaded
owes_loaded move s t m owed copies owes = let never : None ≡ Some owed = sym (m.kept.0.owes copies) ∙ owes in cc
