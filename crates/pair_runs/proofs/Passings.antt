-- That the order told by longer records begins with that told by the first of them.
use Rattle.std.proofs.Common.{◌≡◌, ℕ, ◌≤◌, List, [], ◌∷◌, ◌++◌, length, sym, ap, ◌∙◌, arith}
use Rattle.plain_lists.specs.Fronts.{IsFront}
use Rattle.wp_outside.specs.declared.kinds.Side.{Side}
use Rattle.wp_outside.specs.declared.kinds.Side.TheVariants.{Near, Far}
use Rattle.wl_tables.specs.declared.way.Way.{Way}
use Rattle.wl_tables.specs.declared.way.Way.TheVariants.{Request, Event}
use Rattle.wl_tables.specs.Ways.{own_way}
use Rattle.half_model.specs.Sides.{other_way}
use Rattle.pair_laws.specs.Passing.{of_way, passing}

-- an order has no more messages than ways
few : (side : Side) (ways : List Way) (taken heard : List (List ℕ)) → length (passing side ways taken heard) ≤ length ways
few side [] taken heard = omega arith
few Near (Request ∷ ways) [] heard = omega (arith, few Near ways [] heard)
few Near (Request ∷ ways) (message ∷ taken) heard = omega (arith, few Near ways taken heard)
few Near (Event ∷ ways) taken [] = omega (arith, few Near ways taken [])
few Near (Event ∷ ways) taken (message ∷ heard) = omega (arith, few Near ways taken heard)
few Far (Event ∷ ways) [] heard = omega (arith, few Far ways [] heard)
few Far (Event ∷ ways) (message ∷ taken) heard = omega (arith, few Far ways taken heard)
few Far (Request ∷ ways) taken [] = omega (arith, few Far ways taken [])
few Far (Request ∷ ways) taken (message ∷ heard) = omega (arith, few Far ways taken heard)

-- with one more message each way, or more, it goes on behind
pub record Whole (side : Side) (ways : List Way) (taken heard : List (List ℕ)) : Type 0 where
  pub ways_are : length (passing side ways taken heard) ≡ length ways
  pub taken_are : of_way (own_way side) (passing side ways taken heard) ≡ taken
  pub heard_are : of_way (other_way side) (passing side ways taken heard) ≡ heard

tail : {X : Type 0} {x y : X} {xs ys : List X} → x ∷ xs ≡ y ∷ ys → xs ≡ ys
tail {X} {x} {y} {xs} {ys} e = cc

pub goes_on : (side : Side) (ways more : List Way) (taken later heard others : List (List ℕ)) → Whole side ways taken heard
    → passing side (ways ++ more) (taken ++ later) (heard ++ others) ≡ passing side ways taken heard ++ passing side more later others
goes_on side [] more taken later heard others w =
    ap (λ (xs : List (List ℕ)). passing side more (xs ++ later) (heard ++ others)) (sym w.taken_are) ∙ ap (λ (xs : List (List ℕ)). passing side more later (xs ++ others)) (sym w.heard_are)
goes_on Near (Request ∷ ways) more [] later heard others w = absurd (omega (arith, w.ways_are, few Near ways [] heard))
goes_on Near (Request ∷ ways) more (message ∷ taken) later heard others w =
    ap (λ rest. (Request, message) ∷ rest) (goes_on Near ways more taken later heard others (record { ways_are = omega (arith, w.ways_are); taken_are = tail w.taken_are; heard_are = w.heard_are }))
goes_on Near (Event ∷ ways) more taken later [] others w = absurd (omega (arith, w.ways_are, few Near ways taken []))
goes_on Near (Event ∷ ways) more taken later (message ∷ heard) others w =
    ap (λ rest. (Event, message) ∷ rest) (goes_on Near ways more taken later heard others (record { ways_are = omega (arith, w.ways_are); taken_are = w.taken_are; heard_are = tail w.heard_are }))
goes_on Far (Event ∷ ways) more [] later heard others w = absurd (omega (arith, w.ways_are, few Far ways [] heard))
goes_on Far (Event ∷ ways) more (message ∷ taken) later heard others w =
    ap (λ rest. (Event, message) ∷ rest) (goes_on Far ways more taken later heard others (record { ways_are = omega (arith, w.ways_are); taken_are = tail w.taken_are; heard_are = w.heard_are }))
goes_on Far (Request ∷ ways) more taken later [] others w = absurd (omega (arith, w.ways_are, few Far ways taken []))
goes_on Far (Request ∷ ways) more taken later (message ∷ heard) others w =
    ap (λ rest. (Request, message) ∷ rest) (goes_on Far ways more taken later heard others (record { ways_are = omega (arith, w.ways_are); taken_are = w.taken_are; heard_are = tail w.heard_are }))

pub passing_front : (side : Side) (ways more_ways : List Way) (taken more_taken heard more_heard : List (List ℕ)) → length (passing side ways taken heard) ≡ length ways → of_way (own_way side) (passing side ways taken heard) ≡ taken
    → of_way (other_way side) (passing side ways taken heard) ≡ heard → IsFront ways more_ways → IsFront taken more_taken → IsFront heard more_heard → IsFront (passing side ways taken heard) (passing side more_ways more_taken more_heard)
passing_front side ways more_ways taken more_taken heard more_heard w t h a b c =
    let on = goes_on side ways a.rest taken b.rest heard c.rest (record { ways_are = w; taken_are = t; heard_are = h }) in
    record {
      rest = passing side a.rest b.rest c.rest;
      is =
          sym on
          ∙ ap (λ (ws : List Way). passing side ws (taken ++ b.rest) (heard ++ c.rest)) a.is
          ∙ ap (λ (xs : List (List ℕ)). passing side more_ways xs (heard ++ c.rest)) b.is
          ∙ ap (λ (xs : List (List ℕ)). passing side more_ways more_taken xs) c.is;
    }
