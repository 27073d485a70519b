-- The order of passing is told by the records.
use Rattle.std.proofs.Common.{◌≡◌, ℕ, List, [], ◌∷◌, ◌++◌, Option, Some, None, map, refl, sym, ap, ◌∙◌}
use Rattle.std.proofs.lemmas.List.{map-append}
use Rattle.std.proofs.lemmas.List.Elements.{filter_map-append}
use Rattle.std.specs.List.{cons_option}
use Rattle.wp_outside.specs.declared.kinds.Side.{Side}
use Rattle.wp_outside.specs.declared.kinds.Side.TheVariants.{Near, Far}
use Rattle.wl_tables.specs.Ways.{own_way}
use Rattle.wl_tables.specs.declared.way.Way.{Way}
use Rattle.half_model.specs.Log.{Mark, Taken, Heard, Grouped, Dropped}
use Rattle.half_model.specs.Sides.{other_way}
use Rattle.half_model.specs.Story.{messages_of, messages_in, taken_in, heard_in, accepted_in, order_in, shown_of, passed_by}
use Rattle.pair_model.specs.Rows.{counted}
use Rattle.side_model.specs.Records.{ways_in}
use Rattle.pair_laws.specs.Passing.{passing, OrderIsTold, if_way, of_way, shown_by, OrderHasBoth}
use Rattle.pair_laws.proofs.Saying.{counted_says}

taken_next : (side : Side) (message : List ℕ) (ways : List Way) (taken heard : List (List ℕ))
    → passing side (own_way side ∷ ways) (message ∷ taken) heard ≡ (own_way side, message) ∷ passing side ways taken heard
taken_next Near message ways taken heard = refl
taken_next Far message ways taken heard = refl

heard_next : (side : Side) (message : List ℕ) (ways : List Way) (taken heard : List (List ℕ))
    → passing side (other_way side ∷ ways) taken (message ∷ heard) ≡ (other_way side, message) ∷ passing side ways taken heard
heard_next Near message ways taken heard = refl
heard_next Far message ways taken heard = refl

-- the messages of a frame
heard_all : (side : Side) (messages : List (List ℕ)) (ways : List Way) (taken heard : List (List ℕ))
    → passing side (map (λ (passed : Way × List ℕ). passed.0) (map (λ message. (other_way side, message)) messages) ++ ways) taken (messages ++ heard)
    ≡ map (λ message. (other_way side, message)) messages ++ passing side ways taken heard
heard_all side [] ways taken heard = refl
heard_all side (message ∷ messages) ways taken heard =
    heard_next side message (map (λ (passed : Way × List ℕ). passed.0) (map (λ m. (other_way side, m)) messages) ++ ways) taken (messages ++ heard)
    ∙ ap (λ (all : List (Way × List ℕ)). (other_way side, message) ∷ all) (heard_all side messages ways taken heard)

told : (side : Side) (story : List Mark) → passing side (ways_in side story) (taken_in story) (messages_in (heard_in story)) ≡ order_in side story
told side [] = refl
told side (Taken message handle segments ∷ story) =
    taken_next side message (ways_in side story) (taken_in story) (messages_in (heard_in story)) ∙ ap (λ (all : List (Way × List ℕ)). (own_way side, message) ∷ all) (told side story)
told side (Heard frame ∷ story) =
    ap (λ (ways : List Way). passing side ways (taken_in story) (messages_of frame ++ messages_in (heard_in story)))
    (map-append (λ (passed : Way × List ℕ). passed.0) (passed_by side (Heard frame)) (order_in side story))
    ∙ heard_all side (messages_of frame) (ways_in side story) (taken_in story) (messages_in (heard_in story))
    ∙ ap (λ (all : List (Way × List ℕ)). passed_by side (Heard frame) ++ all) (told side story)
told side (Grouped frames copies ∷ story) = told side story
told side (Dropped rid ∷ story) = told side story

pub order_is_told : OrderIsTold
order_is_told side it law =
    ap (λ (ways : List Way). passing side ways it.book.trail.taken (messages_in (counted (heard_in law.story)))) law.tells.order
    ∙ ap (λ (taken : List (List ℕ)). passing side (ways_in side law.story) taken (messages_in (counted (heard_in law.story)))) law.tells.taken
    ∙ ap (passing side (ways_in side law.story) (taken_in law.story)) (counted_says (heard_in law.story))
    ∙ told side law.story

-- ---- what an order has

own_is : (side : Side) (message : List ℕ) → if_way (own_way side) (own_way side, message) ≡ Some message
own_is Near message = refl
own_is Far message = refl

own_not : (side : Side) (message : List ℕ) → if_way (own_way side) (other_way side, message) ≡ None
own_not Near message = refl
own_not Far message = refl

other_is : (side : Side) (message : List ℕ) → if_way (other_way side) (other_way side, message) ≡ Some message
other_is Near message = refl
other_is Far message = refl

other_not : (side : Side) (message : List ℕ) → if_way (other_way side) (own_way side, message) ≡ None
other_not Near message = refl
other_not Far message = refl

own_in_frame : (side : Side) (messages : List (List ℕ)) → of_way (own_way side) (map (λ message. (other_way side, message)) messages) ≡ []
own_in_frame side [] = refl
own_in_frame side (message ∷ messages) =
    ap (λ (o : Option (List ℕ)). cons_option o (of_way (own_way side) (map (λ m. (other_way side, m)) messages))) (own_not side message) ∙ own_in_frame side messages

other_in_frame : (side : Side) (messages : List (List ℕ)) → of_way (other_way side) (map (λ message. (other_way side, message)) messages) ≡ messages
other_in_frame side [] = refl
other_in_frame side (message ∷ messages) =
    ap (λ (o : Option (List ℕ)). cons_option o (of_way (other_way side) (map (λ m. (other_way side, m)) messages))) (other_is side message)
    ∙ ap (λ (ms : List (List ℕ)). message ∷ ms) (other_in_frame side messages)

pub own_in_order : (side : Side) (story : List Mark) → of_way (own_way side) (order_in side story) ≡ taken_in story
own_in_order side [] = refl
own_in_order side (Taken message handle segments ∷ story) =
    ap (λ (o : Option (List ℕ)). cons_option o (of_way (own_way side) (order_in side story))) (own_is side message) ∙ ap (λ (ms : List (List ℕ)). message ∷ ms) (own_in_order side story)
own_in_order side (Heard frame ∷ story) =
    filter_map-append (if_way (own_way side)) (passed_by side (Heard frame)) (order_in side story)
    ∙ ap (λ (ms : List (List ℕ)). ms ++ of_way (own_way side) (order_in side story)) (own_in_frame side (messages_of frame))
    ∙ own_in_order side story
own_in_order side (Grouped frames copies ∷ story) = own_in_order side story
own_in_order side (Dropped rid ∷ story) = own_in_order side story

other_in_heard : (side : Side) (story : List Mark) → of_way (other_way side) (order_in side story) ≡ messages_in (heard_in story)
other_in_heard side [] = refl
other_in_heard side (Taken message handle segments ∷ story) =
    ap (λ (o : Option (List ℕ)). cons_option o (of_way (other_way side) (order_in side story))) (other_not side message) ∙ other_in_heard side story
other_in_heard side (Heard frame ∷ story) =
    filter_map-append (if_way (other_way side)) (passed_by side (Heard frame)) (order_in side story)
    ∙ ap (λ (ms : List (List ℕ)). ms ++ of_way (other_way side) (order_in side story)) (other_in_frame side (messages_of frame))
    ∙ ap (λ (ms : List (List ℕ)). messages_of frame ++ ms) (other_in_heard side story)
other_in_heard side (Grouped frames copies ∷ story) = other_in_heard side story
other_in_heard side (Dropped rid ∷ story) = other_in_heard side story

pub other_in_order : (side : Side) (story : List Mark) → of_way (other_way side) (order_in side story) ≡ messages_in (accepted_in story)
other_in_order side story = other_in_heard side story ∙ sym (counted_says (heard_in story))

pub order_has_both : OrderHasBoth
order_has_both side it law = record {
  taken = ap (of_way (own_way side)) (order_is_told side it law) ∙ own_in_order side law.story ∙ sym law.tells.taken;
  heard = ap (of_way (other_way side)) (order_is_told side it law) ∙ other_in_order side law.story;
}

-- what an order shows are the messages that its story has to show
pub shown_in : (side : Side) (story : List Mark) → shown_by side (order_in side story) ≡ shown_of side story
shown_in Near story = own_in_order Near story
shown_in Far story = refl
