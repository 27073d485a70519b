-- What a side's records are later in a run: they have grown at their ends; and once it was asked to close, and nothing whole waits inside, it takes no more.
use Rattle.std.proofs.Common.{◌≡◌, ℕ, ◌≤◌, List, [], ◌∷◌, ◌++◌, Bool, true, false, not, ◌&&◌, Some, Ok, refl, sym, ap, ◌∙◌, append_assoc, arith}
use Rattle.std.proofs.lemmas.List.{append-nil}
use Rattle.std.specs.List.{AllByRecursion}
use Rattle.plain_lists.specs.Fronts.{IsFront}
use Rattle.wl_wire.specs.Wire.{first, joined, IsMessage}
use Rattle.wl_wire.proofs.FrontLemmas.{first-message}
use Rattle.half_model.specs.Inlet.{Inlet}
use Rattle.half_model.specs.Turn.{stands_in}
use Rattle.half_model.specs.declared.items.PeerIn.{PeerIn}
use Rattle.side_model.specs.Books.{TrailRecord}
use Rattle.pair_runs.specs.Kept.{waits}
use Rattle.pair_runs.specs.Sides.{Inside, SideState, is_free, wants, fed, asked, on_rows}
use Rattle.pair_runs.specs.Working.{Grows, Works, InPart}
use Rattle.pair_runs.proofs.Ends.{front_then}
use Rattle.pair_runs.proofs.Walking.{Steps}

-- it was asked to close, and no whole message waits
pub record Shut (it : SideState) : Type 0 where
  pub said : it.inside.asked ≡ true
  pub still : waits it ≡ false

pub record Grown (a b : SideState) : Type 0 where
  pub side : b.book.trail.side ≡ a.book.trail.side
  pub taken : IsFront a.book.trail.taken b.book.trail.taken
  pub made : IsFront a.book.trail.made b.book.trail.made
  pub order : IsFront a.book.order b.book.order
  pub accepted : a.book.trail.accepted ≤ b.book.trail.accepted

-- behind good calls
pub record Later (a b : SideState) : Type 0 where
  pub grown : Grown a b
  pub shut : Shut a → Shut b
  pub none : Shut a → b.book.trail.taken ≡ a.book.trail.taken

-- and where one met a fault
pub record LaterPart (a b : SideState) : Type 0 where
  pub grown : Grown a b
  pub none : Shut a → b.book.trail.taken ≡ a.book.trail.taken

grown_then : (a b c : SideState) → Grown a b → Grown b c → Grown a c
grown_then a b c h k = record {
  side = k.side ∙ h.side;
  taken = front_then h.taken k.taken;
  made = front_then h.made k.made;
  order = front_then h.order k.order;
  accepted = omega (arith, h.accepted, k.accepted);
}

grown_by : (took : List (List ℕ)) (a b : SideState) → Grows took a.book.trail b.book.trail → IsFront a.book.order b.book.order → Grown a b
grown_by took a b g o = record {
  side = g.side;
  taken = record { rest = took; is = sym g.taken };
  made = g.made;
  order = o;
  accepted = g.accepted;
}

-- nothing is taken where nothing whole waits
none_taken : (took : List (List ℕ)) (inside : Inside) (rest : List ℕ) → AllByRecursion IsMessage took → inside.inlet.bytes ≡ joined took ++ rest → stands_in (first inside.inlet.bytes) ≡ false → took ≡ []
none_taken [] inside rest h e w = refl
none_taken (message ∷ took) inside rest h e w =
    let stands : first inside.inlet.bytes ≡ Ok (Some message) = ap first (e ∙ append_assoc message (joined took) rest) ∙ first-message message (joined took ++ rest) h.0 in
    absurd (let never : true ≡ false = sym (ap stands_in stands) ∙ w in cc)

same_taken : (took : List (List ℕ)) (a b : TrailRecord) → Grows took a b → took ≡ [] → b.taken ≡ a.taken
same_taken took a b g e = g.taken ∙ ap (λ more. a.taken ++ more) e ∙ append-nil a.taken

works_later : (hears : Bool) (a b : SideState) → Works hears a b → Later a b
works_later hears a b w = record {
  grown = grown_by w.took a b w.trail w.order;
  shut = λ s.
      let same : b.inside.inlet ≡ a.inside.inlet = w.inside.none (none_taken w.took a.inside b.inside.inlet.bytes w.inside.messages w.inside.inlet.bytes s.still) in
      record { said = w.inside.asked ∙ s.said; still = ap (λ (inlet : Inlet). stands_in (first inlet.bytes)) same ∙ s.still };
  none = λ s. same_taken w.took a.book.trail b.book.trail w.trail (none_taken w.took a.inside b.inside.inlet.bytes w.inside.messages w.inside.inlet.bytes s.still);
}

part_later : (a b : SideState) → InPart a b → LaterPart a b
part_later a b w = record {
  grown = grown_by w.took a b w.trail w.order;
  none = λ s. same_taken w.took a.book.trail b.book.trail w.trail (none_taken w.took a.inside w.bytes.rest w.messages (sym w.bytes.is) s.still);
}

-- a change of what is neither inside nor among these records
light_later : (a b : SideState) → b.book.trail.side ≡ a.book.trail.side → b.book.trail.taken ≡ a.book.trail.taken → b.book.trail.made ≡ a.book.trail.made → b.book.order ≡ a.book.order → b.book.trail.accepted ≡ a.book.trail.accepted → (Shut a → Shut b) → Later a b
light_later a b e1 e2 e3 e4 e5 shut = record {
  grown = record {
    side = e1;
    taken = record { rest = []; is = append-nil a.book.trail.taken ∙ sym e2 };
    made = record { rest = []; is = append-nil a.book.trail.made ∙ sym e3 };
    order = record { rest = []; is = append-nil a.book.order ∙ sym e4 };
    accepted = omega (arith, e5);
  };
  shut = shut;
  none = λ s. e2;
}

never_fed : (a : SideState) → wants a ≡ true → Shut a → ⊥
never_fed a w s =
    let none : wants a ≡ false = ap (λ (said : Bool). not said && is_free a) s.said in
    let never : true ≡ false = sym w ∙ none in cc

fed_later : (item : PeerIn) (a : SideState) → wants a ≡ true → Later a (fed item a)
fed_later item a w = light_later a (fed item a) refl refl refl refl refl (λ s. absurd (never_fed a w s))

pub later_steps : Steps Later LaterPart
later_steps = record {
  same = λ a. light_later a a refl refl refl refl refl (λ s. s);
  chain = λ a b c h k. record { grown = grown_then a b c h.grown k.grown; shut = λ s. k.shut (h.shut s); none = λ s. k.none (h.shut s) ∙ h.none s };
  ends = λ a b c h k. record { grown = grown_then a b c h.grown k.grown; none = λ s. k.none (h.shut s) ∙ h.none s };
  keeps = λ a b h. record { grown = h.grown; none = h.none };
  works = works_later;
  part = part_later;
  feeds = fed_later;
  asks = λ a. light_later a (asked a) refl refl refl refl refl (λ s. record { said = refl; still = s.still });
  loads = λ a copies loaded. light_later a (record a { copies = copies; loaded = loaded }) refl refl refl refl refl (λ s. record { said = s.said; still = s.still });
  rows = λ change a. light_later a (on_rows change a) refl refl refl refl refl (λ s. record { said = s.said; still = s.still });
}
