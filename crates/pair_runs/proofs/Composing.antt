-- What calls change, one after another.
use Rattle.std.proofs.Common.{◌≡◌, ◌≢◌, ℕ, Bool, true, false, List, [], ◌∷◌, ◌++◌, map, refl, sym, ap, subst, ◌∙◌, append_assoc, arith}
use Rattle.std.proofs.lemmas.List.{append-nil, map-append}
use Rattle.std.specs.List.{AllByRecursion}
use Rattle.wp_outside.specs.declared.kinds.Side.{Side}
use Rattle.wl_wire.specs.Wire.{joined, IsMessage}
use Rattle.half_model.specs.Inlet.{Inlet, inlet_after}
use Rattle.side_model.specs.Books.{TrailRecord}
use Rattle.pair_runs.specs.Leaving.{Use, after_uses, Leaves, Passes}
use Rattle.pair_runs.specs.Sides.{Inside, SideState}
use Rattle.pair_runs.specs.Working.{Takes, Awaits, Grows, Silent, Works}
use Rattle.pair_runs.proofs.Ends.{front_same, front_then}
use Rattle.pair_runs.proofs.Tracking.{passes_same, passes_then}

-- ---- lists of messages

pub none_left : {X : Type 0} (xs ys : List X) → xs ++ ys ≡ [] → xs ≡ []
none_left [] ys e = refl
none_left (x ∷ xs) ys e = absurd cc

pub none_right : {X : Type 0} (xs ys : List X) → xs ++ ys ≡ [] → ys ≡ []
none_right [] ys e = e
none_right (x ∷ xs) ys e = absurd cc

pub joined_then : (xs ys : List (List ℕ)) → joined (xs ++ ys) ≡ joined xs ++ joined ys
joined_then [] ys = refl
joined_then (x ∷ xs) ys = ap (λ (bytes : List ℕ). x ++ bytes) (joined_then xs ys) ∙ sym (append_assoc x (joined xs) (joined ys))

pub all_then : {X : Type 0} (P : X → Type 0) (xs ys : List X) → AllByRecursion P xs → AllByRecursion P ys → AllByRecursion P (xs ++ ys)
all_then P [] ys h k = k
all_then P (x ∷ xs) ys h k = (h.0, all_then P xs ys h.1 k)

-- ---- what waits inside

abbrev pub leaves_same : (waits : Inlet) → Leaves [] waits waits
leaves_same waits = record { uses = []; took_is = refl; left_is = refl; bytes = refl }

pub uses_then : (us vs : List Use) (inlet : Inlet) → after_uses (us ++ vs) inlet ≡ after_uses vs (after_uses us inlet)
uses_then [] vs inlet = refl
uses_then (it ∷ us) vs inlet = uses_then us vs (inlet_after it.kind it.deed it.message inlet)

abbrev pub leaves_then : (xs ys : List (List ℕ)) {a b c : Inlet} → Leaves xs a b → Leaves ys b c → Leaves (xs ++ ys) a c
leaves_then xs ys {a} {b} {c} f g = record {
  uses = f.uses ++ g.uses;
  took_is =
      ap (λ messages. messages ++ ys) f.took_is
      ∙ ap (λ messages. map (λ (it : Use). it.message) f.uses ++ messages) g.took_is
      ∙ sym (map-append (λ (it : Use). it.message) f.uses g.uses);
  left_is = g.left_is ∙ ap (after_uses g.uses) f.left_is ∙ sym (uses_then f.uses g.uses a);
  bytes =
      f.bytes ∙ ap (λ bytes. joined xs ++ bytes) g.bytes
      ∙ sym (append_assoc (joined xs) (joined ys) c.bytes)
      ∙ ap (λ bytes. bytes ++ c.bytes) (sym (joined_then xs ys));
}

-- ---- nothing

abbrev pub takes_same : (a : Inside) → Takes [] a a
takes_same a = record { messages = tt; inlet = leaves_same a.inlet; asked = refl; none = λ e. refl }

pub grows_same : (a : TrailRecord) → Grows [] a a
grows_same a = record { side = refl; taken = sym (append-nil a.taken); made = front_same a.made; copies = front_same a.copies; lines = refl; accepted = omega arith }

pub works_same : (hears : Bool) (a : SideState) → Works hears a a
works_same hears a = record {
  took = [];
  inside = takes_same a.inside;
  awaits = record { stay = λ e. (refl, refl); begin = λ n. absurd (n refl) };
  trail = grows_same a.book.trail;
  order = front_same a.book.order;
  passes = passes_same a.book.trail.side a.inside.objects a.book.order;
  silent = λ e. record { accepted = refl; acknowledged = refl; given = refl; order = λ n. refl; objects = λ n. refl };
}

-- ---- one after another

abbrev pub takes_then : (xs ys : List (List ℕ)) {a b c : Inside} → Takes xs a b → Takes ys b c → Takes (xs ++ ys) a c
takes_then xs ys {a} {b} {c} h k = record {
  messages = all_then IsMessage xs ys h.messages k.messages;
  inlet = leaves_then xs ys h.inlet k.inlet;
  asked = k.asked ∙ h.asked;
  none = λ e. k.none (none_right xs ys e) ∙ h.none (none_left xs ys e);
}

pub grows_then : (xs ys : List (List ℕ)) {a b c : TrailRecord} → Grows xs a b → Grows ys b c → Grows (xs ++ ys) a c
grows_then xs ys {a} {b} {c} h k = record {
  side = k.side ∙ h.side;
  taken = k.taken ∙ ap (λ taken. taken ++ ys) h.taken ∙ append_assoc a.taken xs ys;
  made = front_then h.made k.made;
  copies = front_then h.copies k.copies;
  lines = k.lines ∙ h.lines;
  accepted = omega (arith, h.accepted, k.accepted);
}

awaits_begin : (xs ys : List (List ℕ)) (a b c : SideState) → Awaits xs a b → Awaits ys b c → xs ++ ys ≢ [] → (a.copies ≡ []) × (c.loaded ≡ 0)
awaits_begin [] ys a b c h k n = (sym (h.stay refl).0 ∙ (k.begin n).0, (k.begin n).1)
awaits_begin (x ∷ xs) [] a b c h k n =
    let some : x ∷ xs ≢ [] = λ e. cc in
    ((h.begin some).0, (k.stay refl).1 ∙ (h.begin some).1)
awaits_begin (x ∷ xs) (y ∷ ys) a b c h k n =
    let some : x ∷ xs ≢ [] = λ e. cc in
    let more : y ∷ ys ≢ [] = λ e. cc in
    ((h.begin some).0, (k.begin more).1)

pub awaits_then : (xs ys : List (List ℕ)) {a b c : SideState} → Awaits xs a b → Awaits ys b c → Awaits (xs ++ ys) a c
awaits_then xs ys {a} {b} {c} h k = record {
  stay = λ e. ((k.stay (none_right xs ys e)).0 ∙ (h.stay (none_left xs ys e)).0, (k.stay (none_right xs ys e)).1 ∙ (h.stay (none_left xs ys e)).1);
  begin = λ n. awaits_begin xs ys a b c h k n;
}

pub silent_then : (xs ys : List (List ℕ)) {a b c : SideState} → Silent xs a b → Silent ys b c → Silent (xs ++ ys) a c
silent_then xs ys h k = record {
  accepted = k.accepted ∙ h.accepted;
  acknowledged = k.acknowledged ∙ h.acknowledged;
  given = k.given ∙ h.given;
  order = λ e. k.order (none_right xs ys e) ∙ h.order (none_left xs ys e);
  objects = λ e. k.objects (none_right xs ys e) ∙ h.objects (none_left xs ys e);
}

pub works_then : (hears : Bool) (a b c : SideState) → Works hears a b → Works hears b c → Works hears a c
works_then hears a b c h k = record {
  took = h.took ++ k.took;
  inside = takes_then h.took k.took h.inside k.inside;
  awaits = awaits_then h.took k.took h.awaits k.awaits;
  trail = grows_then h.took k.took h.trail k.trail;
  order = front_then h.order k.order;
  passes =
      passes_then a.book.trail.side h.inside.inlet.uses k.inside.inlet.uses a.inside.objects b.inside.objects c.inside.objects a.book.order b.book.order c.book.order h.passes
      (subst (λ (side : Side). Passes side k.inside.inlet.uses b.inside.objects c.inside.objects b.book.order c.book.order) h.trail.side k.passes);
  silent = λ e. silent_then h.took k.took (h.silent e) (k.silent e);
}

-- a call that may not hear is one that may
pub may_hear : (a b : SideState) → Works false a b → Works true a b
may_hear a b h = record { took = h.took; inside = h.inside; awaits = h.awaits; trail = h.trail; order = h.order; passes = h.passes; silent = λ e. absurd cc }
