-- The steps of a ring keep it the row of the frames made from the acknowledged count on.
use Rattle.std.proofs.Common.{◌≡◌, ◌+◌, ◌-◌, [], ◌∷◌, ◌++◌, Option, drop, length, map, refl, sym, ap, ◌∙◌, arith, length-append, length-drop}
use Rattle.std.proofs.lemmas.List.{drop-map, drop-drop, drop-append-le, map-append, length-map}
use Rattle.std.proofs.lemmas.Option.{slice_get-map}
use Rattle.std.specs.Prelude.{slice_get, option_map}
use Rattle.transfer_frames.specs.declared.frame.Frame.{Frame}
use Rattle.pair_model.proofs.Fronts.{slice_get_drop}
use Rattle.transfer_frames.specs.Grammar.{spelling}
use Rattle.pair_model.specs.RingLaws.{NewRing, RingMade, RingPushed, RingPushedAll, RingAcked, RingAt}

pub new_ring : NewRing
new_ring = record { within = omega arith; frames_are = refl }

pub made_in_ring : RingMade
made_in_ring made ring h = omega (arith, h.within, ap length h.frames_are, length-map (drop ring.acknowledged made) spelling, length-drop ring.acknowledged made)

pub pushed_all : RingPushedAll
pushed_all made ring more h = record {
  within = omega (arith, h.within, length-append made more);
  frames_are = ap (λ fs. fs ++ map spelling more) h.frames_are ∙ sym (map-append spelling (drop ring.acknowledged made) more) ∙ ap (map spelling) (sym (drop-append-le ring.acknowledged made more h.within));
}

pub pushed : RingPushed
pushed made ring frame h = pushed_all made ring (frame ∷ []) h

pub acked : RingAcked
acked made ring n h low high =
    let rest : ring.acknowledged + (n - ring.acknowledged) ≡ n = omega arith in
    record {
      within = high;
      frames_are = ap (drop (n - ring.acknowledged)) h.frames_are ∙ drop-map spelling (n - ring.acknowledged) (drop ring.acknowledged made)
          ∙ ap (map spelling) (drop-drop (n - ring.acknowledged) ring.acknowledged made ∙ ap (λ k. drop k made) rest);
    }

pub at_index : RingAt
at_index made ring index h low =
    let e : ring.acknowledged + (index - ring.acknowledged) ≡ index = omega arith in
    ap (λ fs. slice_get fs (index - ring.acknowledged)) h.frames_are ∙ slice_get-map spelling (drop ring.acknowledged made) (index - ring.acknowledged)
    ∙ ap (λ (k : Option Frame). option_map spelling k) (slice_get_drop ring.acknowledged made (index - ring.acknowledged) ∙ ap (slice_get made) e)
