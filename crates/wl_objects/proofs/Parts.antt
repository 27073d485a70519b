-- Messages that pass can be passed in parts.
use Rattle.std.proofs.Common.{◌≡◌, ℕ, List, [], ◌∷◌, ◌++◌, Result, Ok, Err, refl, sym, ◌∙◌, rules}
use Rattle.wl_wire.specs.declared.faults.ObjectFault.{ObjectFault}
use Rattle.wl_tables.specs.declared.way.Way.{Way}
use Rattle.wl_objects.specs.Entries.{Tracked}
use Rattle.wl_objects.specs.Tracking.{then_goes, Admission, step, track}
use Rattle.wl_objects.specs.ObjectLaws.{TrackGoesOn, FrontIsTracked}

after_step : (told : Result Admission ObjectFault) (rest back : List (Way × List ℕ)) → ((objects : Tracked) → track objects (rest ++ back) ≡ then_goes (track objects rest) (λ between. track between back)) → then_goes told (λ done. track done.objects (rest ++ back)) ≡ then_goes (then_goes told (λ done. track done.objects rest)) (λ between. track between back)
after_step (Ok done) rest back next = next done.objects
after_step (Err fault) rest back next = refl

goes_on : (front back : List (Way × List ℕ)) (objects : Tracked) → track objects (front ++ back) ≡ then_goes (track objects front) (λ between. track between back)
goes_on [] back objects = refl
goes_on (it ∷ rest) back objects = after_step (step it.0 objects it.1) rest back (goes_on rest back)

pub track_goes_on : TrackGoesOn
track_goes_on objects front back = goes_on front back objects

in_front : (told : Result Tracked ObjectFault) (after : Tracked) (back : List (Way × List ℕ)) → then_goes told (λ between. track between back) ≡ Ok after → (between : Tracked) × (told ≡ Ok between) × (track between back ≡ Ok after)
in_front (Ok between) after back passed = (between, refl, passed)
in_front (Err fault) after back passed = search rules

pub front_is_tracked : FrontIsTracked
front_is_tracked objects after front back passed = in_front (track objects front) after back (sym (goes_on front back objects) ∙ passed)
