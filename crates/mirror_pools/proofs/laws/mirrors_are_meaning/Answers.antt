use Rattle.std.proofs.Common.{◌≡◌, ℕ, Bool, true, false, cond, ℤ, List, [], ◌∷◌, Option, Some, None, refl, sym, ◌∙◌, ap, int_cmp, Ordering, Less, Equal, Greater}
use Rattle.std.proofs.lemmas.Cmp.{int_cmp_total, int_eq_equiv}
use Rattle.std.proofs.lemmas.Map.{lookup-set_value}
use Rattle.std.proofs.lemmas.Map.Lookups.{exact_signed}
use Rattle.std.specs.Bool.{if◌then◌else◌}
use Rattle.std.specs.BTreeMap.{insert_entry}
use Rattle.std.specs.Option.{is_some, option_map}
use Rattle.std.specs.Ordering.{int_eq, is_eq}
use Rattle.plain_lists.proofs.EntryLemmas.{lookup-insert_entry}
use Rattle.transfer_frames.specs.declared.frame.Frame.{Frame}
use Rattle.transfer_frames.specs.declared.frame.Frame.TheVariants.{Protocol, Inject, OpenFile, ExtendFile, Fill, OpenPipe, PipeTransfer, PipeShutR, PipeShutW, Ack, Restart, Close}
use Rattle.mirror_pools.specs.Laws.{after_frame, after_frames}
use Rattle.mirror_pools.specs.Meaning.{mirror_step, mirror_from}
use Rattle.mirror_pools.specs.Mirrors.{MirrorState, MirrorsState, mirror_at, bytes_at, mirror_opened, mirror_grown, mirror_filled, put_mirror, on_mirror, replaced, widened}
use Rattle.mirror_pools.specs.Sizes.{rounded}
use Rattle.mirror_pools.proofs.laws.mirrors_are_meaning.Goals as goal

abbrev bytes_in : Option MirrorState → Option (List ℕ)
bytes_in o = option_map (λ it. it.bytes) o

-- rids that are the same
same : (other rid : ℤ) → int_eq other rid ≡ true → other ≡ rid
same other rid is = exact_signed other rid (by (int_cmp other rid) refl is)
  where
    by : (c : Ordering) → int_cmp other rid ≡ c → is_eq c ≡ true → int_cmp other rid ≡ Equal
    by Less e no_ = absurd (let never : ⊥ = cc in never)
    by Equal e yes_ = e
    by Greater e no_ = absurd (let never : ⊥ = cc in never)

-- a mirror that is opened, and the others
opened : (other rid : ℤ) (size : ℕ) (mirrors : MirrorsState)
    → bytes_at rid (insert_entry int_cmp mirrors other (mirror_opened size))
    ≡ (if int_eq other rid then Some (widened (rounded size) []) else bytes_at rid mirrors)
opened other rid size mirrors =
    ap bytes_in (lookup-insert_entry int_cmp_total mirrors other rid (mirror_opened size)) ∙ by (int_eq other rid)
  where
    by : (b : Bool) → bytes_in (cond b (Some (mirror_opened size)) (mirror_at rid mirrors))
        ≡ (if b then Some (widened (rounded size) []) else bytes_at rid mirrors)
    by true = refl
    by false = refl

-- a mirror that is changed, and the others
changed : (other rid : ℤ) (f : MirrorState → MirrorState) (g : List ℕ → List ℕ) (mirrors : MirrorsState)
    → ((it : MirrorState) → (f it).bytes ≡ g it.bytes)
    → bytes_at rid (on_mirror other f mirrors)
    ≡ (if int_eq other rid then option_map g (bytes_at rid mirrors) else bytes_at rid mirrors)
changed other rid f g mirrors does = by (mirror_at other mirrors) refl (int_eq other rid) refl
  where
    by : (o : Option MirrorState) → mirror_at other mirrors ≡ o → (b : Bool) → int_eq other rid ≡ b
        → bytes_at rid (put_mirror other (option_map f o) mirrors)
        ≡ (if b then option_map g (bytes_at rid mirrors) else bytes_at rid mirrors)
    by None none true is =
        let here : mirror_at rid mirrors ≡ None = ap (λ (k : ℤ). mirror_at k mirrors) (sym (same other rid is)) ∙ none in
        ap bytes_in here ∙ sym (ap (λ o. option_map g (bytes_in o)) here)
    by None none false is = refl
    by (Some it) some b is =
        ap bytes_in (lookup-set_value int_eq_equiv (int_eq other) (int_eq_equiv.congr other) rid (f it) mirrors (ap is_some some))
        ∙ ap (λ (t : Bool). bytes_in (cond t (Some (f it)) (mirror_at rid mirrors))) is ∙ at b is
      where
        at : (t : Bool) → int_eq other rid ≡ t
            → bytes_in (cond t (Some (f it)) (mirror_at rid mirrors))
            ≡ (if t then option_map g (bytes_at rid mirrors) else bytes_at rid mirrors)
        at true e =
            let here : mirror_at rid mirrors ≡ Some it = ap (λ (k : ℤ). mirror_at k mirrors) (sym (same other rid e)) ∙ some in
            ap (λ (bytes : List ℕ). Some bytes) (does it) ∙ sym (ap (λ o. option_map g (bytes_in o)) here)
        at false e = refl

-- one frame
step : (frame : Frame) (mirrors : MirrorsState) (rid : ℤ)
    → bytes_at rid (after_frame frame mirrors) ≡ mirror_step rid frame (bytes_at rid mirrors)
step (OpenFile other size) mirrors rid = opened other rid size mirrors
step (ExtendFile other size) mirrors rid = changed other rid (mirror_grown size) (widened (rounded size)) mirrors (λ it. refl)
step (Fill other start end piece) mirrors rid = changed other rid (mirror_filled start piece) (replaced start piece) mirrors (λ it. refl)
step (Protocol messages) mirrors rid = refl
step (Inject rids) mirrors rid = refl
step (OpenPipe other) mirrors rid = refl
step (PipeTransfer other bytes) mirrors rid = refl
step (PipeShutR other) mirrors rid = refl
step (PipeShutW other) mirrors rid = refl
step (Ack count) mirrors rid = refl
step (Restart token connection received) mirrors rid = refl
step (Close reason) mirrors rid = refl

-- frames in order
steps : (frames : List Frame) (mirrors : MirrorsState) (rid : ℤ)
    → bytes_at rid (after_frames frames mirrors) ≡ mirror_from rid frames (bytes_at rid mirrors)
steps [] mirrors rid = refl
steps (frame ∷ frames) mirrors rid =
    steps frames (after_frame frame mirrors) rid ∙ ap (mirror_from rid frames) (step frame mirrors rid)

pub returns : goal.returns
returns c frames rid = steps frames [] rid
