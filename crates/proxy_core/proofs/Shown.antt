-- What is seen of the fields of a proxy whose sending half took a message, made frames or failed.
use Rattle.std.proofs.Common.{◌≡◌, ℕ, true, false, List, [], ◌∷◌, ◌++◌, Option, Some, None, Ok, Err, map, refl, sym, ap, ◌∙◌, append_assoc}
use Rattle.std.specs.Prelude.{option_map}
use Rattle.transfer_frames.specs.declared.frame.Frame.{Frame}
use Rattle.transfer_frames.specs.Grammar.{spelling}
use Rattle.half_model.specs.declared.items.PeerOut.{PeerOut}
use Rattle.half_model.specs.declared.notes.Noted.{Noted}
use Rattle.half_model.specs.declared.notes.Noted.TheVariants as notes
use Rattle.half_model.specs.Jobs.{Job}
use Rattle.half_model.specs.Tables.{Tables}
use Rattle.half_model.specs.Turn.{Turn, Treated, MadeGroup}
use Rattle.pair_model.specs.RingState.{RingState, ring_push_all}
use Rattle.send_half.specs.SendState.{SendState, tables_of, noted_taken, with_made}
use Rattle.send_half.specs.Treating.{Took, Rests, Refused, Halts, TreatsAfter}
use Rattle.half_model.specs.declared.causes.HalfFault.{HalfFault}
use Rattle.side_model.specs.declared.fault.ProxyFault.{ProxyFault}
use Rattle.side_model.specs.Calls.{Halted}
use Rattle.side_model.specs.Sound.{Sound}
use Rattle.side_model.specs.State.{Now}
use Rattle.side_model.specs.Steps.{receipt_item}
use Rattle.proxy_core.specs.declared.machine.Machine.TheInside.{Inside}
use Rattle.proxy_core.specs.declared.past.Past.{Past}
use Rattle.pair_model.specs.Steps.{Here}
use Rattle.proxy_core.specs.Inside.{here_of, now_of, closing_of}
use Rattle.proxy_core.specs.Jobs.{jobs_of}
use Rattle.proxy_core.proofs.FrontLemmas.{here_pushed}
use Rattle.proxy_core.proofs.Treatings.{took_now, made_now}

-- with this half, these tables, notes and ring
abbrev pub shown : Inside → SendState → Tables → List Noted → RingState → Now
shown it half tables noted ring = record {
  side = half.side;
  token = it.counts.token;
  fault = it.fault;
  kept = record {
    ring = ring;
    accepted = it.counts.accepted;
    heard_close = it.counts.closed;
    closing = closing_of it.closing;
    last = it.last;
    jobs = jobs_of it.past half.jobs;
    notes = noted;
  };
  live = record {
    here = option_map (here_of ring it.counts) it.link;
    tables = tables;
    sending = half.sending;
    taking = it.taking.taking;
    items = it.taking.items;
    receipts = map receipt_item half.receipts;
  };
}

pub view_took : (it : Inside) (t : Treated) (tables : Tables) → it.past ≡ None → it.sending.noted ≡ [] → tables ≡ t.tables
    → shown it (noted_taken t it.sending) tables (it.notes.items ++ (it.sending.noted ++ notes.Taken t.message ∷ [])) it.ring ≡ took_now t (now_of it)
view_took it t tables past none e =
    ap (λ (tb : Tables). shown it (noted_taken t it.sending) tb (it.notes.items ++ (it.sending.noted ++ notes.Taken t.message ∷ [])) it.ring) e
    ∙ ap (λ (ns : List Noted). shown it (noted_taken t it.sending) t.tables (it.notes.items ++ (ns ++ notes.Taken t.message ∷ [])) it.ring) none
    ∙ ap (λ (p : Option Past). record (took_now t (now_of it)) { kept = record (took_now t (now_of it)).kept { jobs = jobs_of p t.jobs } }) past

map_append : {X Y : Type 0} (f : X → Y) (xs ys : List X) → map f (xs ++ ys) ≡ map f xs ++ map f ys
map_append f [] ys = refl
map_append f (x ∷ xs) ys = ap (λ zs. f x ∷ zs) (map_append f xs ys)

pub view_made : (it : Inside) (base : SendState) (made : MadeGroup) (tables : Tables) → it.past ≡ None → base.frames ≡ [] → Sound (now_of it)
    → shown it (with_made made base) tables (it.notes.items ++ (base.noted ++ notes.Group made.frames made.copies ∷ [])) (ring_push_all (map spelling (base.frames ++ made.frames)) it.ring)
    ≡ made_now made (shown it base tables (it.notes.items ++ base.noted) it.ring)
view_made it base made tables past none sound =
    let frames : map spelling (base.frames ++ made.frames) ≡ map spelling made.frames = ap (λ (fs : List Frame). map spelling (fs ++ made.frames)) none in
    let all : List Noted = it.notes.items ++ (base.noted ++ notes.Group made.frames made.copies ∷ []) in
    let ring : RingState = ring_push_all (map spelling made.frames) it.ring in
    let before : Now = shown it base tables (it.notes.items ++ base.noted) it.ring in
    ap (λ (bs : List (List ℕ)). shown it (with_made made base) tables all (ring_push_all bs it.ring)) frames
    ∙ ap (λ (ns : List Noted). shown it (with_made made base) tables ns ring) (sym (append_assoc it.notes.items base.noted (notes.Group made.frames made.copies ∷ [])))
    ∙ ap (λ (h : Option Here). record (shown it (with_made made base) tables ((it.notes.items ++ base.noted) ++ notes.Group made.frames made.copies ∷ []) ring) {
      live = record (shown it (with_made made base) tables ((it.notes.items ++ base.noted) ++ notes.Group made.frames made.copies ∷ []) ring).live { here = h };
    }) (here_pushed it.ring (map spelling made.frames) it.counts it.counts.accepted it.last it.link sound.here)
    ∙ ap (λ (rs : List PeerOut). record (made_now made before) { kept = record (made_now made before).kept { jobs = jobs_of it.past [] }; live = record (made_now made before).live { receipts = rs } }) (map_append receipt_item base.receipts made.receipts)
    ∙ ap (λ (p : Option Past). record (made_now made before) { kept = record (made_now made before).kept { jobs = jobs_of p [] } }) past

-- ---- what the half answered

pub rests_of : (fault : Option HalfFault) (due : Turn) (tables after : Tables) (old new : SendState) → fault ≡ None → TreatsAfter fault (Ok false) due tables after old new → Rests due tables after old new
rests_of None due tables after old new e h = h
rests_of (Some fault) due tables after old new e h = absurd cc

pub took_of : (fault : Option HalfFault) (due : Turn) (tables after : Tables) (old new : SendState) → fault ≡ None → TreatsAfter fault (Ok true) due tables after old new → Took due after old new
took_of None due tables after old new e h = h
took_of (Some fault) due tables after old new e h = absurd cc

pub failed_of : (fault : Option HalfFault) (f : HalfFault) (due : Turn) (tables after : Tables) (old new : SendState) → fault ≡ None → TreatsAfter fault (Err f) due tables after old new
    → Refused f due tables after × Halts f old new
failed_of None f due tables after old new e h = h
failed_of (Some fault) f due tables after old new e h = absurd cc

-- nothing is due, and nothing changed
pub none_treated : (it : Inside) (half : SendState) (tables : Tables) (items : List Noted) → half ≡ it.sending → tables ≡ tables_of it.objects it.handles it.pipes → items ≡ it.notes.items
    → shown it half tables items it.ring ≡ now_of it
none_treated it half tables items a b c =
    ap (λ (h : SendState). shown it h tables items it.ring) a ∙ ap (λ (t : Tables). shown it it.sending t items it.ring) b
    ∙ ap (λ (ns : List Noted). shown it it.sending (tables_of it.objects it.handles it.pipes) ns it.ring) c

-- the proxy halts there
pub half_halts : (it : Inside) (half : SendState) (tables : Tables) (items : List Noted) (ring : RingState) (fault : ProxyFault) → half.side ≡ it.sending.side → half.jobs ≡ it.sending.jobs → items ≡ it.notes.items → ring ≡ it.ring
    → Halted fault (now_of it) (record (shown it half tables items ring) { fault = Some fault })
half_halts it half tables items ring fault side jobs noted same = record {
  fault_is = refl;
  kept = ap (λ (js : List Job). record (now_of it).kept { ring = ring; jobs = jobs_of it.past js; notes = items }) jobs
      ∙ ap (λ (ns : List Noted). record (now_of it).kept { ring = ring; notes = ns }) noted
      ∙ ap (λ (r : RingState). record (now_of it).kept { ring = r }) same;
  side = side;
  token = refl;
}
