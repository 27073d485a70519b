-- What was settled with the pens of a peer changes nothing of what its lines put and write.
use Rattle.std.proofs.Common.{◌≡◌, ℕ, zero, suc, ◌+◌, ◌-◌, ◌/◌, ℤ, Bool, true, false, ◌&&◌, cond, List, [], ◌∷◌, ◌++◌, length, set, map, filter_map, Option, Some, None, is_some, is_none, option_map, position, nat_lt, nat_le, sum, refl, sym, ap, ◌∙◌}
use Rattle.std.specs.List.{list_any}
use Rattle.std.specs.Ordering.{int_eq}
use Rattle.std.proofs.lemmas.List.{map-append, length-map}
use Rattle.wl_text.specs.declared.text_message.TextMessage.{TextMessage}
use Rattle.wl_wire.specs.Wire.{opcode_of}
use Rattle.wp_outside.specs.declared.kinds.HandleKind.{HandleKind}
use Rattle.wp_outside.specs.declared.kinds.Side.{Side}
use Rattle.handle_table.specs.declared.handles.Handle.{Handle}
use Rattle.pool_words.specs.Views.{PoolId, PenState, ReceiptState, wrote, took, note_of}
use Rattle.shm_pools.specs.Files.{FileState, pen_sizes, pen_at, segment_of, offset_of, after_write, after_settle}
use Rattle.shm_pools.specs.declared.notes.FileEyes.{FileEyes}
use Rattle.half_model.specs.declared.items.PeerIn.{PeerIn}
use Rattle.half_model.specs.declared.items.PeerIn.TheVariants as items
use Rattle.script_lang.specs.declared.steps.StepKind.{StepKind}
use Rattle.script_lang.specs.declared.steps.StepKind.TheVariants as line
use Rattle.script_peers.specs.Owning.{Owned, numbers_of, place_of, file_at, changed, kind_by, is_pipe, is_size, words_of, blank, new_file, can_grow, longer, grown, written_from, has_words, filled, eyes_on}
use Rattle.script_peers.specs.Putting.{wants_note, note_if, handle_items, said, items_by, is_free, with_file, with_pipe, with_changed, owned_after}
use Rattle.script_peers.specs.Wires.{piece_of}
use Rattle.script_peers.specs.Scripts.{unsettled_pen, unsettled_file, unsettled}

-- ---- what is as before

pub numbers_same : (files : List FileState) → numbers_of (map unsettled_file files) ≡ numbers_of files
numbers_same [] = refl
numbers_same (f ∷ files) = ap (λ (ns : List ℤ). f.number ∷ ns) (numbers_same files)

sizes_same : (pens : List PenState) → pen_sizes (map unsettled_pen pens) ≡ pen_sizes pens
sizes_same [] = refl
sizes_same (p ∷ pens) = ap (λ (ns : List ℕ). p.words ∷ ns) (sizes_same pens)

notes_same : (pens : List PenState) → map note_of (map unsettled_pen pens) ≡ map note_of pens
notes_same [] = refl
notes_same (p ∷ pens) = ap (λ es. note_of p ∷ es) (notes_same pens)

eyes_same : (f : FileState) → eyes_on (unsettled_file f) ≡ eyes_on f
eyes_same f = ap (λ es. let e : FileEyes = record { number = f.number; eyes = es } in e) (notes_same f.segments)

all_eyes_same : (files : List FileState) → map eyes_on (map unsettled_file files) ≡ map eyes_on files
all_eyes_same [] = refl
all_eyes_same (f ∷ files) =
    ap (λ (e : FileEyes). e ∷ map eyes_on (map unsettled_file files)) (eyes_same f)
    ∙ ap (λ (es : List FileEyes). eyes_on f ∷ es) (all_eyes_same files)

note_same : (wanted : Bool) (own : Owned) → note_if wanted (unsettled own) ≡ note_if wanted own
note_same true own = ap (λ (es : List FileEyes). items.Note (record { files = es }) ∷ []) (all_eyes_same own.files)
note_same false own = refl

-- the handles of numbers, by the numbers of files and of pipes
handles_by : List ℤ → List ℤ → List ℤ → List PeerIn
unfolding handle_items
handles_by files pipes numbers =
    filter_map (λ (number : ℤ). option_map items.Handle
    (option_map (λ (kind : HandleKind). let h : Handle = record { number = number; kind = kind } in h)
    (kind_by (is_some (position (int_eq number) files)) (list_any (int_eq number) pipes)))) numbers

handles_same : (own : Owned) (numbers : List ℤ) → handle_items (unsettled own) numbers ≡ handle_items own numbers
unfolding handles_by
handles_same own numbers = ap (λ (files : List ℤ). handles_by files own.pipes numbers) (numbers_same own.files)

said_same : (peer : Side) (own : Owned) (text : TextMessage) → said peer (unsettled own) text ≡ said peer own text
said_same peer own text =
    let wanted = wants_note peer text.interface (opcode_of text.message) in
    ap (λ (note : List PeerIn). note ++ (handle_items (unsettled own) text.handles ++ piece_of text.message)) (note_same wanted own)
    ∙ ap (λ (handles : List PeerIn). note_if wanted own ++ (handles ++ piece_of text.message)) (handles_same own text.handles)

pub items_same : (own : Owned) (what : StepKind) → items_by (unsettled own) what ≡ items_by own what
items_same own (line.Hex peer bytes) = refl
items_same own (line.Say peer text) = said_same peer own text
items_same own (line.File peer number size) = refl
items_same own (line.Grow peer number size) = refl
items_same own (line.Fill peer number first count value) = refl
items_same own (line.Pipe peer number) = refl
items_same own (line.Give peer number) = handles_same own (number ∷ [])
items_same own (line.Put peer pipe bytes) = refl
items_same own (line.End peer pipe) = refl
items_same own (line.Shut peer number) = refl
items_same own (line.Await peer count) = refl
items_same own (line.Take peer bytes) = refl
items_same own (line.Load words) = refl
items_same own line.Connect = refl
items_same own line.Break = refl
items_same own (line.Send dir bytes) = refl
items_same own (line.Recv dir bytes) = refl
items_same own (line.Both dir bytes) = refl
items_same own (line.Spoil dir offset byte) = refl
items_same own (line.Cut dir bytes) = refl
items_same own (line.Close peer) = refl
items_same own line.Settle = refl
items_same own (line.Drain bytes) = refl
items_same own line.Stop = refl

free_same : (number : ℤ) (own : Owned) → is_free number (unsettled own) ≡ is_free number own
free_same number own =
    ap (λ (files : List ℤ). is_none (kind_by (is_some (position (int_eq number) files)) (is_pipe number own))) (numbers_same own.files)

-- ---- what changes alike

-- a file at a place, where the change is the same
changed_alike : (step : FileState → FileState) → ((f : FileState) → step (unsettled_file f) ≡ unsettled_file (step f))
    → (files : List FileState) (k : Option ℕ) → changed step (map unsettled_file files) k ≡ map unsettled_file (changed step files k)
changed_alike step alike files None = refl
changed_alike step alike files (Some k) = by files k
  where
    by : (files : List FileState) (k : ℕ) → set (map unsettled_file files) k (step (file_at (map unsettled_file files) k))
        ≡ map unsettled_file (set files k (step (file_at files k)))
    by [] k = refl
    by (f ∷ files) zero = ap (λ (g : FileState). g ∷ map unsettled_file files) (alike f)
    by (f ∷ files) (suc k) = ap (λ (gs : List FileState). unsettled_file f ∷ gs) (by files k)

changed_alike_by : (number : ℤ) (step : FileState → FileState) (own : Owned) → ((f : FileState) → step (unsettled_file f) ≡ unsettled_file (step f))
    → with_changed number step (unsettled own) ≡ unsettled (with_changed number step own)
changed_alike_by number step own alike =
    ap (λ (files : List FileState). let o : Owned = record { files = files; pipes = own.pipes } in o)
    (ap (λ (ns : List ℤ). changed step (map unsettled_file own.files) (position (int_eq number) ns)) (numbers_same own.files)
    ∙ changed_alike step alike own.files (place_of number own.files))

-- a file grows
grown_by : PoolId → ℕ → FileState → List ℕ → ℕ → FileState
grown_by pool bytes f sizes count =
    cond (is_size bytes && nat_lt (sum sizes) (bytes / 8) && nat_lt count 64)
    (record { number = f.number; segments = map unsettled_pen f.segments ++ blank pool f.number count (bytes / 8 - sum sizes) ∷ [] })
    (unsettled_file f)

grown_alike : (pool : PoolId) (bytes : ℕ) (f : FileState) → grown pool bytes (unsettled_file f) ≡ unsettled_file (grown pool bytes f)
unfolding grown_by
grown_alike pool bytes f =
    ap (λ (sizes : List ℕ). grown_by pool bytes f sizes (length (map unsettled_pen f.segments))) (sizes_same f.segments)
    ∙ ap (grown_by pool bytes f (pen_sizes f.segments)) (length-map f.segments unsettled_pen)
    ∙ by (can_grow bytes f)
  where
    more : List PenState
    more = blank pool f.number (length f.segments) (bytes / 8 - words_of f) ∷ []

    by : (b : Bool) → cond b (record { number = f.number; segments = map unsettled_pen f.segments ++ more }) (unsettled_file f)
        ≡ unsettled_file (cond b (longer pool bytes f) f)
    by true = ap (λ (pens : List PenState). let g : FileState = record { number = f.number; segments = pens } in g) (sym (map-append unsettled_pen f.segments more))
    by false = refl

-- a word is written
wrote_alike : (pens : List PenState) (k offset v : ℕ)
    → set (map unsettled_pen pens) k (wrote (pen_at (map unsettled_pen pens) k) offset v) ≡ map unsettled_pen (set pens k (wrote (pen_at pens k) offset v))
wrote_alike [] k offset v = refl
wrote_alike (p ∷ pens) zero offset v = refl
wrote_alike (p ∷ pens) (suc k) offset v = ap (λ (qs : List PenState). unsettled_pen p ∷ qs) (wrote_alike pens k offset v)

written_alike : (f : FileState) (word v : ℕ) → after_write (unsettled_file f) word v ≡ unsettled_file (after_write f word v)
written_alike f word v =
    ap (λ (pens : List PenState). let g : FileState = record { number = f.number; segments = pens } in g)
    (ap (λ (sizes : List ℕ). set (map unsettled_pen f.segments) (segment_of sizes word)
    (wrote (pen_at (map unsettled_pen f.segments) (segment_of sizes word)) (offset_of sizes word) v)) (sizes_same f.segments)
    ∙ wrote_alike f.segments (segment_of (pen_sizes f.segments) word) (offset_of (pen_sizes f.segments) word) v)

all_written_alike : (first count value : ℕ) (f : FileState)
    → written_from first count value (unsettled_file f) ≡ unsettled_file (written_from first count value f)
all_written_alike first zero value f = refl
all_written_alike first (suc count) value f =
    ap (λ (g : FileState). after_write g (first + count) value) (all_written_alike first count value f)
    ∙ written_alike (written_from first count value f) (first + count) value

filled_alike : (first count value : ℕ) (f : FileState) → filled first count value (unsettled_file f) ≡ unsettled_file (filled first count value f)
filled_alike first count value f =
    ap (λ (sizes : List ℕ). cond (nat_le (first + count) (sum sizes)) (written_from first count value (unsettled_file f)) (unsettled_file f)) (sizes_same f.segments)
    ∙ by (has_words first count f)
  where
    by : (b : Bool) → cond b (written_from first count value (unsettled_file f)) (unsettled_file f)
        ≡ unsettled_file (cond b (written_from first count value f) f)
    by true = all_written_alike first count value f
    by false = refl

file_alike : (pool : PoolId) (number : ℤ) (size : ℕ) (own : Owned)
    → with_file pool number size (unsettled own) ≡ unsettled (with_file pool number size own)
file_alike pool number size own =
    ap (λ (b : Bool). cond (b && is_size size) made (unsettled own)) (free_same number own) ∙ by (is_free number own && is_size size)
  where
    made : Owned
    made = record { files = map unsettled_file own.files ++ new_file pool number size ∷ []; pipes = own.pipes }

    by : (b : Bool) → cond b made (unsettled own)
        ≡ unsettled (cond b (record own { files = own.files ++ new_file pool number size ∷ [] }) own)
    by true =
        ap (λ (files : List FileState). let o : Owned = record { files = files; pipes = own.pipes } in o)
        (sym (map-append unsettled_file own.files (new_file pool number size ∷ [])))
    by false = refl

pipe_alike : (number : ℤ) (own : Owned) → with_pipe number (unsettled own) ≡ unsettled (with_pipe number own)
pipe_alike number own =
    ap (λ (b : Bool). cond b (record (unsettled own) { pipes = own.pipes ++ number ∷ [] }) (unsettled own)) (free_same number own)
    ∙ by (is_free number own)
  where
    by : (b : Bool) → cond b (record (unsettled own) { pipes = own.pipes ++ number ∷ [] }) (unsettled own)
        ≡ unsettled (cond b (record own { pipes = own.pipes ++ number ∷ [] }) own)
    by true = refl
    by false = refl

pub owned_alike : (pool : PoolId) (what : StepKind) (own : Owned) → owned_after pool what (unsettled own) ≡ unsettled (owned_after pool what own)
owned_alike pool (line.Hex peer bytes) own = refl
owned_alike pool (line.Say peer text) own = refl
owned_alike pool (line.File peer number size) own = file_alike pool number size own
owned_alike pool (line.Grow peer number size) own = changed_alike_by number (grown pool size) own (grown_alike pool size)
owned_alike pool (line.Fill peer number first count value) own =
    changed_alike_by number (filled first count value) own (filled_alike first count value)
owned_alike pool (line.Pipe peer number) own = pipe_alike number own
owned_alike pool (line.Give peer number) own = refl
owned_alike pool (line.Put peer pipe bytes) own = refl
owned_alike pool (line.End peer pipe) own = refl
owned_alike pool (line.Shut peer number) own = refl
owned_alike pool (line.Await peer count) own = refl
owned_alike pool (line.Take peer bytes) own = refl
owned_alike pool (line.Load words) own = refl
owned_alike pool line.Connect own = refl
owned_alike pool line.Break own = refl
owned_alike pool (line.Send dir bytes) own = refl
owned_alike pool (line.Recv dir bytes) own = refl
owned_alike pool (line.Both dir bytes) own = refl
owned_alike pool (line.Spoil dir offset byte) own = refl
owned_alike pool (line.Cut dir bytes) own = refl
owned_alike pool (line.Close peer) own = refl
owned_alike pool line.Settle own = refl
owned_alike pool (line.Drain bytes) own = refl
owned_alike pool line.Stop own = refl

-- ---- a receipt is settled

took_same : (pens : List PenState) (k : ℕ) (r : ReceiptState) → map unsettled_pen (set pens k (took (pen_at pens k) r)) ≡ map unsettled_pen pens
took_same [] k r = refl
took_same (p ∷ pens) zero r = refl
took_same (p ∷ pens) (suc k) r = ap (λ (qs : List PenState). unsettled_pen p ∷ qs) (took_same pens k r)

settle_same : (f : FileState) (segment : ℕ) (r : ReceiptState) → unsettled_file (after_settle f segment r) ≡ unsettled_file f
settle_same f segment r =
    ap (λ (pens : List PenState). let g : FileState = record { number = f.number; segments = pens } in g) (took_same f.segments segment r)

settled_same : (segment : ℕ) (r : ReceiptState) (files : List FileState) (k : Option ℕ)
    → map unsettled_file (changed (λ f. after_settle f segment r) files k) ≡ map unsettled_file files
settled_same segment r files None = refl
settled_same segment r files (Some k) = by files k
  where
    by : (files : List FileState) (k : ℕ) → map unsettled_file (set files k (after_settle (file_at files k) segment r)) ≡ map unsettled_file files
    by [] k = refl
    by (f ∷ files) zero = ap (λ (g : FileState). g ∷ map unsettled_file files) (settle_same f segment r)
    by (f ∷ files) (suc k) = ap (λ (gs : List FileState). unsettled_file f ∷ gs) (by files k)

pub own_same : (number : ℤ) (segment : ℕ) (r : ReceiptState) (own : Owned)
    → unsettled (with_changed number (λ f. after_settle f segment r) own) ≡ unsettled own
own_same number segment r own =
    ap (λ (files : List FileState). let o : Owned = record { files = files; pipes = own.pipes } in o)
    (settled_same segment r own.files (place_of number own.files))
