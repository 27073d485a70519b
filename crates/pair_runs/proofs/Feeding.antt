-- What of the items that a peer put is in a side, and what waits there behind the messages that were taken.
use Rattle.std.proofs.Common.{◌≡◌, ℕ, zero, suc, ◌+◌, ◌≤◌, nat_lt, Bool, true, false, if◌then◌else◌, List, [], ◌∷◌, ◌++◌, map, take, drop, length, Option, Some, None, refl, sym, ap, subst, ◌∙◌, append_assoc, arith}
use Rattle.std.proofs.lemmas.Bool.{ltb-true}
use Rattle.std.proofs.lemmas.List.{append-nil, map-append, length-append}
use Rattle.std.proofs.lemmas.List.Concat.{flat_map-append}
use Rattle.std.specs.List.{AllByRecursion}
use Rattle.wl_wire.specs.Wire.{joined, IsMessage}
use Rattle.wp_outside.specs.declared.kinds.HandleKind.{HandleKind}
use Rattle.wp_outside.specs.declared.kinds.Side.{Side}
use Rattle.wl_objects.specs.Entries.{Tracked, first_objects}
use Rattle.pair_model.specs.Lines.{Line}
use Rattle.side_model.specs.Books.{Book}
use Rattle.handle_table.specs.declared.handles.Handle.{Handle}
use Rattle.shm_pools.specs.declared.notes.Note.{Note}
use Rattle.half_model.specs.declared.deeds.Deed.{Deed}
use Rattle.half_model.specs.declared.deeds.Deed.TheVariants.{Commit, Keymap}
use Rattle.half_model.specs.declared.items.PeerIn.{PeerIn}
use Rattle.half_model.specs.declared.items.PeerIn.TheVariants as items
use Rattle.half_model.specs.Inlet.{Inlet, no_inlet, with_bytes, with_handle, with_note, with_item, end_of, without_ready, handles_left, notes_left, inlet_after}
use Rattle.pair_runs.specs.Leaving.{Use, after_uses, Leaves, Passes}
use Rattle.pair_runs.specs.Putting.{spread_item, spread, with_items, inlet_of, TakenOf}
use Rattle.pair_runs.specs.Runs.{bytes_in}
use Rattle.pair_runs.specs.Sides.{SideState, fed, on_rows}
use Rattle.pair_runs.specs.Taking.{behind, piece_size, cut_item}
use Rattle.pair_runs.specs.Working.{Grows, Works}
use Rattle.pair_runs.proofs.Composing.{all_then, leaves_then}
use Rattle.pair_runs.proofs.Tracking.{passes_then}

-- ---- an inlet with items

pub with_items_then : (xs ys : List PeerIn) (inlet : Inlet) → with_items (xs ++ ys) inlet ≡ with_items ys (with_items xs inlet)
with_items_then [] ys inlet = refl
with_items_then (x ∷ xs) ys inlet = with_items_then xs ys (with_item x inlet)

same_inlet : (inlet : Inlet) {b c : List ℕ} {n m : ℕ} → b ≡ c → n ≡ m → record inlet { bytes = b; fed = n } ≡ record inlet { bytes = c; fed = m }
same_inlet inlet {b} {c} {n} {m} e d = ap (λ (bytes : List ℕ). record inlet { bytes = bytes; fed = n }) e ∙ ap (λ (k : ℕ). record inlet { bytes = c; fed = k }) d

byte_by_byte : (bytes : List ℕ) (inlet : Inlet) → with_items (map (λ byte. items.Bytes (byte ∷ [])) bytes) inlet ≡ with_bytes bytes inlet
byte_by_byte [] inlet = same_inlet inlet (sym (append-nil inlet.bytes)) (omega arith)
byte_by_byte (byte ∷ bytes) inlet =
    byte_by_byte bytes (with_bytes (byte ∷ []) inlet)
    ∙ same_inlet inlet (append_assoc inlet.bytes (byte ∷ []) bytes) (omega arith)

pub spread_in : (item : PeerIn) (inlet : Inlet) → with_items (spread_item item) inlet ≡ with_item item inlet
spread_in (items.Bytes bytes) inlet = byte_by_byte bytes inlet
spread_in (items.Handle handle) inlet = refl
spread_in (items.Note note) inlet = refl
spread_in (items.Pipe item) inlet = refl

pub bytes_with : (put : List PeerIn) (inlet : Inlet) → (with_items put inlet).bytes ≡ inlet.bytes ++ bytes_in put
bytes_with [] inlet = sym (append-nil inlet.bytes)
bytes_with (items.Bytes bytes ∷ put) inlet = bytes_with put (with_bytes bytes inlet) ∙ append_assoc inlet.bytes bytes (bytes_in put)
bytes_with (items.Handle handle ∷ put) inlet = bytes_with put (with_item (items.Handle handle) inlet)
bytes_with (items.Note note ∷ put) inlet = bytes_with put (with_item (items.Note note) inlet)
bytes_with (items.Pipe item ∷ put) inlet = bytes_with put inlet

-- the bytes that were fed are those that were taken and those that wait
abbrev pub IsCounted : Inlet → Type 0
IsCounted inlet = inlet.fed ≡ inlet.taken + length inlet.bytes

item_counted : (item : PeerIn) (inlet : Inlet) → IsCounted inlet → IsCounted (with_item item inlet)
item_counted (items.Bytes bytes) inlet c = omega (arith, c, length-append inlet.bytes bytes)
item_counted (items.Handle handle) inlet c = c
item_counted (items.Note note) inlet c = c
item_counted (items.Pipe item) inlet c = c

items_counted : (put : List PeerIn) (inlet : Inlet) → IsCounted inlet → IsCounted (with_items put inlet)
items_counted [] inlet c = c
items_counted (item ∷ put) inlet c = items_counted put (with_item item inlet) (item_counted item inlet c)

-- an item that is put last is not ready for a message whose last byte was put before it
ready_before : {X : Type 0} (end place : ℕ) (x : X) (xs : List (ℕ × X)) → end ≤ place → without_ready end (xs ++ (place, x) ∷ []) ≡ without_ready end xs ++ (place, x) ∷ []
ready_before {X} end place x [] few = go (nat_lt place end) refl
  where
    last : List (ℕ × X)
    last = (place, x) ∷ []

    go : (b : Bool) → nat_lt place end ≡ b → (if b then [] else last) ≡ last
    go true e = absurd (omega (arith, few, ltb-true place end e))
    go false e = refl
ready_before {X} end place x (one ∷ others) few = go (nat_lt one.0 end)
  where
    last : List (ℕ × X)
    last = (place, x) ∷ []

    go : (b : Bool) → (if b then others ++ last else one ∷ (others ++ last)) ≡ (if b then others else one ∷ others) ++ last
    go true = refl
    go false = refl

handle_before : (kind : Option HandleKind) (message : List ℕ) (handle : Handle) (inlet : Inlet) → end_of message inlet ≤ inlet.fed
    → handles_left kind message (with_handle handle inlet) ≡ handles_left kind message inlet ++ (inlet.fed, handle) ∷ []
handle_before None message handle inlet few = refl
handle_before (Some kind) message handle inlet few = ready_before (end_of message inlet) inlet.fed handle inlet.handles few

note_before : (deed : Deed) (message : List ℕ) (note : Note) (inlet : Inlet) → end_of message inlet ≤ inlet.fed
    → notes_left deed message (with_note note inlet) ≡ notes_left deed message inlet ++ (inlet.fed, note) ∷ []
note_before Commit message note inlet few = ready_before (end_of message inlet) inlet.fed note inlet.notes few
note_before (Keymap size) message note inlet few = ready_before (end_of message inlet) inlet.fed note inlet.notes few
note_before _ message note inlet few = refl

drop_front : (front rest : List ℕ) → drop (length front) (front ++ rest) ≡ rest
drop_front [] rest = refl
drop_front (x ∷ front) rest = drop_front front rest

-- what one item leaves alone
handles_with : (kind : Option HandleKind) (message : List ℕ) (inlet other : Inlet) → other.taken ≡ inlet.taken → other.handles ≡ inlet.handles → handles_left kind message other ≡ handles_left kind message inlet
handles_with None message inlet other t e = e
handles_with (Some kind) message inlet other t e = ap (λ (n : ℕ). without_ready (n + length message) other.handles) t ∙ ap (without_ready (end_of message inlet)) e

notes_with : (deed : Deed) (message : List ℕ) (inlet other : Inlet) → other.taken ≡ inlet.taken → other.notes ≡ inlet.notes → notes_left deed message other ≡ notes_left deed message inlet
notes_with Commit message inlet other t e = ap (λ (n : ℕ). without_ready (n + length message) other.notes) t ∙ ap (without_ready (end_of message inlet)) e
notes_with (Keymap size) message inlet other t e = ap (λ (n : ℕ). without_ready (n + length message) other.notes) t ∙ ap (without_ready (end_of message inlet)) e
notes_with _ message inlet other t e = e

abbrev parts : ℕ → ℕ → List ℕ → List (ℕ × Handle) → List (ℕ × Note) → Inlet
parts fed taken bytes handles notes = record { bytes = bytes; fed = fed; taken = taken; handles = handles; notes = notes }

inlet_is : (fed taken : ℕ) {b c : List ℕ} {hs ks : List (ℕ × Handle)} {ns ms : List (ℕ × Note)} → b ≡ c → hs ≡ ks → ns ≡ ms → parts fed taken b hs ns ≡ parts fed taken c ks ms
inlet_is fed taken {b} {c} {hs} {ks} {ns} {ms} e d f =
    ap (λ bytes. parts fed taken bytes hs ns) e ∙ ap (λ handles. parts fed taken c handles ns) d ∙ ap (λ notes. parts fed taken c ks notes) f

drop_then : (message rest piece bytes : List ℕ) → bytes ≡ message ++ rest → drop (length message) (bytes ++ piece) ≡ drop (length message) bytes ++ piece
drop_then message rest piece bytes e =
    ap (λ (all : List ℕ). drop (length message) (all ++ piece)) e ∙ ap (drop (length message)) (append_assoc message rest piece) ∙ drop_front message (rest ++ piece)
    ∙ ap (λ (left : List ℕ). left ++ piece) (sym (ap (drop (length message)) e ∙ drop_front message rest))

-- a message that waits whole uses the same before an item is put behind it and after
use_before : (item : PeerIn) (kind : Option HandleKind) (deed : Deed) (message rest : List ℕ) (inlet : Inlet) → IsCounted inlet → inlet.bytes ≡ message ++ rest
    → inlet_after kind deed message (with_item item inlet) ≡ with_item item (inlet_after kind deed message inlet)
use_before (items.Bytes piece) kind deed message rest inlet c e =
    inlet_is (inlet.fed + length piece) (end_of message inlet) (drop_then message rest piece inlet.bytes e)
    (handles_with kind message inlet (with_bytes piece inlet) refl refl) (notes_with deed message inlet (with_bytes piece inlet) refl refl)
use_before (items.Handle handle) kind deed message rest inlet c e =
    inlet_is inlet.fed (end_of message inlet) refl (handle_before kind message handle inlet (omega (arith, c, ap length e, length-append message rest)))
    (notes_with deed message inlet (with_handle handle inlet) refl refl)
use_before (items.Note note) kind deed message rest inlet c e =
    inlet_is inlet.fed (end_of message inlet) refl (handles_with kind message inlet (with_note note inlet) refl refl)
    (note_before deed message note inlet (omega (arith, c, ap length e, length-append message rest)))
use_before (items.Pipe item) kind deed message rest inlet c e = refl

pub uses_before : (item : PeerIn) (uses : List Use) (rest : List ℕ) (inlet : Inlet) → IsCounted inlet → inlet.bytes ≡ joined (map (λ it. it.message) uses) ++ rest → after_uses uses (with_item item inlet) ≡ with_item item (after_uses uses inlet)
uses_before item [] rest inlet c e = refl
uses_before item (it ∷ uses) rest inlet c e =
    let behind : List ℕ = joined (map (λ it. it.message) uses) ++ rest in
    let front : inlet.bytes ≡ it.message ++ behind = e ∙ append_assoc it.message (joined (map (λ it. it.message) uses)) rest in
    let left : drop (length it.message) inlet.bytes ≡ behind = ap (drop (length it.message)) front ∙ drop_front it.message behind in
    ap (after_uses uses) (use_before item it.kind it.deed it.message behind inlet c front)
    ∙ uses_before item uses rest (inlet_after it.kind it.deed it.message inlet) (omega (arith, c, ap length front, length-append it.message behind, ap length left)) left

pub with_bytes_left : (item : PeerIn) (took : List (List ℕ)) (all left : Inlet) → all.bytes ≡ joined took ++ left.bytes → (with_item item all).bytes ≡ joined took ++ (with_item item left).bytes
with_bytes_left (items.Bytes piece) took all left e = ap (λ (bytes : List ℕ). bytes ++ piece) e ∙ append_assoc (joined took) left.bytes piece
with_bytes_left (items.Handle handle) took all left e = e
with_bytes_left (items.Note note) took all left e = e
with_bytes_left (items.Pipe item) took all left e = e

-- one item more goes in, and waits behind what was left
abbrev pub with_left : (item : PeerIn) (took : List (List ℕ)) (all left : Inlet) → IsCounted all → Leaves took all left → Leaves took (with_item item all) (with_item item left)
with_left item took all left c l = record {
  uses = l.uses;
  took_is = l.took_is;
  left_is =
      ap (with_item item) l.left_is
      ∙ sym (uses_before item l.uses left.bytes all c (l.bytes ∙ ap (λ (messages : List (List ℕ)). joined messages ++ left.bytes) l.took_is));
  bytes = with_bytes_left item took all left l.bytes;
}

-- ---- a side

abbrev pub FedAt : Side → List PeerIn → SideState → List PeerIn → Type 0
FedAt side put it wire = TakenOf side put it.book it.inside.inlet it.inside.objects (spread wire)

take_drop : (n : ℕ) (xs : List ℕ) → take n xs ++ drop n xs ≡ xs
take_drop zero xs = refl
take_drop (suc n) [] = refl
take_drop (suc n) (x ∷ xs) = ap (λ (rest : List ℕ). x ∷ rest) (take_drop n xs)

spread_behind : (bytes : List ℕ) (wire : List PeerIn) → spread (behind bytes wire) ≡ map (λ byte. items.Bytes (byte ∷ [])) bytes ++ spread wire
spread_behind [] wire = refl
spread_behind (byte ∷ bytes) wire = refl

cut_spread : (most : ℕ) (item : PeerIn) (wire : List PeerIn) → spread_item (cut_item most item wire).item ++ spread (cut_item most item wire).rest ≡ spread (item ∷ wire)
cut_spread most (items.Bytes bytes) wire =
    let n : ℕ = piece_size most bytes in
    let one : ℕ → PeerIn = λ byte. items.Bytes (byte ∷ []) in
    ap (λ (rest : List PeerIn). map one (take n bytes) ++ rest) (spread_behind (drop n bytes) wire)
    ∙ sym (append_assoc (map one (take n bytes)) (map one (drop n bytes)) (spread wire))
    ∙ ap (λ (front : List PeerIn). front ++ spread wire) (sym (map-append one (take n bytes) (drop n bytes)) ∙ ap (map one) (take_drop n bytes))
cut_spread most (items.Handle handle) wire = refl
cut_spread most (items.Note note) wire = refl
cut_spread most (items.Pipe item) wire = refl

pub fed_in : (side : Side) (put : List PeerIn) (most : ℕ) (item : PeerIn) (wire : List PeerIn) (a : SideState) → FedAt side put a (item ∷ wire) → FedAt side put (fed (cut_item most item wire).item a) (cut_item most item wire).rest
fed_in side put most item wire a h =
    let it = cut_item most item wire in
    let all : inlet_of (h.ins ++ spread_item it.item) ≡ with_item it.item (inlet_of h.ins) = with_items_then h.ins (spread_item it.item) no_inlet ∙ spread_in it.item (inlet_of h.ins) in
    let l : Leaves a.book.trail.taken (with_item it.item (inlet_of h.ins)) (with_item it.item a.inside.inlet) = with_left it.item a.book.trail.taken (inlet_of h.ins) a.inside.inlet (items_counted h.ins no_inlet (omega arith)) h.left in
    record {
      side_is = h.side_is;
      ins = h.ins ++ spread_item it.item;
      split = append_assoc h.ins (spread_item it.item) (spread it.rest) ∙ ap (λ (rest : List PeerIn). h.ins ++ rest) (cut_spread most item wire) ∙ h.split;
      whole = h.whole;
      left = record { uses = h.left.uses; took_is = h.left.took_is; left_is = l.left_is ∙ ap (after_uses h.left.uses) (sym all); bytes = ap (λ (inlet : Inlet). inlet.bytes) all ∙ l.bytes };
      passes = h.passes;
    }

-- messages are taken
abbrev pub taken_on : (side : Side) (put : List PeerIn) (a b : Book) (took : List (List ℕ)) (waits left : Inlet) (objects after : Tracked) (others : List PeerIn) → Grows took a.trail b.trail → AllByRecursion IsMessage took → (l : Leaves took waits left)
    → Passes side l.uses objects after a.order b.order → TakenOf side put a waits objects others → TakenOf side put b left after others
taken_on side put a b took waits left objects after others g whole l p h =
    let both : Leaves (a.trail.taken ++ took) (inlet_of h.ins) left = leaves_then a.trail.taken took h.left l in
    record {
      side_is = g.side ∙ h.side_is;
      ins = h.ins;
      split = h.split;
      whole = subst (λ (ms : List (List ℕ)). AllByRecursion IsMessage ms) (sym g.taken) (all_then IsMessage a.trail.taken took h.whole whole);
      left = record { uses = h.left.uses ++ l.uses; took_is = g.taken ∙ both.took_is; left_is = both.left_is; bytes = both.bytes ∙ ap (λ (ms : List (List ℕ)). joined ms ++ left.bytes) (sym g.taken) };
      passes = passes_then side h.left.uses l.uses first_objects objects after [] a.order b.order h.passes p;
    }

pub works_fed : (hears : Bool) (side : Side) (put : List PeerIn) (a b : SideState) (wire : List PeerIn) → Works hears a b → FedAt side put a wire → FedAt side put b wire
works_fed hears side put a b wire w h =
    taken_on side put a.book b.book w.took a.inside.inlet b.inside.inlet a.inside.objects b.inside.objects (spread wire) w.trail w.inside.messages w.inside.inlet
    (subst (λ (it : Side). Passes it w.inside.inlet.uses a.inside.objects b.inside.objects a.book.order b.book.order) h.side_is w.passes) h

-- the lines play no part
pub rows_fed : (side : Side) (put : List PeerIn) (a : SideState) (wire : List PeerIn) (change : List Line → List Line) → FedAt side put a wire → FedAt side put (on_rows change a) wire
rows_fed side put a wire change h = record { side_is = h.side_is; ins = h.ins; split = h.split; whole = h.whole; left = h.left; passes = h.passes }

-- more is put
abbrev pub put_more : (side : Side) (put more : List PeerIn) (book : Book) (waits : Inlet) (objects : Tracked) (others : List PeerIn) → TakenOf side put book waits objects others → TakenOf side (put ++ more) book waits objects (others ++ spread more)
put_more side put more book waits objects others h = record {
  side_is = h.side_is;
  ins = h.ins;
  split = sym (append_assoc h.ins others (spread more)) ∙ ap (λ (front : List PeerIn). front ++ spread more) h.split ∙ sym (flat_map-append spread_item put more);
  whole = h.whole;
  left = h.left;
  passes = h.passes;
}
