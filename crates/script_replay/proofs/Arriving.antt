-- The pieces that a side reads one behind the other are one.
use Rattle.std.proofs.Common.{◌≡◌, ◌≢◌, ℕ, ◌+◌, ◌-◌, ◌<◌, ◌≤◌, List, [], ◌∷◌, ◌++◌, take, drop, length, true, Some, None, refl, sym, ap, subst, ◌∙◌, arith, append_assoc, length-drop, inl, inr, ◌⊎◌}
use Rattle.std.proofs.Math.Seq.{take-add}
use Rattle.std.proofs.lemmas.List.{append-nil, drop-drop, take_all, length-take-le, length-take, take-take}
use Rattle.wp_outside.specs.declared.kinds.Direction.{Direction}
use Rattle.wp_outside.specs.declared.kinds.Direction.TheVariants.{Up, Down}
use Rattle.wp_outside.specs.Lines.{Line, pulled_from, Became}
use Rattle.side_model.specs.Sound.{MOST_PIECE}
use Rattle.side_model.specs.declared.fault.ProxyFault.{ProxyFault}
use Rattle.pair_model.specs.Lines as model
use Rattle.pair_model.specs.Steps.{on_last, with_read}
use Rattle.pair_runs.specs.Linking.{read, Reads, ReadsInPart}
use Rattle.pair_runs.specs.Sides.{SideState, rows_of, on_rows}
use Rattle.pair_runs.specs.Whys.{RefusesMore}
use Rattle.pair_runs.specs.WorkLaws.{FailsInPart}
use Rattle.pair_runs.specs.Working.{Works, InPart, WorksInPart}
use Rattle.pair_runs.specs.Kept.{HasFailed}
use Rattle.pair_runs.proofs.More.{reads_more, part_more}
use Rattle.pair_runs.proofs.Tying.{works_rows}
use Rattle.script_sides.specs.Answering.{Stays, Stops}
use Rattle.script_sides.specs.Sided.{SideRun, state_of}
use Rattle.wp_outside.specs.declared.kinds.Side.{Side}
use Rattle.script_replay.specs.Coming.{waiting_on, size_of, ReadsSome, ReadsBadly, Came}
use Rattle.script_replay.specs.Sending.{RunsUp, LeavesPeer}
use Rattle.script_replay.proofs.Leaving.{became_twice, leaves_twice, runs_still}

-- ---- a lane

pub pulled_none : (dir : Direction) (line : Line) → line ≡ pulled_from dir 0 line
pulled_none Up line = ap (λ (bytes : List ℕ). record line { up = record line.up { pulled = bytes } }) (sym (append-nil line.up.pulled))
pulled_none Down line = ap (λ (bytes : List ℕ). record line { down = record line.down { pulled = bytes } }) (sym (append-nil line.down.pulled))

pulled_more : (pulled waiting : List ℕ) (n m : ℕ) → (pulled ++ take n waiting) ++ take m (drop n waiting) ≡ pulled ++ take (n + m) waiting
pulled_more pulled waiting n m = append_assoc pulled (take n waiting) (take m (drop n waiting)) ∙ ap (λ (bytes : List ℕ). pulled ++ bytes) (sym (take-add n m waiting))

pulled_twice : (dir : Direction) (n m : ℕ) (line : Line) → pulled_from dir m (pulled_from dir n line) ≡ pulled_from dir (n + m) line
pulled_twice Up n m line =
    ap (λ (bytes : List ℕ). record line { up = record line.up { pulled = bytes; waiting = drop m (drop n line.up.waiting) } }) (pulled_more line.up.pulled line.up.waiting n m)
    ∙ ap (λ (bytes : List ℕ). record line { up = record line.up { pulled = line.up.pulled ++ take (n + m) line.up.waiting; waiting = bytes } }) (drop-drop m n line.up.waiting)
pulled_twice Down n m line =
    ap (λ (bytes : List ℕ). record line { down = record line.down { pulled = bytes; waiting = drop m (drop n line.down.waiting) } }) (pulled_more line.down.pulled line.down.waiting n m)
    ∙ ap (λ (bytes : List ℕ). record line { down = record line.down { pulled = line.down.pulled ++ take (n + m) line.down.waiting; waiting = bytes } }) (drop-drop m n line.down.waiting)

-- what waits behind a pull
left_waiting : (dir : Direction) (n c : ℕ) (before after : ℕ → Line) → Became before after c (pulled_from dir n) → waiting_on dir c after ≡ drop n (waiting_on dir c before)
left_waiting Up n c before after b = ap (λ (it : Line). it.up.waiting) b.here
left_waiting Down n c before after b = ap (λ (it : Line). it.down.waiting) b.here

-- ---- bytes that are read

pub last_none : (rows : List model.Line) → on_last (with_read []) rows ≡ rows
last_none [] = refl
last_none (line ∷ []) = ap (λ (bytes : List ℕ). record line { read = bytes } ∷ []) (append-nil line.read)
last_none (line ∷ next ∷ rows) = ap (λ (lines : List model.Line). line ∷ lines) (last_none (next ∷ rows))

read_none : (a : SideState) → read [] a ≡ a
read_none a = ap (λ (rows : List model.Line). on_rows (λ _. rows) a) (last_none (rows_of a))

reads_then : (one other : List ℕ) (a b c : SideState) → Reads one a b → Reads other b c → Reads (one ++ other) a c
reads_then [] other a b c h k = subst (λ (it : SideState). Reads other it c) h k
reads_then (byte ∷ one) [] a b c h k = subst (λ (bytes : List ℕ). Reads (byte ∷ bytes) a c) (sym (append-nil one)) (subst (λ (it : SideState). Reads (byte ∷ one) a it) (sym k) h)
reads_then (byte ∷ one) (next ∷ other) a b c h k = (h.0, reads_more (byte ∷ one) (next ∷ other) a b c h.1 k.1)

-- where a piece is refused, what was read before it stays
part_behind : (got : List ℕ) (a b c : SideState) → Reads got a b → InPart b c → InPart (read got a) c
part_behind [] a b c h k = subst (λ (it : SideState). InPart it c) (sym (read_none a)) (subst (λ (it : SideState). InPart it c) h k)
part_behind (byte ∷ got) a b c h k = part_more.part (read (byte ∷ got) a) b c h.1 k

part_with : (fault : ProxyFault) (got piece : List ℕ) (a b c : SideState) → Reads got a b → WorksInPart true None fault (read piece b) c → WorksInPart true None fault (read (got ++ piece) a) c
part_with fault [] piece a b c h k = subst (λ (it : SideState). WorksInPart true None fault (read piece it) c) h k
part_with fault (byte ∷ got) piece a b c h k = part_more.reads fault (byte ∷ got) piece a b c h.1 k

-- ---- a piece

reads_by : (piece : List ℕ) (a b : SideState) → 0 < length piece → rows_of a ≢ [] → Works true (read piece a) b → Reads piece a b
reads_by [] a b l some works = absurd (omega (arith, l))
reads_by (byte ∷ piece) a b l some works = (some, works)

long_piece : (connection most count : ℕ) (dir : Direction) (before : ℕ → Line) (piece : List ℕ) → count ≡ size_of most (waiting_on dir connection before) → piece ≡ take count (waiting_on dir connection before) → length piece ≡ count
long_piece connection most count dir before piece size e = ap length e ∙ length-take-le count (waiting_on dir connection before) (omega (arith, size))

-- a piece is read
pub reads_some : (connection most count : ℕ) (dir : Direction) (old new : SideRun) (before after : ℕ → Line) (piece : List ℕ) → RunsUp old → 0 < count → count ≡ size_of most (waiting_on dir connection before) → Became before after connection (pulled_from dir count)
    → piece ≡ take count (waiting_on dir connection before) → Works true (read piece (state_of old)) (state_of new) → Stays old new → new.peer.wire ≡ old.peer.wire → ReadsSome count most connection dir old new before after
reads_some connection most count dir old new before after piece up some size change e works stays wire = record {
  size = size;
  change = change;
  reads = subst (λ (bytes : List ℕ). Reads bytes (state_of old) (state_of new)) e
      (reads_by piece (state_of old) (state_of new) (omega (arith, some, long_piece connection most count dir before piece size e)) up.some works);
  stays = runs_still old new (with_read piece) up stays.ready stays.up (works_rows true (read piece (state_of old)) (state_of new) works);
  peer = record { side_is = stays.side; wire = wire };
}

-- or the side meets a fault with it
pub reads_badly : (connection most count : ℕ) (dir : Direction) (fault : ProxyFault) (old new : SideRun) (before after : ℕ → Line) (piece : List ℕ) → 0 < count → count ≡ size_of most (waiting_on dir connection before) → Became before after connection (pulled_from dir count)
    → piece ≡ take count (waiting_on dir connection before) → FailsInPart (length piece) fault (state_of old) (read piece (state_of old)) (state_of new) → Stops old new fault → new.peer.wire ≡ old.peer.wire → ReadsBadly fault most connection dir old new before after
reads_badly connection most count dir fault old new before after piece some size change e part stops wire = record {
  count = count;
  some = some;
  size = size;
  change = change;
  part = subst (λ (bytes : List ℕ). FailsInPart count fault (state_of old) (read bytes (state_of old)) (state_of new)) e
      (subst (λ (n : ℕ). FailsInPart n fault (state_of old) (read piece (state_of old)) (state_of new)) (long_piece connection most count dir before piece size e) part);
  failed = subst (λ (side : Side). HasFailed side (state_of new) fault) (sym stops.side) stops.failed;
  peer = record { side_is = stops.side; wire = wire };
}

-- ---- the pieces so far

pub record ReadSoFar (connection : ℕ) (dir : Direction) (first now : SideRun) (before after : ℕ → Line) (count : ℕ) : Type 0 where
  pub few : count ≤ length (waiting_on dir connection before)
  pub reads : Reads (take count (waiting_on dir connection before)) (state_of first) (state_of now)
  pub change : Became before after connection (pulled_from dir count)
  pub runs : RunsUp now
  pub peer : LeavesPeer first now

pub come_none : (connection : ℕ) (dir : Direction) (first : SideRun) (line : ℕ → Line) → RunsUp first → ReadSoFar connection dir first first line line 0
come_none connection dir first line runs = record {
  few = omega arith;
  reads = refl;
  change = record { here = pulled_none dir (line connection); others = λ n apart. refl };
  runs = runs;
  peer = record { side_is = refl; wire = refl };
}

-- the next piece, of what waits then
record Next (dir : Direction) (connection count more most : ℕ) (before middle : ℕ → Line) : Type 0 where
  few : count + more ≤ length (waiting_on dir connection before)
  bytes : take (count + more) (waiting_on dir connection before) ≡ take count (waiting_on dir connection before) ++ take more (waiting_on dir connection middle)
  left : length (waiting_on dir connection middle) ≡ length (waiting_on dir connection before) - count

next_piece : (dir : Direction) (connection count more most : ℕ) (before middle : ℕ → Line) → count ≤ length (waiting_on dir connection before) → Became before middle connection (pulled_from dir count) → more ≡ size_of most (waiting_on dir connection middle)
    → Next dir connection count more most before middle
next_piece dir connection count more most before middle few change size =
    let waits : waiting_on dir connection middle ≡ drop count (waiting_on dir connection before) = left_waiting dir count connection before middle change in
    let left : length (waiting_on dir connection middle) ≡ length (waiting_on dir connection before) - count = ap length waits ∙ length-drop count (waiting_on dir connection before) in
    record {
      few = omega (arith, few, size, left);
      bytes = take-add count more (waiting_on dir connection before) ∙ ap (λ (rest : List ℕ). take count (waiting_on dir connection before) ++ take more rest) (sym waits);
      left = left;
    }

pub come_more : (connection count most more : ℕ) (dir : Direction) (first old new : SideRun) (before middle after : ℕ → Line) → ReadSoFar connection dir first old before middle count → ReadsSome more most connection dir old new middle after
    → ReadSoFar connection dir first new before after (count + more)
come_more connection count most more dir first old new before middle after so_far piece =
    let next : Next dir connection count more most before middle = next_piece dir connection count more most before middle so_far.few so_far.change piece.size in
    record {
      few = next.few;
      reads = subst (λ (bytes : List ℕ). Reads bytes (state_of first) (state_of new)) (sym next.bytes)
          (reads_then (take count (waiting_on dir connection before)) (take more (waiting_on dir connection middle)) (state_of first) (state_of old) (state_of new) so_far.reads piece.reads);
      change = became_twice before middle after connection (pulled_from dir count) (pulled_from dir more) (pulled_from dir (count + more)) (pulled_twice dir count more) so_far.change piece.change;
      runs = piece.stays;
      peer = leaves_twice first old new so_far.peer piece.peer;
    }

-- all that may be read is, or all that waited
pub come_all : (connection count most : ℕ) (dir : Direction) (first now : SideRun) (before after : ℕ → Line) → count ≤ most → (count ≡ most) ⊎ (count ≡ length (waiting_on dir connection before)) → ReadSoFar connection dir first now before after count
    → Came most connection dir first now before after None
come_all connection count most dir first now before after few end so_far = record {
  comes = (
    subst (λ (bytes : List ℕ). Reads bytes (state_of first) (state_of now)) (same end) so_far.reads,
    subst (λ (n : ℕ). Became before after connection (pulled_from dir n)) (sym (long end)) so_far.change,
  );
  stays = so_far.runs;
  peer = so_far.peer;
}
  where
    waiting : List ℕ
    waiting = waiting_on dir connection before

    same : (count ≡ most) ⊎ (count ≡ length waiting) → take count waiting ≡ take most waiting
    same (inl e) = ap (λ (n : ℕ). take n waiting) e
    same (inr e) = take_all count waiting (omega (arith, e)) ∙ sym (take_all most waiting (omega (arith, e, few)))

    long : (count ≡ most) ⊎ (count ≡ length waiting) → length (take most waiting) ≡ count
    long end = ap length (sym (same end)) ∙ length-take-le count waiting so_far.few

pub come_out : (connection count most more : ℕ) (dir : Direction) (first old new : SideRun) (before middle after : ℕ → Line) → count < most → more ≡ 0 → ReadSoFar connection dir first old before middle count
    → ReadsSome more (most - count) connection dir old new middle after → Came most connection dir first new before after None
come_out connection count most more dir first old new before middle after few none so_far piece =
    let next : Next dir connection count more (most - count) before middle = next_piece dir connection count more (most - count) before middle so_far.few so_far.change piece.size in
    let all : ReadSoFar connection dir first new before after (count + more) = come_more connection count (most - count) more dir first old new before middle after so_far piece in
    come_all connection (count + more) most dir first new before after (omega (arith, none, few)) (inr (omega (arith, none, few, next.left, piece.size, so_far.few))) all

-- or the side meets a fault with the next piece
pub come_part : (connection count most : ℕ) (dir : Direction) (fault : ProxyFault) (first old new : SideRun) (before middle after : ℕ → Line) → count ≤ most → ReadSoFar connection dir first old before middle count
    → ReadsBadly fault (most - count) connection dir old new middle after → Came most connection dir first new before after (Some fault)
come_part connection count most dir fault first old new before middle after few so_far bad = record {
  comes = (pulled, in_part bad.part, subst (λ (n : ℕ). Became before after connection (pulled_from dir n)) (sym long) (became_twice before middle after connection (pulled_from dir count) (pulled_from dir bad.count) (pulled_from dir (count + bad.count)) (pulled_twice dir count bad.count) so_far.change bad.change));
  stays = bad.failed;
  peer = leaves_twice first old new so_far.peer bad.peer;
}
  where
    waiting : List ℕ
    waiting = waiting_on dir connection before

    got : List ℕ
    got = take count waiting

    piece : List ℕ
    piece = take bad.count (waiting_on dir connection middle)

    pulled : List ℕ
    pulled = take (count + bad.count) waiting

    next : Next dir connection count bad.count (most - count) before middle
    next = next_piece dir connection count bad.count (most - count) before middle so_far.few so_far.change bad.size

    long : length pulled ≡ count + bad.count
    long = length-take-le (count + bad.count) waiting next.few

    within : count + bad.count ≤ most
    within = omega (arith, bad.size, few)

    front : pulled ≡ take (length pulled) (take most waiting)
    front = sym (take-take (count + bad.count) most waiting within) ∙ ap (λ (n : ℕ). take n (take most waiting)) (sym long)

    fits : length pulled ≤ length (take most waiting)
    fits = omega (arith, long, next.few, within, length-take most waiting)

    small : length piece ≤ MOST_PIECE
    small = omega (arith, length-take bad.count (waiting_on dir connection middle), bad.size)

    long_rest : length piece ≡ bad.count
    long_rest = length-take-le bad.count (waiting_on dir connection middle) (omega (arith, bad.size))

    has_bytes : piece ≡ [] → ⊥
    has_bytes none = omega (arith, ap length none, long_rest, bad.some)

    in_part : FailsInPart bad.count fault (state_of old) (read piece (state_of old)) (state_of new) → ReadsInPart (take most waiting) fault pulled (state_of first) (state_of new)
    in_part (inl refuses) = record {
      few = fits;
      front = front;
      got = got;
      refused = piece;
      split = next.bytes;
      piece = small;
      because = λ some. subst (λ (n : ℕ). RefusesMore n fault (state_of new).book.trail) (sym long_rest) refuses.0;
      part = part_behind got (state_of first) (state_of old) (state_of new) so_far.reads refuses.1;
      why = λ none. absurd (has_bytes none);
    }
    in_part (inr done) = record {
      few = fits;
      front = front;
      got = got ++ piece;
      refused = [];
      split = next.bytes ∙ sym (append-nil (got ++ piece));
      piece = omega arith;
      because = λ some. absurd (some refl);
      part = (part_with fault got piece (state_of first) (state_of old) (state_of new) so_far.reads done).part;
      why = λ none. part_with fault got piece (state_of first) (state_of old) (state_of new) so_far.reads done;
    }

-- ---- the loop

-- so many bytes are left to be read
pub record ComesOn (most left connection : ℕ) (dir : Direction) (first now : SideRun) (before after : ℕ → Line) : Type 0 where
  pub few : left ≤ most
  pub so_far : ReadSoFar connection dir first now before after (most - left)

pub comes_first : (most connection : ℕ) (dir : Direction) (first : SideRun) (line : ℕ → Line) → RunsUp first → ComesOn most most connection dir first first line line
comes_first most connection dir first line runs = record {
  few = omega arith;
  so_far = let none : 0 ≡ most - most = omega arith in subst (λ (n : ℕ). ReadSoFar connection dir first first line line n) none (come_none connection dir first line runs);
}

few_read : (most : ℕ) (waiting : List ℕ) (count : ℕ) → count ≡ size_of most waiting → count ≤ most
few_read most waiting count size = omega (arith, size)

pub comes_more : (most left more connection : ℕ) (dir : Direction) (first old new : SideRun) (before middle after : ℕ → Line) → ComesOn most left connection dir first old before middle → ReadsSome more left connection dir old new middle after
    → ComesOn most (left - more) connection dir first new before after
comes_more most left more connection dir first old new before middle after on piece = record {
  few = omega (arith, on.few);
  so_far =
      let sum : (most - left) + more ≡ most - (left - more) = omega (arith, on.few, few_read left (waiting_on dir connection middle) more piece.size) in
      subst (λ (n : ℕ). ReadSoFar connection dir first new before after n) sum (come_more connection (most - left) left more dir first old new before middle after on.so_far piece);
}

pub comes_all : (most left connection : ℕ) (dir : Direction) (first now : SideRun) (before after : ℕ → Line) → left ≡ 0 → ComesOn most left connection dir first now before after → Came most connection dir first now before after None
comes_all most left connection dir first now before after none on = come_all connection (most - left) most dir first now before after (omega arith) (inl (omega (arith, none))) on.so_far

pub comes_out : (most left more connection : ℕ) (dir : Direction) (first old new : SideRun) (before middle after : ℕ → Line) → 0 < left → more ≡ 0 → ComesOn most left connection dir first old before middle → ReadsSome more left connection dir old new middle after
    → Came most connection dir first new before after None
comes_out most left more connection dir first old new before middle after some none on piece =
    let rest : left ≡ most - (most - left) = omega (arith, on.few) in
    come_out connection (most - left) most more dir first old new before middle after (omega (arith, some, on.few)) none on.so_far (subst (λ (n : ℕ). ReadsSome more n connection dir old new middle after) rest piece)

pub comes_part : (most left connection : ℕ) (dir : Direction) (fault : ProxyFault) (first old new : SideRun) (before middle after : ℕ → Line) → ComesOn most left connection dir first old before middle → ReadsBadly fault left connection dir old new middle after
    → Came most connection dir first new before after (Some fault)
comes_part most left connection dir fault first old new before middle after on bad =
    let rest : left ≡ most - (most - left) = omega (arith, on.few) in
    come_part connection (most - left) most dir fault first old new before middle after (omega arith) on.so_far (subst (λ (n : ℕ). ReadsBadly fault n connection dir old new middle after) rest bad)
