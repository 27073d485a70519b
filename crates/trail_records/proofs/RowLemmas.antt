-- The last line of a side, and the room behind what was written on it.
use Rattle.std.proofs.Common.{◌≡◌, ℕ, ◌+◌, ◌≤◌, List, [], ◌∷◌, ◌++◌, Vec, Global, Result, Ok, Err, vec_len, map, refl, sym, ap, subst, ◌∙◌, arith}
use Rattle.std.specs.Prelude.{OnOk}
use Rattle.std.specs.Vec.{vec_capacity}
use Rattle.pair_model.specs.Lines.{Line}
use Rattle.pair_model.specs.Steps.{on_last, with_read, with_written}
use Rattle.trail_records.specs.declared.lines.LineRecord.{LineRecord}
use Rattle.trail_records.specs.Rows.{line_of, HasRoom}

pub room_last : (room : ℕ) (rows : List LineRecord) (line : LineRecord) → HasRoom room (rows ++ line ∷ []) → vec_len line.written + room ≤ vec_capacity line.written
room_last room [] line h = h
room_last room (l ∷ []) line h = h
room_last room (l ∷ (k ∷ ls)) line h = room_last room (k ∷ ls) line h

pub has_room : (room : ℕ) (rows : List LineRecord) (line : LineRecord) → vec_len line.written + room ≤ vec_capacity line.written → HasRoom room (rows ++ line ∷ [])
has_room room [] line h = h
has_room room (l ∷ []) line h = h
has_room room (l ∷ (k ∷ ls)) line h = has_room room (k ∷ ls) line h

pub lines_push : (rows : List LineRecord) (line : LineRecord) → map line_of (rows ++ line ∷ []) ≡ map line_of rows ++ line_of line ∷ []
lines_push [] line = refl
lines_push (l ∷ ls) line = ap (λ ks. line_of l ∷ ks) (lines_push ls line)

-- the last line is changed
pub changed_last : (change : Line → Line) (rows : List LineRecord) (old new : LineRecord) → line_of new ≡ change (line_of old) → map line_of (rows ++ new ∷ []) ≡ on_last change (map line_of (rows ++ old ∷ []))
changed_last change [] old new e = ap (λ l. l ∷ []) e
changed_last change (l ∷ []) old new e = ap (λ k. line_of l ∷ (k ∷ [])) e
changed_last change (l ∷ (k ∷ ls)) old new e = ap (λ ks. line_of l ∷ ks) (changed_last change (k ∷ ls) old new e)

-- more room is enough
pub less_room : (n m : ℕ) (rows : List LineRecord) → n ≤ m → HasRoom m rows → HasRoom n rows
less_room n m [] l h = tt
less_room n m (line ∷ []) l h = omega (arith, l, h)
less_room n m (line ∷ (next ∷ lines)) l h = less_room n m (next ∷ lines) l h

-- ---- the last line, taken out and put back

-- its room
pub room_after : (n m : ℕ) (rows before after : List LineRecord) (old new : LineRecord) → before ≡ rows ++ old ∷ [] → after ≡ rows ++ new ∷ []
    → (vec_len old.written + n ≤ vec_capacity old.written → vec_len new.written + m ≤ vec_capacity new.written) → HasRoom n before → HasRoom m after
room_after n m rows before after old new b a f h =
    subst (λ (ls : List LineRecord). HasRoom m ls) (sym a) (has_room m rows new (f (room_last n rows old (subst (λ (ls : List LineRecord). HasRoom n ls) b h))))

pub room_put : (m : ℕ) (rows after : List LineRecord) (new : LineRecord) → after ≡ rows ++ new ∷ [] → vec_len new.written + m ≤ vec_capacity new.written → HasRoom m after
room_put m rows after new a h = subst (λ (ls : List LineRecord). HasRoom m ls) (sym a) (has_room m rows new h)

-- bytes that were read
pub last_read : (piece read : List ℕ) (rows before after : List LineRecord) (old : LineRecord) → before ≡ rows ++ old ∷ [] → after ≡ rows ++ record old { read = read } ∷ [] → read ≡ old.read ++ piece
    → map line_of after ≡ on_last (with_read piece) (map line_of before)
last_read piece read rows before after old b a e =
    ap (λ (ls : List LineRecord). map line_of ls) a
    ∙ changed_last (with_read piece) rows old (record old { read = read }) (ap (λ (bytes : List ℕ). record (line_of old) { read = bytes }) e)
    ∙ ap (λ (ls : List LineRecord). on_last (with_read piece) (map line_of ls)) (sym b)

-- and written
pub last_written : (bytes : List ℕ) (written : Vec ℕ Global) (rows before after : List LineRecord) (old : LineRecord) → before ≡ rows ++ old ∷ [] → after ≡ rows ++ record old { written = written } ∷ []
    → written.items ≡ old.written.items ++ bytes → map line_of after ≡ on_last (with_written bytes) (map line_of before)
last_written bytes written rows before after old b a e =
    ap (λ (ls : List LineRecord). map line_of ls) a
    ∙ changed_last (with_written bytes) rows old (record old { written = written }) (ap (λ (ns : List ℕ). record (line_of old) { written = ns }) e)
    ∙ ap (λ (ls : List LineRecord). on_last (with_written bytes) (map line_of ls)) (sym b)

pub ok_then : {T E P Q : Type 0} (r : Result T E) → (P → Q) → OnOk r P → OnOk r Q
ok_then (Ok x) f h = f h
ok_then (Err e) f h = h
